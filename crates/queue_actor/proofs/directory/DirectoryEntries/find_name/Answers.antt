use Rattle.std.proofs.Common.{sym, ap, ◌∙◌}
use Rattle.std.specs.Str.{bytes_eq}
use Rattle.std.proofs.Math.Seq.{map-set_same}
use Rattle.std.proofs.lemmas.List.Quantifiers.{position-Some}
use Rattle.std.proofs.lemmas.Slice.Eq.{bytes_eq-Decides}
use Rattle.queue_actor.proofs.directory.DirectoryEntries.find_name.Goals as goal

-- lent once more, it keeps its uid and its name
pub invariant_of-self : goal.invariant_of-self
invariant_of-self g c =
    let xs = c.args.self.now.served.items in
    let i = c.in-Some.place in
    let queue = c.index_mut.result.now in
    record {
      uids = c.args.self.now.uids ∙ sym (map-set_same (λ q. q.uid) xs i c.again.new.self queue (c.again.ensures.same.0 ∙ ap (λ q. q.uid) c.index_mut.ensures.value));
      once = c.args.self.now.once;
      entered = c.args.self.now.entered;
      names = c.args.self.now.names ∙ sym (map-set_same (λ q. q.name) xs i c.again.new.self queue (c.again.ensures.same.1 ∙ ap (λ q. q.name) c.index_mut.ensures.value));
    }

pub returns-in_ok-again-in-Some-clause-name : goal.returns-in_ok-again-in-Some-clause-name
returns-in_ok-again-in-Some-clause-name g c =
    let queue = c.index_mut.result.now in
    let found = position-Some (λ q. bytes_eq q.name c.args.name.now) c.args.self.now.served.items c.in-Some.place queue (sym c.place_named.ensures ∙ c.in-Some.is) in
    c.in_ok-again-in-Some.ensures.other.1 ∙ ap (λ q. q.name) c.index_mut.ensures.value ∙ (bytes_eq-Decides _ _).0 found.1
