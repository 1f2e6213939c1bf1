-- Each turn lends the next queue once more, under the same uid.
use Rattle.std.proofs.Common.{rules, ◌≡◌, ℕ, ◌<◌, List, [], ◌∷◌, ◌++◌, map, take, length, get_or, sym, ap, ◌∙◌, arith}
use Rattle.std.proofs.Math.Seq.{map-set_same}
use Rattle.std.proofs.lemmas.List.{take_more, map-append, get_or-map, length-map}
use Rattle.queue_actor.proofs.directory.DirectoryEntries.all.Goals as goal

pub loop-place-preserved : goal.loop-place-preserved
loop-place-preserved g c =
    let i = c.loop-place.place in
    let xs = c.loop-place.self.served.items in
    let queue = c.index_mut.result.now in
    let now = c.again.new.self in
    let uids : List ℕ = map (λ q. q.uid) c.args.self.now.served.items in
    let here : queue ≡ get_or xs i queue = search rules in
    let below : i < length xs = search rules in
    let same = c.loop-place.invariant.same in
    let long : i < length uids = omega (arith, below, ap length same, length-map xs (λ q. q.uid)) in
    let at : get_or uids i 0 ≡ queue.uid = ap (λ (ns : List ℕ). get_or ns i 0) (sym same) ∙ get_or-map (λ q. q.uid) xs i queue 0 below ∙ ap (λ q. q.uid) (sym here) in
    let other = c.in_ok-again.field-0 in
    record {
      uids = ap (map (λ q. q.uid)) c.in_ok-push.ensures.items ∙ map-append (λ q. q.uid) c.loop-place.queues.items (other ∷ [])
          ∙ ap (λ (ns : List ℕ). ns ++ other.uid ∷ []) c.loop-place.invariant.uids ∙ ap (λ (n : ℕ). take i uids ++ n ∷ []) (c.in_ok-again.ensures.other.0 ∙ sym at) ∙ sym (take_more uids i 0 long);
      same = map-set_same (λ q. q.uid) xs i now queue (c.again.ensures.same.0 ∙ ap (λ q. q.uid) here) ∙ same;
      catalog = c.loop-place.invariant.catalog;
      keys = c.loop-place.invariant.keys;
    }

-- lent once more, it keeps its uid and its name
pub invariant_of-self : goal.invariant_of-self
invariant_of-self g c =
    let i = c.loop-place.place in
    let xs = c.loop-place.self.served.items in
    let queue = c.index_mut.result.now in
    let here : queue ≡ get_or xs i queue = search rules in
    record {
      uids = c.loop-place.self.uids ∙ sym (map-set_same (λ q. q.uid) xs i c.again.new.self queue (c.again.ensures.same.0 ∙ ap (λ q. q.uid) here));
      once = c.loop-place.self.once;
      entered = c.loop-place.self.entered;
      names = c.loop-place.self.names ∙ sym (map-set_same (λ q. q.name) xs i c.again.new.self queue (c.again.ensures.same.1 ∙ ap (λ q. q.name) here));
    }
