use Rattle.std.proofs.Common.{not, map, Some, sym, ap, subst, ◌∙◌, nat_eq}
use Rattle.std.specs.Prelude.{remove}
use Rattle.std.specs.List.{IsDistinct}
use Rattle.redrive.specs.Catalog.{uid_of_name}
use Rattle.redrive.proofs.KeyedLemmas.{filter-absent, find-no_position, find-position, map-remove, IsDistinct-filter}
use Rattle.queue_actor.proofs.DirectoryLemmas.{left-out, removed-beside}
use Rattle.queue_actor.proofs.directory.DirectoryEntries.unserve.Goals as goal

-- what is taken out of both lists stood at one place
pub invariant_of-self : goal.invariant_of-self
invariant_of-self g c =
    let xs = c.args.self.now.served.items in
    let i = c.in_ok-place.place in
    let once = subst (λ us. IsDistinct nat_eq us) c.args.self.now.uids c.args.self.now.once in
    let left = left-out (λ q. q.uid) c.args.uid xs i c.remove-queue.result once (sym c.place_of.ensures ∙ c.in_ok-place.was) in
    let uids = c.remove.ensures.uids ∙ ap (λ us. remove us i) c.args.self.now.uids ∙ sym (map-remove (λ q. q.uid) xs i) in
    record {
      uids = uids ∙ ap (map (λ q. q.uid)) (sym c.remove-queue.ensures.items);
      names = c.remove.ensures.names ∙ ap (λ ns. remove ns i) c.args.self.now.names ∙ sym (map-remove (λ q. q.name) xs i) ∙ ap (map (λ q. q.name)) (sym c.remove-queue.ensures.items);
      once = subst (λ us. IsDistinct nat_eq us) (sym (uids ∙ ap (map (λ q. q.uid)) left)) (IsDistinct-filter nat_eq (λ q. q.uid) (λ q. not (nat_eq q.uid c.args.uid)) xs once);
      entered = ap (map (λ name. uid_of_name c.args.self.now.catalog name)) c.remove.ensures.names
          ∙ removed-beside (λ name. uid_of_name c.args.self.now.catalog name) (λ u. Some u) c.args.self.now.keys.names c.args.self.now.keys.uids i c.args.self.now.entered
          ∙ sym (ap (map (λ u. Some u)) c.remove.ensures.uids);
    }

pub returns-clause-queue : goal.returns-clause-queue
returns-clause-queue g c =
    ap Some c.remove-queue.ensures.value
    ∙ sym (find-position (λ q. q.uid) c.args.uid c.args.self.now.served.items c.in_ok-place.place c.remove-queue.result (sym c.place_of.ensures ∙ c.in_ok-place.was))

pub returns-clause-left : goal.returns-clause-left
returns-clause-left g c =
    c.remove-queue.ensures.items
    ∙ left-out (λ q. q.uid) c.args.uid c.args.self.now.served.items c.in_ok-place.place c.remove-queue.result
    (subst (λ us. IsDistinct nat_eq us) c.args.self.now.uids c.args.self.now.once) (sym c.place_of.ensures ∙ c.in_ok-place.was)

pub returns-in_err-place-clause-queue : goal.returns-in_err-place-clause-queue
returns-in_err-place-clause-queue g c =
    c.from_residual.ensures ∙ sym (find-no_position (λ q. q.uid) c.args.uid c.args.self.now.served.items (sym c.place_of.ensures ∙ c.in_err-place.was))

pub returns-in_err-place-clause-left : goal.returns-in_err-place-clause-left
returns-in_err-place-clause-left g c =
    let xs = c.args.self.now.served.items in
    sym (filter-absent (λ q. q.uid) c.args.uid xs (find-no_position (λ q. q.uid) c.args.uid xs (sym c.place_of.ensures ∙ c.in_err-place.was)))
