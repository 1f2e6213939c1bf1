use Rattle.std.proofs.Common.{◌≡◌, List, nat_eq, ap, sym, ◌∙◌}
use Rattle.std.specs.Prelude.{option_and_then, slice_get}
use Rattle.std.specs.Option.{option_copied}
use Rattle.queue_core.specs.Queue.{QueueHistory}
use Rattle.redrive.specs.House.{House, queue_of_uid}
use Rattle.redrive.proofs.KeyedLemmas.{found-by, lent-at}
use Rattle.redrive.proofs.house.House.state.Goals as goal

pub returns-in_err-place-clause-state : goal.returns-in_err-place-clause-state
returns-in_err-place-clause-state c =
    ap option_copied c.from_residual.ensures
    ∙ ap (option_and_then (λ i. slice_get c.self.inside.queues.queues i)) (sym c.in_err-place.was ∙ c.place_of.ensures)
    ∙ found-by (λ (q : QueueHistory). q.uid) (λ u. nat_eq u c.args.uid) c.self.inside.keys.uids c.self.inside.queues.queues c.self.invariant.uids
    ∙ ap (λ (w : House). queue_of_uid w c.args.uid) c.self.view_is

pub returns-clause-state : goal.returns-clause-state
returns-clause-state c =
    let looked : option_copied c.get.result ≡ slice_get c.as_slice.result.now c.in_ok-place.place =
    lent-at c.as_slice.result.now c.in_ok-place.place c.get.result c.get.ensures.lookup.0 c.get.ensures.lookup.1 in
    looked ∙ ap (λ (qs : List QueueHistory). slice_get qs c.in_ok-place.place) c.as_slice.ensures
    ∙ ap (option_and_then (λ i. slice_get c.self.inside.queues.queues i)) (sym c.in_ok-place.was ∙ c.place_of.ensures)
    ∙ found-by (λ (q : QueueHistory). q.uid) (λ u. nat_eq u c.args.uid) c.self.inside.keys.uids c.self.inside.queues.queues c.self.invariant.uids
    ∙ ap (λ (w : House). queue_of_uid w c.args.uid) c.self.view_is
