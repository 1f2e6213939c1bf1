use Rattle.std.proofs.Common.{◌≡◌, ℕ, ◌<◌, List, length, filter, map, sym, ap, subst, ◌∙◌}
use Rattle.std.specs.Prelude.{OnErr}
use Rattle.std.proofs.lemmas.List.{take_all, length-map}
use Rattle.message.specs.Order.{text_before}
use Rattle.message.proofs.SortedLemmas.{length-sorted}
use Rattle.queue_core.specs.Queue.{QueueHistory}
use Rattle.redrive.specs.House.{House, has_target}
use Rattle.redrive.proofs.ListingLemmas.{on_refusal, some-passes}
use Rattle.redrive.proofs.house.House.source_names.Goals as goal

pub returns-in_err-push-clause-wants : goal.returns-in_err-push-clause-wants
returns-in_err-push-clause-wants c =
    let same : c.as_slice-queue-items.result.now ≡ c.args.self.now.queues = c.as_slice-queue-items.ensures ∙ ap (λ (w : House). w.queues) c.self.view_is in
    let some = some-passes (λ (q : QueueHistory). has_target c.args.uid q) c.as_slice-queue-items.result.now c.loop-queue.queue-index c.queue-item.result c.loop-queue-test.true c.queue-item.is
    (sym c.has_target.ensures ∙ c.if-has_target.true) in
    on_refusal c.from_residual.result
    (rw (length-sorted text_before (map (λ (q : QueueHistory). q.name) (filter (λ q. has_target c.args.uid q) c.args.self.now.queues)), length-map (filter (λ (q : QueueHistory). has_target c.args.uid q) c.args.self.now.queues) (λ q. q.name))
    (subst (λ (qs : List QueueHistory). 0 < length (filter (λ q. has_target c.args.uid q) qs)) same some))

pub returns-clause-wants : goal.returns-clause-wants
returns-clause-wants c =
    let same : c.as_slice-queue-items.result.now ≡ c.args.self.now.queues = c.as_slice-queue-items.ensures ∙ ap (λ (w : House). w.queues) c.self.view_is in
    let all = take_all c.loop-queue.queue-index c.as_slice-queue-items.result.now c.loop-queue-test.false in
    subst (λ (n : ℕ). OnErr c.in_order.result (0 < n))
    (ap length (c.loop-queue.invariant ∙ ap (λ (qs : List QueueHistory). map (λ q. q.name) (filter (λ q. has_target c.args.uid q) qs)) (all ∙ same))
    ∙ sym (length-sorted text_before (map (λ (q : QueueHistory). q.name) (filter (λ q. has_target c.args.uid q) c.args.self.now.queues))))
    c.in_order.ensures.wants
