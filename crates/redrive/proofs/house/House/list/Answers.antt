use Rattle.std.proofs.Common.{◌≡◌, ℕ, ◌<◌, List, length, map, sym, ap, subst, ◌∙◌, arith}
use Rattle.std.specs.Prelude.{OnErr}
use Rattle.std.proofs.lemmas.List.{take_all}
use Rattle.message.specs.Order.{text_before}
use Rattle.message.proofs.SortedLemmas.{length-sorted}
use Rattle.queue_core.specs.Queue.{QueueHistory}
use Rattle.redrive.specs.House.{House}
use Rattle.redrive.specs.Listing.{names_beginning}
use Rattle.redrive.proofs.ListingLemmas.{on_refusal, names_beginning-more, some-begins}
use Rattle.redrive.proofs.house.House.list.Goals as goal

pub loop-queue-preserved : goal.loop-queue-preserved
loop-queue-preserved c =
    c.in_ok-add_name.ensures.ok
    ∙ rw (c.name.ensures, c.loop-queue.invariant)
    (sym (names_beginning-more (λ (q : QueueHistory). q.name) c.args.prefix.now c.as_slice-queue-items.result.now c.loop-queue.queue-index c.queue-item.result (omega arith) c.queue-item.is))

pub returns-in_err-add_name-clause-wants : goal.returns-in_err-add_name-clause-wants
returns-in_err-add_name-clause-wants c =
    let same : c.as_slice-queue-items.result.now ≡ c.args.self.now.queues = c.as_slice-queue-items.ensures ∙ ap (λ (w : House). w.queues) c.self.view_is in
    let begins = some-begins (λ (q : QueueHistory). q.name) c.args.prefix.now c.as_slice-queue-items.result.now c.loop-queue.queue-index c.queue-item.result c.loop-queue-test.true c.queue-item.is
    (rw (sym c.name.ensures) c.in_err-add_name.ensures.wants) in
    on_refusal c.from_residual.result
    (rw (length-sorted text_before (names_beginning c.args.prefix.now (map (λ (q : QueueHistory). q.name) c.args.self.now.queues)))
    (subst (λ (qs : List QueueHistory). 0 < length (names_beginning c.args.prefix.now (map (λ q. q.name) qs))) same begins))

pub returns-clause-wants : goal.returns-clause-wants
returns-clause-wants c =
    let same : c.as_slice-queue-items.result.now ≡ c.args.self.now.queues = c.as_slice-queue-items.ensures ∙ ap (λ (w : House). w.queues) c.self.view_is in
    let all = take_all c.loop-queue.queue-index c.as_slice-queue-items.result.now c.loop-queue-test.false in
    subst (λ (n : ℕ). OnErr c.in_order.result (0 < n))
    (ap length (c.loop-queue.invariant ∙ ap (λ (qs : List QueueHistory). names_beginning c.args.prefix.now (map (λ q. q.name) qs)) (all ∙ same))
    ∙ sym (length-sorted text_before (names_beginning c.args.prefix.now (map (λ (q : QueueHistory). q.name) c.args.self.now.queues))))
    c.in_order.ensures.wants
