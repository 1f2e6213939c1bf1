use Rattle.std.proofs.Common.{◌+◌, ◌*◌, get_or, take, refl, ◌∙◌, Some, arith}
use Rattle.queue_core.specs.private.Records.{hidden_until, received_at}
use Rattle.queue_core.proofs.entries.NumberLemmas.{contains-at, unseen}
use Rattle.queue_core.proofs.records.ChangeLemmas.{changed-more, counted-more, here-below, here-outside}
use Rattle.queue_core.proofs.costs.SpendingLemmas.{costs_within, costs_then}
use Rattle.queue_core.proofs.index.MessageIndex.offer_all.Goals as goal

pub offer-requires-clause-here : goal.offer-requires-clause-here
offer-requires-clause-here c =
    let i = c.loop-number.number-index in let xs = c.args.offered.now in
    here-outside (λ r. Some (hidden_until c.args.due (received_at c.args.at r))) (take i xs) (get_or xs i 0) c.args.self.now c.loop-number.self c.loop-number.invariant.changed
    (unseen xs i c.requires.once c.loop-number-test.true) (c.requires.here (get_or xs i 0) (contains-at xs i 0 c.loop-number-test.true))

pub loop-number-preserved : goal.loop-number-preserved
loop-number-preserved c =
    let i = c.loop-number.number-index in let xs = c.args.offered.now in
    let below = here-below c.args.self.now (get_or xs i 0) c.requires.indices (c.requires.here (get_or xs i 0) (contains-at xs i 0 c.loop-number-test.true)) in
    record {
      changed = changed-more (λ r. Some (hidden_until c.args.due (received_at c.args.at r))) xs i (get_or xs i 0) c.args.self.now c.loop-number.self c.offer.new.self
          c.requires.once c.loop-number-test.true refl c.loop-number.invariant.changed c.offer.ensures.change;
      counted = rw c.offer.ensures.receives
          (counted-more xs c.args.self.now.receives.items c.loop-number.self.receives.items i (get_or xs i 0) c.requires.once c.loop-number-test.true refl below c.loop-number.invariant.counted);
      leaving = c.offer.ensures.leaving ∙ c.loop-number.invariant.leaving;
      cost = costs_within 0 (6 * i + 6) (6 * (i + 1)) _ _ _ _ _ _ (omega arith) (costs_then 0 (6 * i) 0 6 _ _ _ _ _ _ _ _ _ c.loop-number.invariant.cost c.offer.ensures.cost);
    }
