use Rattle.std.proofs.Common.{◌≡◌, ℕ, false, None, length}
use Rattle.queue_core.specs.Messages.{contains_number}
use Rattle.queue_core.specs.private.Records.{records_in, HasIndices}
use Rattle.queue_core.specs.private.Spending.{Costs}
use Rattle.queue_core.proofs.index.MessageIndex.close.Given as goal

abbrev pub invariant-loop-number : goal.invariant-loop-number
invariant-loop-number l = record {
  indices : HasIndices l.self;
  gone : (n : ℕ) → contains_number n l.self.leaving.items ≡ false → records_in l.self n ≡ None;
  receives : l.self.receives.items ≡ l.initial.self.receives.items;
  cost : Costs 0 0 l.initial.ticks l.initial.self l.ticks l.self;
}

abbrev pub decreases-loop-number : goal.decreases-loop-number
decreases-loop-number l = length l.self.leaving.items
