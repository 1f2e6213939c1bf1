-- What the records are with all shown that is due stays the same.
use Rattle.std.proofs.Common.{◌≡◌, ℕ, ◌+◌}
use Rattle.std.specs.Prelude.{option_map}
use Rattle.queue_core.specs.private.Records.{records_in, HasIndices}
use Rattle.queue_core.specs.private.Settling.{shown_at}
use Rattle.queue_core.specs.private.Spending.{Costs}
use Rattle.queue_core.proofs.index.MessageIndex.show_due.Given as goal

abbrev pub invariant-loop-number : goal.invariant-loop-number
invariant-loop-number l = record {
  indices : HasIndices l.self;
  shown : (n : ℕ) → option_map (shown_at l.at) (records_in l.self n) ≡ option_map (shown_at l.at) (records_in l.fn.self n);
  receives : l.self.receives.items ≡ l.fn.self.receives.items;
  leaving : l.self.leaving.items ≡ l.fn.self.leaving.items;
  cost : Costs 0 0 l.fn.ticks l.fn.self l.ticks l.self;
}

abbrev pub decreases-loop-number : goal.decreases-loop-number
decreases-loop-number l = l.self.indices.delayed + l.self.indices.in_flight
