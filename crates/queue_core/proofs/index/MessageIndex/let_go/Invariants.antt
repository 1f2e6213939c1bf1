-- What the records are without those that were sent by the time stays the same.
use Rattle.std.proofs.Common.{◌≡◌, ℕ}
use Rattle.std.specs.Prelude.{option_and_then}
use Rattle.indexmap.specs.IndexMap.{index_map_len}
use Rattle.queue_core.specs.private.Records.{records_in, HasIndices}
use Rattle.queue_core.specs.private.Settling.{kept_since}
use Rattle.queue_core.specs.private.Spending.{Costs}
use Rattle.queue_core.proofs.index.MessageIndex.let_go.Given as goal

abbrev pub invariant-loop-number : goal.invariant-loop-number
invariant-loop-number l = record {
  indices : HasIndices l.self;
  kept : (n : ℕ) → option_and_then (kept_since l.moment) (records_in l.self n) ≡ option_and_then (kept_since l.moment) (records_in l.fn.self n);
  receives : l.self.receives.items ≡ l.fn.self.receives.items;
  leaving : l.self.leaving.items ≡ l.fn.self.leaving.items;
  cost : Costs 0 0 l.fn.ticks l.fn.self l.ticks l.self;
}

abbrev pub decreases-loop-number : goal.decreases-loop-number
decreases-loop-number l = index_map_len l.self.records
