use Rattle.std.proofs.Common.{◌≡◌}
use Rattle.indexmap.specs.IndexMap.{index_map_len}
use Rattle.queue_core.specs.private.Records.{HasIndices}
use Rattle.queue_core.proofs.records.ChangeLemmas.{LeavesSame}
use Rattle.queue_core.specs.private.Spending.{Costs}
use Rattle.queue_core.proofs.index.MessageIndex.purge.Given as goal

abbrev pub invariant-loop-number : goal.invariant-loop-number
invariant-loop-number l = record {
  indices : HasIndices l.self;
  same : LeavesSame l.initial.self l.self;
  receives : l.self.receives.items ≡ l.initial.self.receives.items;
  leaving : l.self.leaving.items ≡ l.initial.self.leaving.items;
  cost : Costs 0 0 l.initial.ticks l.initial.self l.ticks l.self;
}

abbrev pub decreases-loop-number : goal.decreases-loop-number
decreases-loop-number l = index_map_len l.self.records
