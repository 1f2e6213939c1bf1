use Rattle.std.proofs.Common.{◌≡◌, take}
use Rattle.queue_core.specs.private.Applying.{HasChanged, among, where_left, ended_by}
use Rattle.queue_core.specs.private.Spending.{Costs}
use Rattle.queue_core.proofs.index.MessageIndex.end_period.Given as goal

abbrev pub invariant-loop-place : goal.invariant-loop-place
invariant-loop-place l = record {
  changed : HasChanged (among (take l.place l.initial.self.leaving.items) (where_left (ended_by l.retention l.at))) l.initial.self l.self;
  receives : l.self.receives.items ≡ l.initial.self.receives.items;
  leaving : l.self.leaving.items ≡ l.initial.self.leaving.items;
  cost : Costs 0 0 l.initial.ticks l.initial.self l.ticks l.self;
}
