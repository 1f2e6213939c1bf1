use Rattle.std.proofs.Common.{◌≡◌, ◌*◌, take, count_by}
use Rattle.queue_core.specs.private.Slots.{is_left_for}
use Rattle.queue_core.specs.private.Records.{slots_in}
use Rattle.queue_core.specs.private.Applying.{HasChanged, among, where_left, returned_from}
use Rattle.queue_core.specs.private.Spending.{Costs}
use Rattle.queue_core.proofs.index.MessageIndex.bring_back.Given as goal

abbrev pub invariant-loop-place : goal.invariant-loop-place
invariant-loop-place l = record {
  changed : HasChanged (among (take l.place l.initial.self.leaving.items) (where_left (returned_from l.lost l.at))) l.initial.self l.self;
  receives : l.self.receives.items ≡ l.initial.self.receives.items;
  leaving : l.self.leaving.items ≡ l.initial.self.leaving.items;
  cost : Costs 0 (8 * count_by (λ n. is_left_for l.lost (slots_in l.initial.self n)) (take l.place l.initial.self.leaving.items)) l.initial.ticks l.initial.self l.ticks l.self;
}
