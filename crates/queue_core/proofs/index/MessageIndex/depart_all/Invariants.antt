use Rattle.std.proofs.Common.{◌≡◌, take, false, Some}
use Rattle.queue_core.specs.declared.slot.Stay.TheVariants.{Left}
use Rattle.queue_core.specs.private.Records.{with_stay}
use Rattle.queue_core.specs.private.Applying.{HasChanged, among}
use Rattle.queue_core.specs.private.Spending.{Costs}
use Rattle.queue_core.proofs.index.MessageIndex.depart_all.Given as goal

abbrev pub invariant-loop-number : goal.invariant-loop-number
invariant-loop-number l = record {
  changed : HasChanged (among (take l.number-index l.numbers) (λ r. Some (with_stay (Left l.target false) r))) l.initial.self l.self;
  receives : l.self.receives.items ≡ l.initial.self.receives.items;
  leaving : l.self.leaving.items ≡ l.initial.self.leaving.items;
  cost : Costs 0 0 l.initial.ticks l.initial.self l.ticks l.self;
}
