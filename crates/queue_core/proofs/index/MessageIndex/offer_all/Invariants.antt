use Rattle.std.proofs.Common.{◌≡◌, ◌*◌, take, Some}
use Rattle.queue_core.specs.private.Records.{hidden_until, received_at}
use Rattle.queue_core.specs.private.Applying.{HaveCounted, HasChanged, among}
use Rattle.queue_core.specs.private.Spending.{Costs}
use Rattle.queue_core.proofs.index.MessageIndex.offer_all.Given as goal

abbrev pub invariant-loop-number : goal.invariant-loop-number
invariant-loop-number l = record {
  changed : HasChanged (among (take l.number-index l.offered) (λ r. Some (hidden_until l.due (received_at l.at r)))) l.initial.self l.self;
  counted : HaveCounted (take l.number-index l.offered) l.initial.self.receives.items l.self.receives.items;
  leaving : l.self.leaving.items ≡ l.initial.self.leaving.items;
  cost : Costs 0 (6 * l.number-index) l.initial.ticks l.initial.self l.ticks l.self;
}
