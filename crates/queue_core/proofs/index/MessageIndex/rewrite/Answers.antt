-- The slot before is that of a record that is there.
use Rattle.std.proofs.Common.{refl, Some, arith}
use Rattle.queue_core.proofs.records.KeptRecordLemmas.{can_change, has_rewritten}
use Rattle.queue_core.specs.private.Records.{records_in, slots_in}
use Rattle.queue_core.proofs.costs.SpendingLemmas.{costs-changed, keeps-sent}
use Rattle.queue_core.proofs.index.MessageIndex.rewrite.Goals as goal

pub replace-requires : goal.replace-requires
replace-requires c = rw c.slot_of-before.ensures (can_change c.args.self.now c.args.number c.requires.indices c.requires.kept (Some c.args.slot))

pub returns-clause-indices : goal.returns-clause-indices
returns-clause-indices c =
    has_rewritten c.args.self.now c.args.number c.requires.indices c.requires.kept _ c.args.first_receive c.args.last_receive c.args.slot c.requires.sent
    (rw c.slot_of-before.ensures at c.replace.ensures.replaced) c.write_parts.ensures.records refl

pub returns-clause-cost : goal.returns-clause-cost
returns-clause-cost c =
    costs-changed c.args.ticks.now c.replace.new.ticks _ c.args.self.now c.replace.new.self (slots_in c.args.self.now c.args.number) (Some c.args.slot) c.requires.indices (omega (arith, c.write_parts.ensures.len))
    (keeps-sent (records_in c.args.self.now c.args.number) c.args.slot c.requires.sent) (rw c.slot_of-before.ensures at c.replace.ensures.cost)
