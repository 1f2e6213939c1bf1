-- The slot before is that of a record that is there.
use Rattle.std.proofs.Common.{refl, Some, None, arith}
use Rattle.queue_core.proofs.records.KeptRecordLemmas.{can_take_out, has_let_go}
use Rattle.queue_core.proofs.costs.SpendingLemmas.{costs_none, costs-changed, keeps-none}
use Rattle.queue_core.proofs.index.MessageIndex.take_out.Goals as goal

pub replace-requires : goal.replace-requires
replace-requires c = can_take_out c.args.self.now c.args.number c.in-Some.slot c.requires.indices c.in-Some.ensures

pub returns-in-Some-clause-indices : goal.returns-in-Some-clause-indices
returns-in-Some-clause-indices c =
    has_let_go c.args.self.now c.args.number c.in-Some.slot c.requires.indices c.in-Some.ensures _ c.replace.ensures.replaced c.take_record.ensures.records refl

pub returns-in-Some-clause-cost : goal.returns-in-Some-clause-cost
returns-in-Some-clause-cost c =
    costs-changed c.args.ticks.now c.replace.new.ticks _ c.args.self.now c.replace.new.self (Some c.in-Some.slot) None c.requires.indices (omega (arith, c.take_record.ensures.len)) (keeps-none (Some c.in-Some.slot)) c.replace.ensures.cost

pub returns-in_default-clause-cost : goal.returns-in_default-clause-cost
returns-in_default-clause-cost c = costs_none _ _ c.args.self.now.indices
