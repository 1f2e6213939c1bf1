-- Whatever was refused, the indices are those of the same records.
use Rattle.std.proofs.Common.{◌+◌, refl, arith}
use Rattle.queue_core.proofs.indexed.AgeRoomLemmas.{left_counted, few_ages, reserved_ages}
use Rattle.queue_core.proofs.records.KeptRecordLemmas.{has_reserved, ready_reserved}
use Rattle.queue_core.proofs.index.MessageIndex.reserve_one.Goals as goal

pub reserve-requires-2 : goal.reserve-requires-2
reserve-requires-2 c = few_ages c.args.self.now c.requires.indexed c.reserve.new.self c.reserve.ensures.same c.without_age-lacking.result c.without_age-lacking.ensures.count c.requires.few

pub returns-in_err-reserve-clause-indices : goal.returns-in_err-reserve-clause-indices
returns-in_err-reserve-clause-indices c = has_reserved c.args.self.now _ c.requires.indexed.indices refl refl c.reserve.ensures.same

pub returns-in_err-reserve-2-clause-indices : goal.returns-in_err-reserve-2-clause-indices
returns-in_err-reserve-2-clause-indices c =
    has_reserved c.args.self.now _ c.requires.indexed.indices refl refl (reserved_ages c.args.self.now.indices c.reserve.new.self c.reserve-2.new.self c.reserve.ensures.same c.reserve-2.ensures.same)

pub returns-in_err-reserve-3-clause-indices : goal.returns-in_err-reserve-3-clause-indices
returns-in_err-reserve-3-clause-indices c =
    has_reserved c.args.self.now _ c.requires.indexed.indices c.reserve-3.ensures.entries refl
    (reserved_ages c.args.self.now.indices c.reserve.new.self c.reserve-2.new.self c.reserve.ensures.same c.reserve-2.ensures.same)

pub returns-in_err-reserve-4-clause-indices : goal.returns-in_err-reserve-4-clause-indices
returns-in_err-reserve-4-clause-indices c =
    has_reserved c.args.self.now _ c.requires.indexed.indices c.reserve-3.ensures.entries c.reserve-4.ensures.items
    (reserved_ages c.args.self.now.indices c.reserve.new.self c.reserve-2.new.self c.reserve.ensures.same c.reserve-2.ensures.same)

pub returns-clause-indices : goal.returns-clause-indices
returns-clause-indices c =
    has_reserved c.args.self.now _ c.requires.indexed.indices c.reserve-3.ensures.entries c.reserve-4.ensures.items
    (reserved_ages c.args.self.now.indices c.reserve.new.self c.reserve-2.new.self c.reserve.ensures.same c.reserve-2.ensures.same)

pub returns-clause-ok : goal.returns-clause-ok
returns-clause-ok c =
    ready_reserved c.args.self.now _ c.requires.indexed.indices c.reserve-3.ensures.entries c.reserve-4.ensures.items
    (reserved_ages c.args.self.now.indices c.reserve.new.self c.reserve-2.new.self c.reserve.ensures.same c.reserve-2.ensures.same)
    (c.len-room.result + 1) c.without_age-lacking.result (omega arith)
    (record { due = c.in_ok-reserve.ensures.ok.due; sent = c.in_ok-reserve.ensures.ok.sent; visible = c.in_ok-reserve.ensures.ok.visible })
    (omega (arith, left_counted c.args.self.now c.requires.indexed, c.without_age-lacking.ensures.count))
    (record { room = c.in_ok-reserve-2.ensures.ok.room; within = omega (arith, c.args.self.now.receives.ok.0, c.in_ok-reserve-2.ensures.ok.within) })
    c.in_ok-reserve-3.ensures.ok (omega (arith, c.reserve-4.new.self.ok.0, c.in_ok-reserve-4.ensures.ok))
