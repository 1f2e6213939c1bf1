use Rattle.std.proofs.Common.{rules}
use Rattle.desk.proofs.Keeping.{hears}
use Rattle.desk.proofs.HistoryLemmas.{comparable}
use Rattle.desk.proofs.desk.Desk.meet.Goals as goal

pub join_seat-requires : goal.join_seat-requires
join_seat-requires g c = (search rules, search rules, search rules, search rules, hears _ _ _ _ _ c.pass.invariant.1 c.note.invariant.1)

pub returns-clause-one : goal.returns-clause-one
returns-clause-one g c = comparable c.args.note.seen c.args.pass.now.seen c.look.new.seat.me.0.seen (search rules) (search rules)
