use Rattle.std.proofs.Common.{◌≡◌}
use Rattle.desk.specs.private.Steps.{StillWaits}
use Rattle.desk.proofs.desk.Desk.wait.Given as goal

abbrev pub invariant-loop : goal.invariant-loop
invariant-loop g l = (l.seat.table_id ≡ l.initial.seat.table_id) × StillWaits l.initial.seat.me l.seat.me l.ticket
