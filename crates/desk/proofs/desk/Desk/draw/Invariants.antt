use Rattle.std.proofs.Common.{◌≡◌, ◌≤◌}
use Rattle.desk.specs.Views.{most_tickets}
use Rattle.desk.specs.private.Steps.{Holder, counting}
use Rattle.desk.proofs.desk.Desk.draw.Given as goal

abbrev pub invariant-loop : goal.invariant-loop
invariant-loop g l =
    (l.seat.table_id ≡ l.initial.seat.table_id) × (◌≡◌ {A = Holder} l.seat.me (counting l.initial.seat.me.0 l.next, l.initial.seat.me.1)) × (l.initial.seat.me.0.begun ≤ l.next) × (l.next ≤ most_tickets)
