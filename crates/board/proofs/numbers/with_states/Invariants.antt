use Rattle.std.proofs.Common.{◌≡◌, ◌-◌, length, take}
use Rattle.board.specs.Shown.{with_states}
use Rattle.board.proofs.numbers.with_states.Given as goal

abbrev pub invariant-loop-alarm : goal.invariant-loop-alarm
invariant-loop-alarm l = l.paired.items ≡ take (length l.paired.items) (with_states l.alarms l.states)

abbrev pub decreases-loop-alarm : goal.decreases-loop-alarm
decreases-loop-alarm l = length (with_states l.alarms l.states) - length l.paired.items
