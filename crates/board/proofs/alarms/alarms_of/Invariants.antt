use Rattle.std.proofs.Common.{◌≡◌, ◌-◌, length, take}
use Rattle.board.specs.Queue.{alarms_of}
use Rattle.board.proofs.alarms.alarms_of.Given as goal

abbrev pub invariant-loop-alarm : goal.invariant-loop-alarm
invariant-loop-alarm l = l.alarms.items ≡ take (length l.alarms.items) (alarms_of l.queue)

abbrev pub decreases-loop-alarm : goal.decreases-loop-alarm
decreases-loop-alarm l = length (alarms_of l.queue) - length l.alarms.items
