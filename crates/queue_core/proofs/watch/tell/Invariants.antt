use Rattle.std.proofs.Common.{◌≡◌, ◌++◌, take, drop, map}
use Rattle.alarm.specs.KeptAlarm.{with_minute}
use Rattle.queue_core.proofs.watch.tell.Given as goal

abbrev pub invariant-loop-alarm : goal.invariant-loop-alarm
invariant-loop-alarm l = l.alarm-items ≡ map (λ alarm. with_minute alarm l.row) (take l.alarm-index l.initial.alarm-items) ++ drop l.alarm-index l.initial.alarm-items
