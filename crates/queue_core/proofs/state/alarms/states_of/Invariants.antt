use Rattle.std.proofs.Common.{◌≡◌, map, take}
use Rattle.alarm.specs.KeptAlarm.{kept_state}
use Rattle.queue_core.proofs.state.alarms.states_of.Given as goal

abbrev pub invariant-loop-alarm : goal.invariant-loop-alarm
invariant-loop-alarm l = l.states.items ≡ map (λ alarm. kept_state alarm) (take l.alarm-index l.alarms)
