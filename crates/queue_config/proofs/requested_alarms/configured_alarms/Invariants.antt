use Rattle.std.proofs.Common.{◌≡◌, [], map, drop}
use Rattle.queue_config.specs.AlarmText.{configured_alarm}
use Rattle.queue_config.specs.ConfigKeys.{with_each}
use Rattle.queue_config.proofs.requested_alarms.configured_alarms.Given as goal

abbrev pub invariant-loop-alarm : goal.invariant-loop-alarm
invariant-loop-alarm l =
    with_each (λ alarm. configured_alarm (map (λ q. q.name) l.fn.queues) alarm) l.configured.items (drop l.alarm-index l.alarms)
    ≡ with_each (λ alarm. configured_alarm (map (λ q. q.name) l.fn.queues) alarm) [] l.fn.alarms
