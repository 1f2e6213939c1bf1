use Rattle.std.proofs.Common.{◌≡◌, ℕ, ◌+◌, ◌-◌, ◌≤◌, map}
use Rattle.std.specs.List.{range_with_len}
use Rattle.message.specs.Content.{content_size}
use Rattle.alarm.specs.AlarmState.{breaches_in}
use Rattle.queue_core.specs.Legal.{IsOrdered}
use Rattle.queue_core.specs.Metrics.{metric_row, last_rows}
use Rattle.plain_queue.proofs.alarms.breaches_in_last.Given as goal

abbrev pub invariant-loop-minute : goal.invariant-loop-minute
invariant-loop-minute l =
    (l.breaches ≤ l.minute)
    × ((from : ℕ) → IsOrdered from l.lines l.clock
    → l.breaches + breaches_in l.rule (map (λ m. metric_row content_size l.lines m) (range_with_len l.minute (l.end - l.minute)))
    ≡ breaches_in l.rule (last_rows content_size l.lines l.clock l.minutes))
