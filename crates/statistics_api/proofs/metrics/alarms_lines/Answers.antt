use Rattle.std.proofs.Common.{◌≡◌, arith}
use Rattle.std.specs.Prelude.{string_bytes}
use Rattle.statistics_api.specs.Metrics.{alarm_text}
use Rattle.statistics_api.proofs.JoinLemmas.{joined_next}
use Rattle.statistics_api.proofs.metrics.alarms_lines.Goals as goal

pub loop-alarm-preserved : goal.loop-alarm-preserved
loop-alarm-preserved c =
    let lines : string_bytes c.in_ok-lines.lines ≡ alarm_text c.args.queue.now c.alarm-item.result = cc (c.in_ok-lines.ensures) in
    rw (c.in_ok-push_str.ensures.bytes, c.as_str.ensures.value)
    (joined_next (alarm_text c.args.queue.now) c.args.alarms.now (string_bytes c.loop-alarm.text) (string_bytes c.in_ok-lines.lines) c.loop-alarm.alarm-index c.alarm-item.result
    (omega arith) c.alarm-item.is lines c.loop-alarm.invariant)
