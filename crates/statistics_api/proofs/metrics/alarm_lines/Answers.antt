use Rattle.std.proofs.Common.{ap}
use Rattle.std.specs.Prelude.{Ok, string_bytes}
use Rattle.alarm.specs.declared.state.AlarmState.TheVariants.{InsufficientData, Okay, Alarm}
use Rattle.statistics_api.specs.Metrics.{state_text}
use Rattle.statistics_api.proofs.JoinLemmas.{joined_three}
use Rattle.statistics_api.proofs.metrics.alarm_lines.Goals as goal

pub returns : goal.returns
returns c =
    ap Ok
    (joined_three (state_text c.args.queue.now c.args.alarm.now) Okay Alarm InsufficientData
    (string_bytes c.in_ok-format.field-0) (string_bytes c.in_ok-okay.okay) (string_bytes c.in_ok-firing.firing) (string_bytes c.in_ok-unknown.unknown)
    (cc (c.in_ok-okay.ensures)) (cc (c.in_ok-firing.ensures)) (cc (c.in_ok-unknown.ensures)) c.in_ok-format.ensures.ok)
