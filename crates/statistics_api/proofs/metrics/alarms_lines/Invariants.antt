use Rattle.std.proofs.Common.{◌≡◌, ◌++◌, drop}
use Rattle.std.specs.Prelude.{flat_map, string_bytes}
use Rattle.statistics_api.specs.Metrics.{alarm_text}
use Rattle.statistics_api.proofs.metrics.alarms_lines.Given as goal

abbrev pub invariant-loop-alarm : goal.invariant-loop-alarm
invariant-loop-alarm l = string_bytes l.text ++ flat_map (alarm_text l.queue) (drop l.alarm-index l.alarms) ≡ flat_map (alarm_text l.queue) l.alarms
