use Rattle.std.proofs.Common.{◌≡◌}
use Rattle.toml.specs.View.{members_view}
use Rattle.queue_config.specs.AlarmText.{alarm_keys, no_alarm_keys}
use Rattle.queue_config.specs.ConfigKeys.{with_keys}
use Rattle.queue_config.proofs.alarm_text.with_alarm_keys.Given as goal

abbrev pub invariant-loop-key : goal.invariant-loop-key
invariant-loop-key l = with_keys alarm_keys l.alarm (members_view l.key-iterator) ≡ with_keys alarm_keys no_alarm_keys (members_view l.table.entries)
