use Rattle.std.proofs.Common.{◌≡◌, [], drop}
use Rattle.toml.specs.View.{items_view}
use Rattle.queue_config.specs.AlarmText.{alarm_in}
use Rattle.queue_config.specs.ConfigKeys.{with_tables}
use Rattle.queue_config.proofs.alarm_text.with_alarms.Given as goal

abbrev pub invariant-loop-table : goal.invariant-loop-table
invariant-loop-table l = with_tables alarm_in l.alarms.items (items_view (drop l.table-index l.tables)) ≡ with_tables alarm_in [] (items_view l.tables)
