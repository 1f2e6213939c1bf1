use Rattle.std.proofs.Common.{◌≡◌, drop}
use Rattle.statistics_api.specs.Texts.{alarm_data, items_by}
use Rattle.statistics_api.proofs.ItemLemmas.{items_then}
use Rattle.statistics_api.proofs.values.alarm_values.Given as goal

abbrev pub invariant-loop-alarm : goal.invariant-loop-alarm
invariant-loop-alarm l = items_then l.values.items (items_by alarm_data (drop l.alarm-index l.alarms)) ≡ items_by alarm_data l.alarms
