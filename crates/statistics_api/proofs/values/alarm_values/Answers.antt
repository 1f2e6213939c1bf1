use Rattle.std.proofs.Common.{◌≡◌, arith}
use Rattle.serde_json.specs.View.{view}
use Rattle.statistics_api.specs.Texts.{alarm_data}
use Rattle.statistics_api.proofs.ItemLemmas.{items_by-next, items_by-all}
use Rattle.statistics_api.proofs.values.alarm_values.Goals as goal

pub loop-alarm-preserved : goal.loop-alarm-preserved
loop-alarm-preserved c =
    let value : view c.in_ok-alarm_value.field-0 ≡ alarm_data c.alarm-item.result = cc (c.in_ok-alarm_value.ensures) in
    rw c.in_ok-push.ensures.items
    (items_by-next alarm_data c.args.alarms.now c.loop-alarm.values.items c.in_ok-alarm_value.field-0 c.loop-alarm.alarm-index c.alarm-item.result (omega arith) c.alarm-item.is value c.loop-alarm.invariant)

pub returns-clause-ok : goal.returns-clause-ok
returns-clause-ok c = items_by-all alarm_data c.args.alarms.now c.loop-alarm.values.items c.loop-alarm.alarm-index c.loop-alarm-test.false c.loop-alarm.invariant
