use Rattle.std.proofs.Common.{◌∷◌, ◌++◌, [], List, sym, ap, ap₂, ◌∙◌}
use Rattle.std.proofs.lemmas.List.{map_more}
use Rattle.alarm.specs.declared.state.AlarmState.{AlarmState}
use Rattle.alarm.specs.KeptAlarm.{KeptAlarm, kept_state}
use Rattle.queue_core.proofs.state.alarms.states_of.Goals as goal

pub loop-alarm-preserved : goal.loop-alarm-preserved
loop-alarm-preserved c =
    let f : KeptAlarm → AlarmState = λ alarm. kept_state alarm in
    c.in_ok-push.ensures.items ∙ ap₂ (λ (a : List AlarmState) (b : AlarmState). a ++ b ∷ []) c.loop-alarm.invariant (c.state.ensures ∙ ap f c.alarm-item.is)
    ∙ sym (map_more f c.args.alarms.now c.loop-alarm.alarm-index c.alarm-item.result c.loop-alarm-test.true)
