use Rattle.std.proofs.Common.{List, Option, Some, ap, ◌∙◌}
use Rattle.std.specs.Prelude.{option_map, slice_get}
use Rattle.alarm.specs.declared.state.AlarmState.{AlarmState}
use Rattle.alarm.specs.KeptAlarm.{KeptAlarm, kept_state}
use Rattle.queue_core.proofs.indexed.QuestionLemmas.{sound_of}
use Rattle.queue_core.proofs.minutes.WatchLemmas.{watch_of, some-at, none-at, one-told}
use Rattle.queue_core.proofs.state.QueueState.alarm_state.Goals as goal

pub returns-in-Some : goal.returns-in-Some
returns-in-Some c =
    ap (λ (state : AlarmState). Some state) c.state.ensures
    ∙ ap (λ (o : Option KeptAlarm). option_map (λ alarm. kept_state alarm) o) (some-at c.deref.result.now c.args.index c.in-Some.alarm.now c.in-Some.ensures.lookup.3.0 c.in-Some.ensures.lookup.1 ∙ ap (λ (alarms : List KeptAlarm). slice_get alarms c.args.index) c.deref.ensures.value)
    ∙ one-told c.args.self.now.lines c.args.self.now.clock c.args.self.now.rules c.self.inside.watch (watch_of _ _ c.self.inside.watch c.self.view_is c.self.invariant.4)
    (sound_of _ _ c.self.view_is c.self.invariant.0.legal).early c.args.index

pub returns-in-None : goal.returns-in-None
returns-in-None c =
    ap (λ (o : Option KeptAlarm). option_map (λ alarm. kept_state alarm) o) (none-at c.deref.result.now c.args.index c.in-None.ensures.lookup.3 ∙ ap (λ (alarms : List KeptAlarm). slice_get alarms c.args.index) c.deref.ensures.value)
    ∙ one-told c.args.self.now.lines c.args.self.now.clock c.args.self.now.rules c.self.inside.watch (watch_of _ _ c.self.inside.watch c.self.view_is c.self.invariant.4)
    (sound_of _ _ c.self.view_is c.self.invariant.0.legal).early c.args.index
