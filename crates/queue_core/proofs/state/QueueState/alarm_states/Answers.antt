use Rattle.std.proofs.Common.{◌≡◌, ℕ, ◌<◌, List, length, map, ap, ◌∙◌, subst}
use Rattle.std.specs.Prelude.{OnErr}
use Rattle.std.proofs.lemmas.List.{length-map}
use Rattle.std.specs.Result.{IfOk}
use Rattle.alarm.specs.declared.state.AlarmState.{AlarmState}
use Rattle.alarm.specs.KeptAlarm.{KeptAlarm, kept_state}
use Rattle.metric_window.specs.Flows.{minute_of}
use Rattle.queue_core.specs.private.Watched.{rows_before, told_alarm}
use Rattle.queue_core.proofs.indexed.QuestionLemmas.{sound_of}
use Rattle.queue_core.proofs.minutes.WatchLemmas.{watch_of, states-told}
use Rattle.queue_core.proofs.state.QueueState.alarm_states.Goals as goal

pub returns-clause-states : goal.returns-clause-states
returns-clause-states c =
    let told = states-told c.args.self.now.lines c.args.self.now.clock c.args.self.now.rules c.self.inside.watch (watch_of _ _ c.self.inside.watch c.self.view_is c.self.invariant.4)
    (sound_of _ _ c.self.view_is c.self.invariant.0.legal).early in
    subst (λ (all : List AlarmState). IfOk c.states_of.result (λ states. states.items ≡ all))
    (ap (λ (alarms : List KeptAlarm). map (λ alarm. kept_state alarm) alarms) c.as_slice.ensures.value ∙ told) c.states_of.ensures.states

pub returns-clause-wants : goal.returns-clause-wants
returns-clause-wants c =
    let watch = watch_of _ _ c.self.inside.watch c.self.view_is c.self.invariant.4 in
    let q = c.args.self.now in
    subst (λ (n : ℕ). OnErr c.states_of.result (0 < n))
    (ap length c.as_slice.ensures.value ∙ ap length watch.alarms ∙ length-map q.rules (told_alarm (rows_before q.lines (minute_of q.clock)))) c.states_of.ensures.wants
