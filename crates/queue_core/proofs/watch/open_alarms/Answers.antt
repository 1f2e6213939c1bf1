use Rattle.std.proofs.Common.{◌≤◌, List, [], ◌∷◌, ◌++◌, sym, ap, ap₂, ◌∙◌, subst, arith}
use Rattle.std.proofs.lemmas.List.{map_more}
use Rattle.std.proofs.lemmas.List.Elements.{All-more}
use Rattle.queue_config.specs.AlarmRules.{Rule}
use Rattle.metric_window.specs.Window.{longest_window}
use Rattle.alarm.specs.KeptAlarm.{KeptAlarm, new_alarm}
use Rattle.queue_core.proofs.watch.open_alarms.Goals as goal

pub loop-rule-preserved : goal.loop-rule-preserved
loop-rule-preserved c =
    let minutes = ap (λ (rule : Rule). rule.minutes) c.rule.view_is in
    let few : c.rule-item.result.minutes ≤ longest_window = omega (arith, minutes, c.rule.invariant.minutes.1) in
    record {
      alarms =
          c.in_ok-push.ensures.items ∙ ap₂ (λ (a : List KeptAlarm) (b : KeptAlarm). a ++ b ∷ []) c.loop-rule.invariant.alarms (c.in_ok-new.ensures ∙ ap new_alarm c.rule.view_is ∙ ap new_alarm c.rule-item.is)
          ∙ sym (map_more new_alarm c.args.rules.now c.loop-rule.rule-index c.rule-item.result c.loop-rule-test.true);
      allowed =
          All-more (λ (rule : Rule). rule.minutes ≤ longest_window) c.args.rules.now c.loop-rule.rule-index c.rule-item.result c.loop-rule-test.true c.loop-rule.invariant.allowed
          (subst (λ (rule : Rule). rule.minutes ≤ longest_window) c.rule-item.is few);
    }
