use Rattle.std.proofs.Common.{◌≡◌, ◌≤◌, List, map, Result, Ok, inl, arith, refl, sym, subst, ap, ◌∙◌}
use Rattle.std.specs.List.{All}
use Rattle.std.specs.Result.{IfOk}
use Rattle.message.specs.declared.fault.Fault.{Fault}
use Rattle.queue_config.specs.Settings.{QueueSettings, AreSettings}
use Rattle.queue_config.specs.AlarmRules.{Rule}
use Rattle.metric_window.specs.KeptRows.{opened_at}
use Rattle.metric_window.specs.Window.{longest_window}
use Rattle.alarm.specs.KeptAlarm.{new_alarm}
use Rattle.queue_core.proofs.indexed.IndexLemmas.{opened-index}
use Rattle.queue_core.proofs.minutes.WatchLemmas.{watch-opened}
use Rattle.queue_core.proofs.state.QueueState.open.Goals as goal

of_ok : {A : Type 0} (a b : A) → ◌≡◌ {A = Result A Fault} (Ok a) (Ok b) → a ≡ b
of_ok {A} a b h = subst (λ (r : Result A Fault). IfOk r (λ x. x ≡ b)) (sym h) refl

pub invariant_of-result : goal.invariant_of-result
invariant_of-result c =
    let index = opened-index c.args.at c.args.uid c.args.settings c.new-2.result c.new-2.ensures.indices c.new-2.ensures.records c.new-2.ensures.receives c.new-2.ensures.leaving in
    let limit = ap (λ l. l.max_lines) c.limits.view_is in
    rw (c.in_ok-push.ensures.ok, of_ok _ _ c.in_ok-journal.ensures) (
      record {
        room = omega arith;
        within = omega arith;
        place_left = λ unclosed. omega (arith, c.limits.invariant.least_lines);
        legal = record {
          ordered = (omega arith, omega arith);
          caused = inl (record { settings = c.args.settings; allowed = subst (λ (s : QueueSettings). AreSettings s) c.settings.view_is c.settings.invariant; opened = refl }, tt);
        };
      },
      record { settings = c.opened.ensures.0; created = c.opened.ensures.1; modified = c.opened.ensures.2; closed = c.opened.ensures.3; messages = c.opened.ensures.4 },
      index,
      c.new-3.ensures,
      watch-opened c.args.at c.args.uid c.args.settings c.args.rules.items c.in_ok-watch.watch (c.in_ok-watch.ensures.window ∙ ap opened_at c.minute_of.ensures) (subst (λ (rules : List Rule). c.in_ok-watch.watch.alarms.items ≡ map new_alarm rules) c.as_slice.ensures.value c.in_ok-watch.ensures.alarms)
          (subst (λ (rules : List Rule). All (λ rule. rule.minutes ≤ longest_window) rules) c.as_slice.ensures.value c.in_ok-watch.ensures.allowed),
    )
