use Rattle.message.specs.Content.{content_size}
use Rattle.alarm.proofs.StateLemmas.{insufficient}
use Rattle.alarm.specs.AlarmState.{breaches_in}
use Rattle.queue_core.specs.Metrics.{complete_minutes, last_rows}
use Rattle.queue_core.proofs.minutes.WindowLemmas.{last_of_window, last_shown}
use Rattle.queue_core.proofs.metric_laws.alarms_look_at_rows_of_the_window.Goals as goal

pub returns : goal.returns
returns c = record {
  last = last_of_window;
  shown = last_shown;
  insufficient = λ lines clock rule few.
      (insufficient rule (complete_minutes lines clock) (breaches_in rule (last_rows content_size lines clock rule.minutes))).1 few;
}
