-- The statistics of a queue at its clock, as its journal, its clock and the rules of its alarms tell them (Amazon SQS metrics for CloudWatch; alarms are this
-- project's own).
use Rattle.std.specs.Prelude.{ℕ, List, map}
use Rattle.alarm.specs.declared.state.AlarmState.{AlarmState}
use Rattle.message.specs.Content.{content_size}
use Rattle.journal.specs.Weight.{weight_of}
use Rattle.queue_core.specs.Metrics.{current_flows, window_rows, alarm_state_in}
use Rattle.queue_core.specs.Queue.{QueueHistory}
use Rattle.queue_core.specs.States.{gauges_of}
use Rattle.board.specs.Sheet.{Sheet}

-- the alarms of a queue, each by its name with its state, in the order of their rules
abbrev pub alarms_of : QueueHistory → List (List ℕ × AlarmState)
alarms_of q = map (λ rule. (rule.name, alarm_state_in content_size q.lines q.clock rule)) q.rules

-- the statistics of a queue at its clock
abbrev pub sheet_of : QueueHistory → Sheet
sheet_of q = record {
  name = q.name;
  lines = weight_of q.lines;
  clock = q.clock;
  gauges = gauges_of q.lines q.clock;
  current = current_flows content_size q.lines q.clock;
  rows = window_rows content_size q.lines q.clock;
  alarms = alarms_of q;
}
