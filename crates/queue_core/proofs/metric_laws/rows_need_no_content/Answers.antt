use Rattle.message.specs.Content.{content_size}
use Rattle.metric_window.specs.Flows.{minute_of}
use Rattle.metric_window.proofs.MinuteLemmas.{minute_flows-marks}
use Rattle.queue_core.proofs.MarkLemmas.{created_time-marks}
use Rattle.queue_core.proofs.MetricLemmas.{metric_row-marks, window_rows-marks, alarm_state_in-marks}
use Rattle.queue_core.proofs.metric_laws.rows_need_no_content.Goals as goal

pub returns : goal.returns
returns c = record {
  row = metric_row-marks;
  rows = window_rows-marks;
  current = λ lines clock. minute_flows-marks content_size lines (minute_of clock);
  alarm = alarm_state_in-marks;
  created = created_time-marks;
}
