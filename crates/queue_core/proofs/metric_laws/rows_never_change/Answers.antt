use Rattle.queue_core.proofs.MetricLemmas.{rows_stay, rows_stay_in_place}
use Rattle.queue_core.proofs.metric_laws.rows_never_change.Goals as goal

pub returns : goal.returns
returns c = record { shown = rows_stay; row = rows_stay_in_place }
