use Rattle.queue_core.proofs.MetricLemmas.{flows_add}
use Rattle.queue_core.proofs.metric_laws.rows_add_up_to_the_journal.Goals as goal

pub returns : goal.returns
returns c = record { sum = flows_add }
