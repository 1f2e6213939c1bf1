use Rattle.queue_core.proofs.minutes.CountedLemmas.{counted, uncounted, other_minutes, recorded}
use Rattle.queue_core.proofs.MetricLemmas.{rows_shown}
use Rattle.queue_core.proofs.metric_laws.refused_calls_count_once.Goals as goal

pub returns : goal.returns
returns c = record {
  counted = λ q command fault is. counted q command fault is;
  shown = rows_shown;
  uncounted = λ q command is. uncounted q command is;
  other_minutes = λ q command minute never h. other_minutes q command minute never h;
  recorded = λ q command fault h. recorded q command fault h;
}
