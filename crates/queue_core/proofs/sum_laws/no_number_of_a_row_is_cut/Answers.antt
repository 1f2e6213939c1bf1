use Rattle.queue_core.proofs.minutes.SumLemmas.{minute_uncut, sum_uncut, refusal_counts}
use Rattle.queue_core.proofs.sum_laws.no_number_of_a_row_is_cut.Goals as goal

pub returns : goal.returns
returns c = record {
  minute = λ q minute legal short. minute_uncut q legal short minute;
  sum = sum_uncut;
  refused = λ q command fault legal short. refusal_counts q legal short command fault;
}
