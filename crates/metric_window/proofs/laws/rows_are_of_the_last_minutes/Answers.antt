use Rattle.metric_window.proofs.WindowLemmas.{over_before, from_created, among_last, not_longer}
use Rattle.metric_window.proofs.laws.rows_are_of_the_last_minutes.Goals as goal

pub returns : goal.returns
returns c = record {
  over = over_before;
  created = from_created;
  last = among_last;
  longest = not_longer;
}
