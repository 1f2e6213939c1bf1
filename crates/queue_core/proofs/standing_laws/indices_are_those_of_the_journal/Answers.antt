use Rattle.queue_core.proofs.indexed.IndexLemmas.{index_due, index_sent, index_visible, index_ages, index_shown, index_delayed, index_in_flight}
use Rattle.queue_core.proofs.standing_laws.indices_are_those_of_the_journal.Goals as goal

pub returns : goal.returns
returns c = record {
  due = λ lines clock x is n. index_due lines clock x is n;
  sent = λ lines clock x is n. index_sent lines clock x is n;
  visible = λ lines clock x is. index_visible lines clock x is;
  ages = λ lines clock x is n. index_ages lines clock x is n;
  shown = λ lines clock x is. index_shown lines clock x is;
  delayed = λ lines clock x is. index_delayed lines clock x is;
  in_flight = λ lines clock x is. index_in_flight lines clock x is;
}
