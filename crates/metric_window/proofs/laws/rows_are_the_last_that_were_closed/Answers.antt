use Rattle.metric_window.specs.Window.{longest_window}
use Rattle.metric_window.proofs.KeptLemmas.{keep_last-again, row_in-before, row_in-within, row_in-after}
use Rattle.metric_window.proofs.laws.rows_are_the_last_that_were_closed.Goals as goal

pub returns : goal.returns
returns c = record {
  fallen = keep_last-again longest_window;
  before = λ end minute rows last before. row_in-before end rows minute last before;
  within = λ end minute rows last from before. row_in-within end rows minute last from before;
  after = λ end minute rows last past. row_in-after end rows minute last past;
}
