use Rattle.alarm.proofs.KeptLemmas.{state-told}
use Rattle.alarm.proofs.laws.states_are_of_the_rows_told.Goals as goal

pub returns : goal.returns
returns c = state-told
