-- What is answered where no memory is wanting meets what is wanted.
use Rattle.std.proofs.Common.{List, [], ◌∷◌, refl}
use Rattle.redrive.specs.History.{AllQueues}
use Rattle.redrive.specs.HistorySteps.{HistoryStep, Own, Settle, answer_in_history, IsHistoryAnswer, after_history_step, AreHistoryAnswers}
use Rattle.redrive.specs.examples.DeadLetters.{answers_to}
use Rattle.redrive.proofs.AnswerLemmas.{meets-itself}

wanted : (all : AllQueues) (step : HistoryStep) → IsHistoryAnswer all step (answer_in_history all step)
wanted all (Own step) = record { meets = meets-itself (answer_in_history all (Own step)); exact = λ h. refl }
wanted all (Settle at source) = meets-itself (answer_in_history all (Settle at source))

pub answered : (all : AllQueues) (steps : List HistoryStep) → AreHistoryAnswers all steps (answers_to all steps)
answered all [] = tt
answered all (step ∷ steps) = (wanted all step, answered (after_history_step all step (answer_in_history all step)) steps)
