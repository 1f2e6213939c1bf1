-- A queue over a list of commands.
use Rattle.std.specs.Prelude.{◌≡◌, false, List, [], ◌∷◌, Result}
use Rattle.message.specs.declared.fault.Fault.{Fault}
use Rattle.message.specs.Fault.{Meets}
use Rattle.queue_core.specs.declared.command.TimedCommand.{TimedCommand}
use Rattle.queue_core.specs.declared.reply.Reply.{Reply}
use Rattle.queue_core.specs.Queue.{QueueHistory, Outcome, outcome_at, after_answer, IsExact, IsExactWithRoom}

-- a relation holds of the queue which the answers before a step leave, of the step's outcome there, and of its answer
abbrev pub EachAnswered : (QueueHistory → Outcome → Result Reply Fault → Type 0) → QueueHistory → List TimedCommand → List (Result Reply Fault) → Type 0
EachAnswered R q [] [] = Unit {0}
EachAnswered R q [] (answer ∷ answers) = ⊥
EachAnswered R q (step ∷ steps) [] = ⊥
EachAnswered R q (step ∷ steps) (answer ∷ answers) =
    R q (outcome_at q step.at step.command) answer × EachAnswered R (after_answer q step.at step.command answer) steps answers

-- each answer is the outcome's reply, unless memory ran out
abbrev pub AreAnswers : QueueHistory → List TimedCommand → List (Result Reply Fault) → Type 0
AreAnswers q steps answers = EachAnswered (λ q outcome answer. Meets answer outcome.reply) q steps answers

-- and it is that where no entry is added, no checkpoint made and no parcel handed over
abbrev pub AreExact : QueueHistory → List TimedCommand → List (Result Reply Fault) → Type 0
AreExact q steps answers = EachAnswered (λ q outcome answer. IsExact outcome answer) q steps answers

-- and also where an entry is added that wants no more than its place, there is room for it, and no checkpoint comes first
abbrev pub AreExactWithRoom : QueueHistory → List TimedCommand → List (Result Reply Fault) → Type 0
AreExactWithRoom q steps answers = EachAnswered (λ q outcome answer. IsExactWithRoom q outcome answer) q steps answers

-- the queue that the answers leave
abbrev pub after_all : QueueHistory → List TimedCommand → List (Result Reply Fault) → QueueHistory
after_all q [] answers = q
after_all q (step ∷ steps) [] = q
after_all q (step ∷ steps) (answer ∷ answers) = after_all (after_answer q step.at step.command answer) steps answers

-- no step comes to a journal that a checkpoint replaces
abbrev pub NeverRebases : QueueHistory → List TimedCommand → List (Result Reply Fault) → Type 0
NeverRebases q [] answers = Unit {0}
NeverRebases q (step ∷ steps) [] = Unit {0}
NeverRebases q (step ∷ steps) (answer ∷ answers) =
    ((outcome_at q step.at step.command).rebases ≡ false) × NeverRebases (after_answer q step.at step.command answer) steps answers
