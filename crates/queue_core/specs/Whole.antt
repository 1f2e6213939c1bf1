-- Beside a queue whose journal begins anew at its limit, the same queue with its whole journal and no limit: it is told which of the commands were answered how.
use Rattle.std.specs.Prelude.{◌≡◌, ℕ, ◌+◌, max, Bool, true, false, if◌then◌else◌, List, [], ◌∷◌, Result, Ok, Err}
use Rattle.message.specs.declared.fault.Fault.{Fault}
use Rattle.message.specs.declared.fault.Fault.TheVariants.{JournalFull}
use Rattle.journal.specs.Weight.{weight_of}
use Rattle.queue_core.specs.declared.command.Command.{Command}
use Rattle.queue_core.specs.declared.command.TimedCommand.{TimedCommand}
use Rattle.queue_core.specs.declared.reply.Reply.{Reply}
use Rattle.queue_core.specs.Queue.{QueueHistory, reached, outcome_at, after_answer}
use Rattle.queue_core.specs.Standing.{AnswersAs}

-- the queue under a limit that its journal does not reach
abbrev pub without_limit : QueueHistory → QueueHistory
without_limit q = record q { limits = record q.limits { max_lines = max q.limits.max_lines (weight_of q.lines + 1) } }

abbrev pub is_full_fault : Fault → Bool
is_full_fault JournalFull = true
is_full_fault fault = false

abbrev pub is_journal_full : {T : Type 0} → Result T Fault → Bool
is_journal_full (Ok x) = false
is_journal_full (Err fault) = is_full_fault fault

-- what an answer leaves of the whole journal: a command that finds the other's journal full only comes to its moment
abbrev pub whole_after : {T : Type 0} → QueueHistory → ℕ → Command → Result T Fault → QueueHistory
whole_after w at command answer = if is_journal_full answer then reached w at command else after_answer (without_limit w) at command answer

abbrev pub whole_after_all : QueueHistory → List TimedCommand → List (Result Reply Fault) → QueueHistory
whole_after_all w [] answers = w
whole_after_all w (step ∷ steps) [] = w
whole_after_all w (step ∷ steps) (answer ∷ answers) = whole_after_all (whole_after w step.at step.command answer) steps answers

-- a command that does not find the first queue's journal full adds the same entry to both journals, and has the same reply, but for the weight
abbrev pub AnswersAsWhole : QueueHistory → QueueHistory → ℕ → Command → Type 0
AnswersAsWhole q w at command =
    is_journal_full (outcome_at q at command).reply ≡ false → AnswersAs (reached q at command) (reached (without_limit w) at command) command

-- so does each of a list
abbrev pub AnswerAsWhole : QueueHistory → QueueHistory → List TimedCommand → List (Result Reply Fault) → Type 0
AnswerAsWhole q w [] answers = Unit {0}
AnswerAsWhole q w (step ∷ steps) [] = Unit {0}
AnswerAsWhole q w (step ∷ steps) (answer ∷ answers) =
    AnswersAsWhole q w step.at step.command × AnswerAsWhole (after_answer q step.at step.command answer) (whole_after w step.at step.command answer) steps answers
