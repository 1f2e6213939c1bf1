-- How many operations a call may cost: comparisons of two pairs of a moment and a number, and journal lines read (this project's own).
use Rattle.std.specs.Prelude.{ℕ, ◌+◌, ◌*◌, ◌==◌, ◌&&◌, ◌||◌, not, nat_lt, Bool, true, false, if◌then◌else◌, List, [], ◌∷◌, length, count_by, Option, Some, None, option_and_then, Result}
use Rattle.std.specs.List.{range_with_len}
use Rattle.std.specs.Int.Digits.{digits_of}
use Rattle.message.specs.declared.fault.Fault.{Fault}
use Rattle.metric_window.specs.Flows.{greatest}
use Rattle.queue_core.specs.declared.command.TimedCommand.{TimedCommand}
use Rattle.queue_core.specs.declared.reply.Reply.{Reply}
use Rattle.queue_core.specs.declared.facts.MessageState.{MessageState}
use Rattle.queue_core.specs.Messages.{message_count, awaits_transfer, due_time, receive_count}
use Rattle.queue_core.specs.States.{kept_count, is_live, state_of, same_state, message_numbered}
use Rattle.queue_core.specs.Queue.{QueueHistory, is_pending, after_answer}

abbrev pub binary_digits : ℕ → ℕ
binary_digits n = length (digits_of 2 n)

-- visible, delayed or in flight alike, or neither live
abbrev pub same_standing : Option MessageState → Option MessageState → Bool
same_standing None None = true
same_standing None (Some t) = false
same_standing (Some s) None = false
same_standing (Some s) (Some t) = same_state s t

-- both, or neither
abbrev pub alike : Bool → Bool → Bool
alike true b = b
alike false b = not b

-- the state of the message of a number, where it is live
abbrev pub state_numbered : QueueHistory → ℕ → Option MessageState
state_numbered q number = option_and_then (λ m. state_of q.lines q.clock m) (message_numbered q.lines number)

-- when it is due, where it is live or waits
abbrev pub due_numbered : QueueHistory → ℕ → Option ℕ
due_numbered q number =
    option_and_then (λ m. if is_live q.lines q.clock m || awaits_transfer q.lines m then Some (due_time q.lines m) else None) (message_numbered q.lines number)

-- at the same time, or neither due
abbrev pub same_due : Option ℕ → Option ℕ → Bool
same_due None None = true
same_due None (Some b) = false
same_due (Some a) None = false
same_due (Some a) (Some b) = a == b

-- the same number of receives, which the next receive would change: one that is as great as can be told is none
abbrev pub same_count : ℕ → ℕ → Bool
same_count a b = (a == b) && nat_lt a greatest

-- whether the state of the message of a number, the time at which it is due or the count of its receives differs between two queues; waiting for a
-- dead-letter queue is a state too, and so is being gone
abbrev pub is_touched : QueueHistory → QueueHistory → ℕ → Bool
is_touched q r number = not (same_standing (state_numbered q number) (state_numbered r number)
    && alike (is_pending q number) (is_pending r number)
    && same_due (due_numbered q number) (due_numbered r number)
    && same_count (receive_count q.lines number) (receive_count r.lines number))

-- how many of the messages that a queue had are touched by what makes another queue of it; those that begin are not among them
abbrev pub touched_count : QueueHistory → QueueHistory → ℕ
touched_count q r = count_by (λ number. is_touched q r number) (range_with_len 0 (message_count q.lines))

-- the most that a call may cost which makes another queue of one: the last 1 pays for a message that begins, or a change that leaves its message as it was
abbrev pub most_ticks : QueueHistory → QueueHistory → ℕ
most_ticks q r = 24 * (binary_digits (kept_count q.lines q.clock + 1) + 1) * (touched_count q r + 1)

-- and that commands may cost with these answers, one after another
abbrev pub most_ticks_of_all : QueueHistory → List TimedCommand → List (Result Reply Fault) → ℕ
most_ticks_of_all q [] answers = 0
most_ticks_of_all q (step ∷ steps) [] = 0
most_ticks_of_all q (step ∷ steps) (answer ∷ answers) =
    most_ticks q (after_answer q step.at step.command answer) + most_ticks_of_all (after_answer q step.at step.command answer) steps answers
