-- The states of messages, the counts and the age (Amazon SQS metrics for CloudWatch: ApproximateNumberOfMessagesVisible, ..Delayed, ..NotVisible, ApproximateAgeOfOldestMessage).
use Rattle.std.specs.Prelude.{ℕ, ◌||◌, nat_lt, map, filter, slice_get, ◌-◌, ◌/◌, ◌==◌, nat_le, Bool, true, false, not, ◌&&◌, if◌then◌else◌, List, count_by, Option, Some, None}
use Rattle.std.specs.Option.{option_map_or}
use Rattle.std.specs.List.{find}
use Rattle.message.specs.Order.{sorted}
use Rattle.journal.specs.declared.entry.Entry.{Entry}
use Rattle.queue_core.specs.declared.facts.Message.{Message}
use Rattle.queue_core.specs.declared.facts.Candidate.{Candidate}
use Rattle.queue_core.specs.declared.facts.MessageState.{MessageState}
use Rattle.queue_core.specs.declared.facts.MessageState.TheVariants.{Visible, Delayed, InFlight}
use Rattle.metric_window.specs.declared.gauges.Gauges.{Gauges}
use Rattle.queue_core.specs.Messages.{messages, is_present, awaits_transfer, is_returned, is_expired, receive_count, due_time}

-- a message that was neither removed nor has left nor has expired
abbrev pub is_live : {C : Type 0} → List (Entry C) → ℕ → Message → Bool
is_live lines clock m = is_present lines m && not (is_expired lines clock m)

-- visible from its due time on; before that delayed if it was never received nor brought back, else in flight
abbrev pub waiting_state : {C : Type 0} → List (Entry C) → ℕ → Message → MessageState
waiting_state lines clock m =
    if nat_le (due_time lines m) clock then Visible
    else if (receive_count lines m.number == 0) && not (is_returned lines m) then Delayed else InFlight

-- the state of a live message
abbrev pub state_of : {C : Type 0} → List (Entry C) → ℕ → Message → Option MessageState
state_of lines clock m = if is_live lines clock m then Some (waiting_state lines clock m) else None

abbrev pub same_state : MessageState → MessageState → Bool
same_state Visible Visible = true
same_state Delayed Delayed = true
same_state InFlight InFlight = true
same_state _ _ = false

abbrev pub is_in_state : {C : Type 0} → MessageState → List (Entry C) → ℕ → Message → Bool
is_in_state state lines clock m = option_map_or (λ s. same_state state s) (state_of lines clock m) false

-- how many messages are in a state
abbrev pub count_in_state : {C : Type 0} → MessageState → List (Entry C) → ℕ → ℕ
count_in_state state lines clock = count_by (λ m. is_in_state state lines clock m) (messages lines)

-- how many messages are live, and those that wait for a dead-letter queue
abbrev pub kept_count : {C : Type 0} → List (Entry C) → ℕ → ℕ
kept_count lines clock = count_by (λ m. is_live lines clock m || awaits_transfer lines m) (messages lines)

-- from so many receives on a message keeps failing (Amazon SQS, of ApproximateAgeOfOldestMessage)
abbrev pub failing_receives : ℕ
failing_receives = 3

-- whether a message's age is looked at: not where it keeps failing
abbrev pub has_age : {C : Type 0} → List (Entry C) → ℕ → Message → Bool
has_age lines clock m = is_live lines clock m && nat_lt (receive_count lines m.number) failing_receives

-- whole seconds since the first of those messages came to the queue, 0 where there is none
abbrev pub oldest_age : {C : Type 0} → List (Entry C) → ℕ → ℕ
oldest_age lines clock = option_map_or (λ m. (clock - m.enqueue_time) / 1000) (find (λ m. has_age lines clock m) (messages lines)) 0

abbrev pub gauges_of : {C : Type 0} → List (Entry C) → ℕ → Gauges
gauges_of lines clock = record {
  visible = count_in_state Visible lines clock;
  delayed = count_in_state Delayed lines clock;
  in_flight = count_in_state InFlight lines clock;
  age = oldest_age lines clock;
}

-- ---- the order in which messages are received

-- a message with its due time
abbrev pub candidate_of : {C : Type 0} → List (Entry C) → Message → Candidate
candidate_of lines m = record { due = due_time lines m; message = m }

-- the earlier due time first, and of equal ones the lower number
abbrev pub comes_before : Candidate → Candidate → Bool
comes_before a b = nat_lt a.due b.due || ((a.due == b.due) && nat_lt a.message.number b.message.number)

-- the visible messages in the order of due time and number
abbrev pub receive_order : {C : Type 0} → List (Entry C) → ℕ → List Candidate
receive_order lines clock = sorted comes_before (map (candidate_of lines) (filter (λ m. is_in_state Visible lines clock m) (messages lines)))

-- ---- one message by its number

abbrev pub message_numbered : {C : Type 0} → List (Entry C) → ℕ → Option Message
message_numbered lines number = slice_get (messages lines) number

-- whether a number is that of a message which passes a test
abbrev pub is_numbered : {C : Type 0} → (Message → Bool) → List (Entry C) → ℕ → Bool
is_numbered test lines number = option_map_or test (message_numbered lines number) false
