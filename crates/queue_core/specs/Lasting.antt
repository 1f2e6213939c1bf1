-- Words for what a call leaves as it was, and for what lasts.
use Rattle.std.specs.Prelude.{◌≡◌, ◌⊎◌, ℕ, Bool, true, not, ◌&&◌, ◌||◌, List, Option, Some, None, option_and_then, Err}
use Rattle.message.specs.declared.fault.Fault.{Fault}
use Rattle.message.specs.declared.fault.Fault.TheVariants.{QueueDoesNotExist, JournalFull}
use Rattle.message.specs.Fault.{is_out_of_memory}
use Rattle.message.specs.Content.{ContentText}
use Rattle.receipt_handle.specs.declared.handle.Handle.{Handle}
use Rattle.journal.specs.declared.entry.Entry.{Entry}
use Rattle.journal.specs.declared.entry.Event.{Event}
use Rattle.journal.specs.declared.entry.Event.TheVariants.{Refused}
use Rattle.queue_core.specs.declared.command.Command.{Command}
use Rattle.queue_core.specs.declared.reply.Reply.{Reply}
use Rattle.queue_core.specs.declared.facts.Message.{Message}
use Rattle.queue_core.specs.Messages.{messages, content_of, settings_of, created_time, modified_time, receive_count, first_receive_time, last_receive_time, course_of, is_expired, is_removed, is_closed, pending_transfers, has_accepted}
use Rattle.queue_core.specs.States.{gauges_of, receive_order, message_numbered, is_numbered}
use Rattle.queue_core.specs.Queue.{QueueHistory, is_valid_handle, holds_in_flight, holds_live, reached, outcome_at, rebased_where}

-- the counts and the age, the order, the messages, where each stands, when it is due and when and how often it was received, the settings and times, the transfers that wait, those that were accepted, and what each handle may do are those of another queue
pub record StandsAs (q other : QueueHistory) : Type 0 where
  pub counts : gauges_of q.lines q.clock ≡ gauges_of other.lines other.clock
  pub order : receive_order q.lines q.clock ≡ receive_order other.lines other.clock
  pub messages : messages q.lines ≡ messages other.lines
  pub courses : (m : Message) → course_of q.lines m ≡ course_of other.lines m
  pub receives : (number : ℕ) → receive_count q.lines number ≡ receive_count other.lines number
  pub first_receives : (number : ℕ) → first_receive_time q.lines number ≡ first_receive_time other.lines number
  pub last_receives : (number : ℕ) → last_receive_time q.lines number ≡ last_receive_time other.lines number
  pub created : created_time q.lines ≡ created_time other.lines
  pub modified : modified_time q.lines ≡ modified_time other.lines
  pub closed : is_closed q.lines ≡ is_closed other.lines
  pub settings : settings_of q.lines ≡ settings_of other.lines
  pub waiting : pending_transfers q.lines ≡ pending_transfers other.lines
  pub accepted : (uid number : ℕ) → has_accepted q.lines uid number ≡ has_accepted other.lines uid number
  pub given : (h : Handle) → is_valid_handle q h ≡ is_valid_handle other h
  pub in_flight : (h : Handle) → holds_in_flight q h ≡ holds_in_flight other h
  pub live : (h : Handle) → holds_live q h ≡ holds_live other h

-- the content of the message of a number
abbrev pub content_numbered : {C : Type 0} → List (Entry C) → ℕ → Option C
content_numbered lines number = option_and_then (λ m. content_of lines m) (message_numbered lines number)

-- a message that was removed, or has expired
abbrev pub is_gone : {C : Type 0} → List (Entry C) → ℕ → Message → Bool
is_gone lines clock m = is_removed lines m || is_expired lines clock m

-- whether the message of a number was removed, and whether it was or has expired
abbrev pub is_removed_number : {C : Type 0} → List (Entry C) → ℕ → Bool
is_removed_number lines number = is_numbered (λ m. is_removed lines m) lines number

abbrev pub is_gone_number : {C : Type 0} → List (Entry C) → ℕ → ℕ → Bool
is_gone_number lines clock number = is_numbered (λ m. is_gone lines clock m) lines number

-- a number's message has a content, or it was removed and a checkpoint has let its content go
abbrev pub NamesOrLetGo : List (Entry ContentText) → ℕ → ContentText → Type 0
NamesOrLetGo lines number content =
    (content_numbered lines number ≡ Some content) ⊎ ((content_numbered lines number ≡ None) × (is_removed_number lines number ≡ true))

-- what a refused command leaves, without the refusal's entry: the queue at that moment, with a checkpoint in the place of all entries if one came first and
-- memory did not run out
abbrev pub left_by_refusal : QueueHistory → ℕ → Command → Fault → QueueHistory
left_by_refusal q at command fault = rebased_where ((outcome_at q at command).rebases && not (is_out_of_memory {T = Reply} (Err fault))) (reached q at command)

-- what a refusal adds to the journal: nothing where the queue is not there, or its journal is full
abbrev pub refusal_event : Fault → Option (Event ContentText)
refusal_event QueueDoesNotExist = None
refusal_event JournalFull = None
refusal_event fault = Some (Refused fault)
