-- Dead letters over everything that a registry ever had: which queue accepted which transfer, what became of each message that left, and where each message is.
use Rattle.std.specs.Prelude.{◌≡◌, ⊤, ◌⊎◌, ℕ, suc, ◌≤◌, ◌==◌, ◌&&◌, Bool, true, false, List, [], ◌∷◌, drop, count_by, slice_get, option_map, Option, Some, None, Ok}
use Rattle.std.specs.Option.{option_map_or, ForSome}
use Rattle.std.specs.List.{find}
use Rattle.message.specs.declared.id.MessageId.{MessageId}
use Rattle.message.specs.Content.{ContentText}
use Rattle.queue_config.specs.Config.{Configuration}
use Rattle.journal.specs.declared.entry.Entry.{Entry}
use Rattle.queue_core.specs.declared.facts.Message.{Message}
use Rattle.queue_core.specs.declared.facts.Status.{Status}
use Rattle.queue_core.specs.declared.facts.Status.TheVariants.{Waiting, Transferred}
use Rattle.queue_core.specs.declared.facts.Transfer.{Transfer}
use Rattle.queue_core.specs.Messages.{effect_of, contains_number, message_id, course_of, is_returned, loses, ends_transfer}
use Rattle.queue_core.specs.Accepted.{accepted_keys}
use Rattle.queue_core.specs.States.{is_live, message_numbered, is_numbered}
use Rattle.queue_core.specs.Queue.{QueueHistory}
use Rattle.redrive.specs.declared.steps.HouseStep.TheVariants as steps
use Rattle.redrive.specs.House.{queue_of_uid, new_house}
use Rattle.redrive.specs.History.{AllQueues, journal_of, was_accepted}
use Rattle.redrive.specs.HouseSteps.{HouseAnswer}
use Rattle.redrive.specs.HistorySteps.{HistoryStep, Own}
use Rattle.redrive.specs.WholeSteps.{whole_after_step}

-- the beginning: the configured queues, and none deleted
abbrev pub first_history : Configuration → ℕ → AllQueues
first_history config at = record { house = new_house config at; deleted = [] }

-- ---- which transfers were accepted

-- how often the transfer of a number from the queue of a uid is among those that a journal accepts
abbrev pub acceptance_count : {C : Type 0} → List (Entry C) → ℕ → ℕ → ℕ
acceptance_count lines source number = count_by (λ key. (key.uid == source) && (key.number == number)) (accepted_keys lines)

-- no journal, of a queue that is there or was deleted, accepts a transfer twice
abbrev pub EachAcceptedOnce : AllQueues → Type 0
EachAcceptedOnce all = (uid source number : ℕ) → ForSome (journal_of all uid) (λ lines. acceptance_count lines source number ≤ 1)

-- ---- what became of each message that left

-- an entry at a place of the journal lists the message as leaving for the target
pub record IsDeparture (lines : List (Entry ContentText)) (place : ℕ) (t : Transfer) : Type 0 where
  pub entry : Entry ContentText
  pub stands : slice_get lines place ≡ Some entry
  pub leaves : contains_number t.number (effect_of entry.event).departures ≡ true
  pub target : (effect_of entry.event).target ≡ t.target

-- the first of the entries behind it that ends the transfer
abbrev pub end_of : {C : Type 0} → Transfer → List (Entry C) → Option (Entry C)
end_of t later = find (λ e. ends_transfer t e.event) later

-- where the message of a number stands
abbrev pub status_numbered : {C : Type 0} → List (Entry C) → ℕ → Option Status
status_numbered lines number = option_map (λ m. (course_of lines m).status) (message_numbered lines number)

-- nothing has ended the transfer, and the message waits for the target
pub record StillWaits (lines : List (Entry ContentText)) (t : Transfer) (later : List (Entry ContentText)) : Type 0 where
  pub unended : end_of t later ≡ None
  pub waits : status_numbered lines t.number ≡ Some (Waiting t.target)

-- the transfer was confirmed, and the target, which is there or was deleted, has accepted it
pub record WasTransferred (all : AllQueues) (q : QueueHistory) (t : Transfer) (later : List (Entry ContentText)) : Type 0 where
  pub entry : Entry ContentText
  pub ended : end_of t later ≡ Some entry
  pub confirmed : (effect_of entry.event).confirms t.number ≡ true
  pub transferred : status_numbered q.lines t.number ≡ Some Transferred
  pub accepted : was_accepted all t.target q.uid t.number ≡ true

-- the entry that ends the transfer says that the target is gone, and the message came back
pub record CameBack (lines : List (Entry ContentText)) (t : Transfer) (later : List (Entry ContentText)) : Type 0 where
  pub entry : Entry ContentText
  pub ended : end_of t later ≡ Some entry
  pub lost : loses t.target entry.event ≡ true
  pub returned : is_numbered (λ m. is_returned lines m) lines t.number ≡ true

-- one of the three
abbrev pub HasFate : AllQueues → QueueHistory → Transfer → List (Entry ContentText) → Type 0
HasFate all q t later = StillWaits q.lines t later ⊎ (WasTransferred all q t later ⊎ CameBack q.lines t later)

-- in each queue that is there, each departure has its fate in the entries behind it
abbrev pub EachHasItsFate : AllQueues → Type 0
EachHasItsFate all =
    (uid place : ℕ) (t : Transfer) → ForSome (queue_of_uid all.house uid) (λ q. IsDeparture q.lines place t → HasFate all q t (drop (suc place) q.lines))

-- ---- where each message is

-- in the queue of a uid under a number, or on the way from there
pub data Place : Type 0 where
  Standing : (uid number : ℕ) → Place
  InTransit : (uid number : ℕ) → Place

-- the queue of the uid is there, and the message of the number has the id
pub record IsNumbered (all : AllQueues) (id : MessageId) (uid number : ℕ) (q : QueueHistory) (m : Message) : Type 0 where
  pub there : queue_of_uid all.house uid ≡ Some q
  pub numbered : message_numbered q.lines number ≡ Some m
  pub named : message_id uid m ≡ id

-- it is live there
pub record IsStanding (all : AllQueues) (id : MessageId) (uid number : ℕ) : Type 0 where
  pub queue : QueueHistory
  pub message : Message
  pub here : IsNumbered all id uid number queue message
  pub live : is_live queue.lines queue.clock message ≡ true

-- it has left from there, and waits for a target, there or deleted, that has not accepted it
pub record IsInTransit (all : AllQueues) (id : MessageId) (uid number : ℕ) : Type 0 where
  pub queue : QueueHistory
  pub message : Message
  pub here : IsNumbered all id uid number queue message
  pub target : ℕ
  pub waits : (course_of queue.lines message).status ≡ Waiting target
  pub unaccepted : was_accepted all target uid number ≡ false

abbrev pub IsPlaceOf : AllQueues → MessageId → Place → Type 0
IsPlaceOf all id (Standing uid number) = IsStanding all id uid number
IsPlaceOf all id (InTransit uid number) = IsInTransit all id uid number

-- any two places of one message are the same
abbrev pub EachHasOnePlace : AllQueues → Type 0
EachHasOnePlace all = (id : MessageId) (here there : Place) → IsPlaceOf all id here → IsPlaceOf all id there → here ≡ there

-- ---- the deletions that make two places of one

-- whether a message came by the transfer of a number from the queue of a uid
abbrev pub came_from : ℕ → ℕ → Message → Bool
came_from source number m = option_map_or (λ o. (o.uid == source) && (o.number == number)) m.origin false

-- the queue of a uid relays a message: the transfer by which it came here is not confirmed at its source, where it waits still, and a next queue, there or deleted, has accepted it from here
pub record IsRelay (all : AllQueues) (uid : ℕ) : Type 0 where
  pub source : ℕ
  pub number : ℕ
  pub source_queue : QueueHistory
  pub source_there : queue_of_uid all.house source ≡ Some source_queue
  pub waits : status_numbered source_queue.lines number ≡ Some (Waiting uid)
  pub queue : QueueHistory
  pub there : queue_of_uid all.house uid ≡ Some queue
  pub own_number : ℕ
  pub came : is_numbered (λ m. came_from source number m) queue.lines own_number ≡ true
  pub next : ℕ
  pub gone_on : was_accepted all next uid own_number ≡ true

-- a step that does not delete such a queue; a deletion that finds no memory deletes none
abbrev pub IsSpared : AllQueues → HistoryStep → HouseAnswer → Type 0
IsSpared all (Own (steps.Delete at uid)) (Ok reply) = IsRelay all uid → ⊥
IsSpared all step answer = ⊤

-- no step of the list deletes such a queue; whether it is one is read off whole journals
abbrev pub NoRelayDeleted : AllQueues → List HistoryStep → List HouseAnswer → Type 0
NoRelayDeleted all [] answers = ⊤
NoRelayDeleted all (step ∷ steps) [] = ⊤
NoRelayDeleted all (step ∷ steps) (answer ∷ answers) = IsSpared all step answer × NoRelayDeleted (whole_after_step all step answer) steps answers
