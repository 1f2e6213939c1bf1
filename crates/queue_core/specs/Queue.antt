-- One queue: what each command adds to the journal, and what answers it.
use Rattle.std.specs.Prelude.{◌≡◌, ℕ, ◌+◌, ◌-◌, ◌*◌, ◌==◌, ◌&&◌, ◌||◌, not, min, map, filter, count_by, slice_get, option_map, option_and_then, nat_lt, nat_le, max, Bool, true, false, if◌then◌else◌, List, [], ◌∷◌, ◌++◌, Option, Some, None, is_some, unwrap_or, Result, Ok, Err}
use Rattle.std.specs.List.{filter_map}
use Rattle.std.specs.Option.{option_map_or}
use Rattle.message.specs.declared.fault.Fault.{Fault}
use Rattle.message.specs.declared.fault.Fault.TheVariants.{QueueDoesNotExist, InvalidParameterValue, ReceiptHandleIsInvalid, MessageNotInflight, OverLimit, JournalFull}
use Rattle.message.specs.Fault.{is_out_of_memory}
use Rattle.message.specs.Content.{ContentText, content_size}
use Rattle.queue_config.specs.AlarmRules.{Rule}
use Rattle.queue_config.specs.Limits.{QueueLimits}
use Rattle.queue_config.specs.Settings.{settings_with}
use Rattle.receipt_handle.specs.declared.handle.Handle.{Handle}
use Rattle.journal.specs.declared.entry.Entry.{Entry}
use Rattle.journal.specs.declared.entry.Event.{Event}
use Rattle.journal.specs.declared.entry.Event.TheVariants.{Opened, Sent, Arrived, Received, Changed, Deleted, DeletedAgain, Purged, Set, Settled, Orphaned, Refused, Closed, Base}
use Rattle.journal.specs.declared.entry.Origin.{Origin}
use Rattle.journal.specs.Journal.{based}
use Rattle.journal.specs.Weight.{weight_of}
use Rattle.metric_window.specs.Flows.{greatest}
use Rattle.queue_core.specs.declared.command.Command.{Command}
use Rattle.queue_core.specs.declared.command.Command.TheVariants as commands
use Rattle.queue_core.specs.declared.reply.Reply.{Reply}
use Rattle.queue_core.specs.declared.reply.Reply.TheVariants as replies
use Rattle.queue_core.specs.declared.offers.Offer.{Offer}
use Rattle.queue_core.specs.declared.parcel.Parcel.{Parcel}
use Rattle.queue_core.specs.declared.parcel.Arrival.TheVariants as arrivals
use Rattle.queue_core.specs.declared.facts.Candidate.{Candidate}
use Rattle.queue_core.specs.declared.facts.Message.{Message}
use Rattle.queue_core.specs.declared.facts.Transfer.{Transfer}
use Rattle.queue_core.specs.declared.facts.MessageState.TheVariants.{InFlight}
use Rattle.queue_core.specs.declared.reply.Look as look
use Rattle.queue_core.specs.Messages.{is_closed, messages, message_count, own_id, message_id, content_of, settings_of, created_time, modified_time, receive_count, first_receive_time, last_receive_time, waits_for, awaits_transfer, pending_transfers, has_accepted}
use Rattle.queue_core.specs.Rebase.{base_of}
use Rattle.queue_core.specs.States.{kept_count, is_live, is_in_state, count_in_state, receive_order, message_numbered, is_numbered, gauges_of}

-- a queue: its uid, its name, its limits, its clock in milliseconds, and its journal's lines
pub record QueueHistory : Type 0 where
  pub uid : ℕ
  pub name : List ℕ
  pub limits : QueueLimits
  pub rules : List Rule  -- of its alarms
  pub clock : ℕ
  pub lines : List (Entry ContentText)
  pub spare : ℕ  -- for how many entries more there is room for sure

-- the queue at a moment: the clock never falls
abbrev pub at_moment : QueueHistory → ℕ → QueueHistory
at_moment q at = record q { clock = max q.clock at }

-- what a command adds to the journal, what answers it, and whether a checkpoint takes the place of all entries before that
pub record Outcome : Type 0 where
  pub event : Option (Event ContentText)
  pub reply : Result Reply Fault
  pub rebases : Bool

-- an outcome in the journal as it stands
abbrev pub adding : Event ContentText → Result Reply Fault → Outcome
adding event reply = record { event = Some event; reply = reply; rebases = false }

abbrev pub answering : Result Reply Fault → Outcome
answering reply = record { event = None; reply = reply; rebases = false }

abbrev pub adds_entry : Outcome → Bool
adds_entry outcome = is_some outcome.event

-- whether a reply hands over a parcel, which shares a content
abbrev pub hands_over : Result Reply Fault → Bool
hands_over (Ok (replies.Parcel (Some parcel))) = true
hands_over _ = false

abbrev pub takes_memory : Outcome → Bool
takes_memory outcome = outcome.rebases || adds_entry outcome || hands_over outcome.reply

-- room for one entry more
abbrev pub has_room : QueueHistory → Bool
has_room q = nat_le 1 q.spare

-- whether an entry needs memory for no more than its own place: it does not begin the queue or a message, and is no receive and no checkpoint. The default is
-- the strong side: the code must be proved to need none ([room] of `add`), so a wrong default is refused
abbrev pub wants_place_alone : Event ContentText → Bool
wants_place_alone (Opened uid settings) = false
wants_place_alone (Sent delay content) = false
wants_place_alone (Arrived origin content) = false
wants_place_alone (Received timeout offered leaving target) = false
wants_place_alone (Base base) = false
wants_place_alone event = true

-- what adds no entry, hands over no parcel and makes no checkpoint needs no memory: its answer is the outcome's reply, never OutOfMemory
abbrev pub IsExact : Outcome → Result Reply Fault → Type 0
IsExact outcome answer = takes_memory outcome ≡ false → answer ≡ outcome.reply

-- the reply of what needs no memory, and none if memory is needed
abbrev pub reply_without_memory : Outcome → Option (Result Reply Fault)
reply_without_memory outcome = if takes_memory outcome then None else Some outcome.reply

-- what needs memory for no more than the place of its entry
abbrev pub wants_room_alone : Outcome → Bool
wants_room_alone outcome = not outcome.rebases && option_map_or wants_place_alone outcome.event true && not (hands_over outcome.reply)

-- if there is room for one more entry, such a command is never answered OutOfMemory: its answer is the outcome's reply
abbrev pub IsExactWithRoom : QueueHistory → Outcome → Result Reply Fault → Type 0
IsExactWithRoom q outcome answer = has_room q ≡ true → wants_room_alone outcome ≡ true → answer ≡ outcome.reply

-- refused, without an entry
abbrev pub uncounted_refusal : Fault → Outcome
uncounted_refusal fault = answering (Err fault)

-- refused by the queue itself, which is an entry
abbrev pub refusal : Fault → Outcome
refusal fault = adding (Refused fault) (Err fault)

-- the journal weighs as much as it may
abbrev pub is_at_limit : QueueHistory → Bool
is_at_limit q = nat_le q.limits.max_lines (weight_of q.lines)

-- and a checkpoint, which weighs 1 and 1 more for each message that is live or waits for a dead-letter queue, would make no room
abbrev pub is_full : QueueHistory → Bool
is_full q = is_at_limit q && nat_le q.limits.max_lines (1 + kept_count q.lines q.clock)

-- the queue with a checkpoint in the place of all entries, and room for one more
abbrev pub rebased : QueueHistory → QueueHistory
rebased q = record q { lines = based q.clock (base_of q.uid q.lines q.clock); spare = max q.spare 1 }

-- what refuses a command before anything of it is asked: a closed queue, and else a full journal
abbrev pub first_refusal : QueueHistory → Option Fault
first_refusal q = if is_closed q.lines then Some QueueDoesNotExist else if is_full q then Some JournalFull else None

abbrev pub unless_refused : Option Fault → Outcome → Outcome
unless_refused None outcome = outcome
unless_refused (Some fault) outcome = uncounted_refusal fault

abbrev pub with_room : QueueHistory → Outcome → Outcome
with_room q outcome = unless_refused (first_refusal q) outcome

-- a queue closes once, also where its journal is full
abbrev pub close_outcome : QueueHistory → Outcome
close_outcome q =
    if is_closed q.lines then uncounted_refusal QueueDoesNotExist
    else adding Closed (Ok replies.Done)

abbrev pub send_outcome : QueueHistory → ContentText → Option ℕ → Outcome
send_outcome q content delay =
    if nat_lt (settings_of q.lines).maximum_message_size (content_size content) then refusal InvalidParameterValue
    else adding (Sent (unwrap_or delay (settings_of q.lines).delay_seconds) content)
    (Ok (replies.Sent (record { number = message_count q.lines; id = own_id q.uid (message_count q.lines) })))

-- ---- receives

abbrev pub in_flight_count : QueueHistory → ℕ
in_flight_count q = count_in_state InFlight q.lines q.clock

-- how many messages a receive may offer: as many as were asked for and as the in-flight limit leaves
abbrev pub offer_limit : QueueHistory → ℕ → ℕ
offer_limit q maximum = min maximum (q.limits.in_flight - in_flight_count q)

-- how many messages may leave by one receive (this project's own)
abbrev pub most_departures : ℕ
most_departures = 100

-- a message that was received as often as the queue's policy allows, where it has a policy
abbrev pub is_exhausted : QueueHistory → Candidate → Bool
is_exhausted q c = option_map_or (λ p. nat_le p.max_receive_count (receive_count q.lines c.message.number)) (settings_of q.lines).redrive_policy false

-- the candidates that a receive comes to, where it may offer so many and so many may leave: it stops behind the last of either
abbrev pub scanned : (Candidate → Bool) → ℕ → ℕ → List Candidate → List Candidate
scanned exhausted offers departures [] = []
scanned exhausted offers departures (c ∷ cs) =
    if (offers == 0) || (departures == 0) then []
    else c ∷ (if exhausted c then scanned exhausted offers (departures - 1) cs else scanned exhausted (offers - 1) departures cs)

abbrev pub scanned_candidates : QueueHistory → ℕ → List Candidate
scanned_candidates q maximum = scanned (λ c. is_exhausted q c) (offer_limit q maximum) most_departures (receive_order q.lines q.clock)

-- of those it offers the ones that may be received once more, and the others leave
abbrev pub offered_candidates : QueueHistory → ℕ → List Candidate
offered_candidates q maximum = filter (λ c. not (is_exhausted q c)) (scanned_candidates q maximum)

abbrev pub leaving_candidates : QueueHistory → ℕ → List Candidate
leaving_candidates q maximum = filter (λ c. is_exhausted q c) (scanned_candidates q maximum)

-- the uid of the queue's dead-letter queue, 0 where it has none
abbrev pub policy_target : QueueHistory → ℕ
policy_target q = option_map_or (λ p. p.target) (settings_of q.lines).redrive_policy 0

abbrev pub offer_of : QueueHistory → Candidate → ContentText → Offer
offer_of q c content = record {
  number = c.message.number;
  receipt = min (receive_count q.lines c.message.number + 1) greatest;
  id = message_id q.uid c.message;
  sent = c.message.first_send_time;
  first_receive = unwrap_or (first_receive_time q.lines c.message.number) q.clock;
  source = option_map (λ origin. origin.name) c.message.origin;
  content = content;
}

-- their offers, each with the content of the message's entry
abbrev pub offers_of : QueueHistory → List Candidate → List Offer
offers_of q candidates = filter_map (λ c. option_map (λ content. offer_of q c content) (content_of q.lines c.message)) candidates

abbrev pub numbers_of : List Candidate → List ℕ
numbers_of candidates = map (λ c. c.message.number) candidates

abbrev pub received_event : QueueHistory → ℕ → Option ℕ → Event ContentText
received_event q maximum timeout = Received
    (unwrap_or timeout (settings_of q.lines).visibility_timeout)
    (numbers_of (offered_candidates q maximum))
    (numbers_of (leaving_candidates q maximum))
    (policy_target q)

abbrev pub receive_outcome : QueueHistory → ℕ → Option ℕ → Outcome
receive_outcome q maximum timeout =
    if nat_le q.limits.in_flight (in_flight_count q) then refusal OverLimit
    else adding (received_event q maximum timeout) (Ok (replies.Received (offers_of q (offered_candidates q maximum))))

-- ---- handles

-- a handle that this queue gave: its uid, a message's number, and a receive that took place
abbrev pub is_valid_handle : QueueHistory → Handle → Bool
is_valid_handle q h =
    (h.uid == q.uid) && nat_lt h.number (message_count q.lines) && nat_le 1 h.receipt && nat_le h.receipt (receive_count q.lines h.number)

-- the handle of the message's latest receive
abbrev pub is_latest_handle : QueueHistory → Handle → Bool
is_latest_handle q h = h.receipt == receive_count q.lines h.number

abbrev pub holds_in_flight : QueueHistory → Handle → Bool
holds_in_flight q h = is_numbered (λ m. is_in_state InFlight q.lines q.clock m) q.lines h.number && is_latest_handle q h

abbrev pub holds_live : QueueHistory → Handle → Bool
holds_live q h = is_numbered (λ m. is_live q.lines q.clock m) q.lines h.number && is_latest_handle q h

-- a timeout that ends later than twelve hours after the last receive
abbrev pub passes_twelve_hours : QueueHistory → ℕ → ℕ → Bool
passes_twelve_hours q number timeout = nat_lt (last_receive_time q.lines number + 43200000) (q.clock + 1000 * timeout)

abbrev pub done : Event ContentText → Outcome
done event = adding event (Ok replies.Done)

-- the first thing that is wrong with a change
abbrev pub change_refusal : QueueHistory → Handle → ℕ → Option Fault
change_refusal q h timeout =
    if is_valid_handle q h
    then (if holds_in_flight q h
    then (if passes_twelve_hours q h.number timeout then Some InvalidParameterValue else None)
    else Some MessageNotInflight)
    else Some ReceiptHandleIsInvalid

abbrev pub refused_or : Option Fault → Outcome → Outcome
refused_or None outcome = outcome
refused_or (Some fault) outcome = refusal fault

abbrev pub change_outcome : QueueHistory → Handle → ℕ → Outcome
change_outcome q h timeout = refused_or (change_refusal q h timeout) (done (Changed h.number timeout))

abbrev pub delete_outcome : QueueHistory → Handle → Outcome
delete_outcome q h =
    if is_valid_handle q h
    then done (if holds_live q h then Deleted h.number else DeletedAgain)
    else refusal ReceiptHandleIsInvalid

-- ---- dead letters

-- a queue accepts a transfer once: one that it has accepted is answered as such, for good
abbrev pub arrive_outcome : QueueHistory → Parcel → Outcome
arrive_outcome q p =
    if has_accepted q.lines p.origin.uid p.origin.number then answering (Ok (replies.Arrived arrivals.Again))
    else adding (Arrived p.origin p.content) (Ok (replies.Arrived arrivals.New))

-- whether the message of a number waits for a dead-letter queue
abbrev pub is_pending : QueueHistory → ℕ → Bool
is_pending q number = is_numbered (λ m. awaits_transfer q.lines m) q.lines number

abbrev pub settle_outcome : QueueHistory → ℕ → Outcome
settle_outcome q number =
    if is_pending q number then adding (Settled number) (Ok (replies.Settled true))
    else answering (Ok (replies.Settled false))

-- how many messages wait for the dead-letter queue of a uid
abbrev pub waiting_count : QueueHistory → ℕ → ℕ
waiting_count q target = count_by (λ m. waits_for q.lines target m) (messages q.lines)

abbrev pub orphan_outcome : QueueHistory → ℕ → Outcome
orphan_outcome q target = adding (Orphaned target) (Ok (replies.Orphaned (waiting_count q target)))

-- where a message of this queue comes from, for the queue that it is handed to
abbrev pub origin_of : QueueHistory → Message → Origin
origin_of q m = record { uid = q.uid; number = m.number; name = q.name; id = message_id q.uid m; sent = m.first_send_time }

-- what is handed over of a message with its content
abbrev pub parcel_of : QueueHistory → Transfer → Message → ContentText → Parcel
parcel_of q t m content = record { origin = origin_of q m; target = t.target; content = content }

-- what is handed over by a transfer
abbrev pub transferred_parcel : QueueHistory → Transfer → Option Parcel
transferred_parcel q t = option_and_then (λ m. option_map (λ content. parcel_of q t m content) (content_of q.lines m)) (message_numbered q.lines t.number)

-- the first transfer that is pending
abbrev pub first_transfer : QueueHistory → Option Transfer
first_transfer q = slice_get (pending_transfers q.lines) 0

abbrev pub first_parcel_of : QueueHistory → Option Parcel
first_parcel_of q = option_and_then (λ t. transferred_parcel q t) (first_transfer q)

-- ---- every command

abbrev pub look_of : QueueHistory → look.Look
look_of q = record {
  gauges = gauges_of q.lines q.clock;
  settings = settings_of q.lines;
  created = created_time q.lines;
  modified = modified_time q.lines;
  lines = weight_of q.lines;
  clock = q.clock;
  closed = is_closed q.lines;
}

-- the outcome of a command in the journal as it stands: no checkpoint comes first
abbrev pub outcome_in : QueueHistory → Command → Outcome
outcome_in q (commands.Send content delay) = with_room q (send_outcome q content delay)
outcome_in q (commands.Receive maximum timeout) = with_room q (receive_outcome q maximum timeout)
outcome_in q (commands.Change handle timeout) = with_room q (change_outcome q handle timeout)
outcome_in q (commands.Delete handle) = with_room q (delete_outcome q handle)
outcome_in q commands.Purge = with_room q (done Purged)
outcome_in q (commands.Set wish target) = with_room q (done (Set (settings_with (settings_of q.lines) wish target)))
outcome_in q (commands.Arrive parcel) = with_room q (arrive_outcome q parcel)
outcome_in q (commands.Settle number) = with_room q (settle_outcome q number)
outcome_in q (commands.Orphan target) = with_room q (orphan_outcome q target)
outcome_in q commands.Close = close_outcome q
outcome_in q commands.Look = answering (Ok (replies.Looked (look_of q)))
outcome_in q commands.FirstParcel = answering (Ok (replies.Parcel (first_parcel_of q)))

-- whether a full journal refuses a command: a checkpoint comes only before such a one
abbrev pub wants_open : Command → Bool
wants_open commands.Close = false
wants_open commands.Look = false
wants_open commands.FirstParcel = false
wants_open _ = true

abbrev pub unless_some : Option Fault → Bool → Bool
unless_some None b = b
unless_some (Some fault) b = false

-- whether a checkpoint comes first: the journal is at its limit, the queue is neither closed nor full, and the command is not Close, Look or FirstParcel
abbrev pub rebases : QueueHistory → Command → Bool
rebases q command = unless_some (first_refusal q) (wants_open command && is_at_limit q)

abbrev pub rebased_where : Bool → QueueHistory → QueueHistory
rebased_where rebases q = if rebases then rebased q else q

abbrev pub outcome_of : QueueHistory → Command → Outcome
outcome_of q command = record (outcome_in (rebased_where (rebases q command) q) command) { rebases = rebases q command }

-- whether a command leaves the clock as it is
abbrev pub leaves_clock : Command → Bool
leaves_clock commands.FirstParcel = true
leaves_clock _ = false

-- the queue that a command comes to at a moment
abbrev pub reached : QueueHistory → ℕ → Command → QueueHistory
reached q at command = if leaves_clock command then q else at_moment q at

-- the outcome of a command that comes at a moment
abbrev pub outcome_at : QueueHistory → ℕ → Command → Outcome
outcome_at q at command = outcome_of (reached q at command) command

-- the queue after an event at its clock
abbrev pub with_event : QueueHistory → Event ContentText → QueueHistory
with_event q event = record q { lines = q.lines ++ record { at = q.clock; event = event } ∷ []; spare = q.spare - 1 }

abbrev pub with_optional_event : QueueHistory → Option (Event ContentText) → QueueHistory
with_optional_event q None = q
with_optional_event q (Some event) = with_event q event

-- what an outcome makes of the queue that a command has come to: where memory ran out, it is as it was
abbrev pub after_outcome : {T : Type 0} → QueueHistory → Outcome → Result T Fault → QueueHistory
after_outcome q outcome answer = if is_out_of_memory answer then q else with_optional_event (rebased_where outcome.rebases q) outcome.event

-- what a command leaves
abbrev pub after_answer : {T : Type 0} → QueueHistory → ℕ → Command → Result T Fault → QueueHistory
after_answer q at command answer = after_outcome (reached q at command) (outcome_at q at command) answer

-- the answer of a call for one command, as a `Reply`
abbrev pub as_reply : {T : Type 0} → (T → Reply) → Result T Fault → Result Reply Fault
as_reply reply (Ok x) = Ok (reply x)
as_reply reply (Err fault) = Err fault
