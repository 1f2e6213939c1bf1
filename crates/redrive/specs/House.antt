-- The queue registry: every queue of a server, by name and by uid (Amazon SQS API Reference: CreateQueue, GetQueueUrl). Uids are this project's own.
use Rattle.std.specs.Prelude.{◌≡◌, ◌⊎◌, ℕ, ◌+◌, ◌^◌, ◌<◌, ◌≤◌, ◌==◌, nat_eq, nat_le, Bool, true, false, not, ◌&&◌, ◌||◌, if◌then◌else◌, List, [], ◌∷◌, ◌++◌, length, map, filter, fold, unwrap_or, is_some, option_and_then, Option, Some, None, Result, Ok, Err}
use Rattle.std.specs.List.{find, position, IsDistinct, All}
use Rattle.std.specs.Option.{option_map, option_map_or}
use Rattle.std.specs.Str.{bytes_eq}
use Rattle.message.specs.declared.fault.Fault.{Fault}
use Rattle.message.specs.declared.fault.Fault.TheVariants.{QueueDoesNotExist, QueueNameExists, InvalidAttributeValue, OverLimit, UnsupportedOperation}
use Rattle.message.specs.Fault.{is_out_of_memory, Meets}
use Rattle.queue_config.specs.AlarmRules.{Rule}
use Rattle.queue_config.specs.Config.{Configuration, rules_of}
use Rattle.queue_config.specs.Limits.{QueueLimits}
use Rattle.queue_config.specs.Settings.{QueueSettings, RequestedAttributes, default_settings, settings_with, requested_target, same_settings}
use Rattle.journal.specs.declared.entry.Event.TheVariants.{Closed}
use Rattle.queue_core.specs.declared.command.Command.{Command}
use Rattle.queue_core.specs.declared.command.Command.TheVariants.{Set, Arrive, Settle, Orphan, Close}
use Rattle.queue_core.specs.declared.parcel.Parcel.{Parcel}
use Rattle.queue_core.specs.declared.parcel.Arrival.TheVariants.{New, Again}
use Rattle.queue_core.specs.declared.reply.Reply.{Reply}
use Rattle.queue_core.specs.declared.reply.Reply.TheVariants as replies
use Rattle.queue_core.specs.Messages.{settings_of, is_closed, has_accepted}
use Rattle.queue_core.specs.Queue.{QueueHistory, at_moment, outcome_at, takes_memory, with_event, after_answer, first_parcel_of}
use Rattle.queue_core.specs.Kept.{opened_queue}
use Rattle.redrive.specs.declared.moved.Moved.{Moved}
use Rattle.redrive.specs.declared.moved.Moved.TheVariants as moved
use Rattle.redrive.specs.declared.place.QueuePlace.{QueuePlace}
use Rattle.redrive.specs.Listing.{in_order, listed_names}

-- the limits of each queue, the uid of the next queue, and the queues that are there, in the order in which they were created
pub record House : Type 0 where
  pub limits : QueueLimits
  pub next_uid : ℕ
  pub queues : List QueueHistory

-- no queue; uids begin at 1
abbrev pub empty_house : QueueLimits → House
empty_house limits = record { limits = limits; next_uid = 1; queues = [] }

-- one more queue, whose uid is used up
abbrev pub with_queue : House → QueueHistory → House
with_queue w q = record w { next_uid = w.next_uid + 1; queues = w.queues ++ q ∷ [] }

-- a queue of the next uid
abbrev pub next_queue : House → ℕ → List ℕ → QueueSettings → List Rule → QueueHistory
next_queue w at name settings rules = opened_queue w.next_uid name settings w.limits rules at

-- the configured queues, in their order, each with the rules of its own alarms
abbrev pub new_house : Configuration → ℕ → House
new_house config at =
    fold (λ w q. with_queue w (next_queue w at q.name q.settings (rules_of config.alarms w.next_uid))) (empty_house config.limits) config.queues

-- ---- finding a queue

-- the queue of a name
abbrev pub queue_named : House → List ℕ → Option QueueHistory
queue_named w name = find (λ q. bytes_eq q.name name) w.queues

-- the uid of the queue of a name
abbrev pub found_uid : House → List ℕ → Option ℕ
found_uid w name = option_map (λ q. q.uid) (queue_named w name)

-- the queue of a uid
abbrev pub queue_of_uid : House → ℕ → Option QueueHistory
queue_of_uid w uid = find (λ q. q.uid == uid) w.queues

-- whether a queue has the uid
abbrev pub has_queue : House → ℕ → Bool
has_queue w uid = is_some (queue_of_uid w uid)

-- the queue of that uid stands at that place
abbrev pub StandsAt : House → QueuePlace → Type 0
StandsAt w found = position (λ q. q.uid == found.uid) w.queues ≡ Some found.place

-- ---- the dead-letter queue that a request names

-- its name; none where no policy is asked for, or it is cleared
abbrev pub named_target : RequestedAttributes → Option (List ℕ)
named_target wish = unwrap_or (requested_target wish) None

-- the uid that the name stands for, 0 where none is named or no queue has the name
abbrev pub target_uid : House → RequestedAttributes → ℕ
target_uid w wish = option_map_or (λ name. unwrap_or (found_uid w name) 0) (named_target wish) 0

-- whether a queue of this name may ask for it: it has to be there, and to be another queue
abbrev pub may_name_target : House → List ℕ → RequestedAttributes → Bool
may_name_target w own wish = option_map_or (λ name. not (bytes_eq name own) && is_some (queue_named w name)) (named_target wish) true

-- whether the queue of a uid may ask for it under this uid: it has to be there, to be another queue, and to be the one of the name
abbrev pub may_have_target : House → ℕ → RequestedAttributes → ℕ → Bool
may_have_target w own wish target =
    option_map_or (λ name. not (target == own) && option_map_or (λ uid. uid == target) (found_uid w name) false) (named_target wish) true

-- ---- creating a queue

-- whether the queue's settings in force already are as requested
abbrev pub has_all_requested : RequestedAttributes → ℕ → QueueHistory → Bool
has_all_requested wish target q = same_settings (settings_with (settings_of q.lines) wish target) (settings_of q.lines)

-- what a queue of the name answers
abbrev pub existing_answer : RequestedAttributes → ℕ → QueueHistory → Result ℕ Fault
existing_answer wish target q = if has_all_requested wish target q then Ok q.uid else Err QueueNameExists

-- whether there are as many queues as there may be, or no uid is left
abbrev pub has_no_place : House → Bool
has_no_place w = nat_le 1000 (length w.queues) || nat_le (2 ^ 62) w.next_uid

-- what a new name is answered
abbrev pub new_answer : House → Result ℕ Fault
new_answer w = if has_no_place w then Err OverLimit else Ok w.next_uid

-- the dead-letter queue is judged first, then whether a queue has the name, then whether there is a place
abbrev pub created_answer : House → List ℕ → RequestedAttributes → Option QueueHistory → Result ℕ Fault
created_answer w name wish known =
    if may_name_target w name wish
    then option_map_or (λ q. existing_answer wish (target_uid w wish) q) known (new_answer w)
    else Err InvalidAttributeValue

abbrev pub create_answer : House → List ℕ → RequestedAttributes → Result ℕ Fault
create_answer w name wish = created_answer w name wish (queue_named w name)

-- whether a create of the name opens a queue
abbrev pub opens_queue : House → List ℕ → RequestedAttributes → Bool
opens_queue w name wish = may_name_target w name wish && option_map_or (λ q. false) (queue_named w name) (not (has_no_place w))

-- a queue of the next uid with what is requested, and the defaults of Amazon SQS for the rest
abbrev pub new_queue : House → ℕ → List ℕ → RequestedAttributes → QueueHistory
new_queue w at name wish = next_queue w at name (settings_with default_settings wish (target_uid w wish)) []

-- what a create leaves: one queue more where it opens one, and else the house as it was
abbrev pub house_after_create : {T : Type 0} → House → ℕ → List ℕ → RequestedAttributes → Result T Fault → House
house_after_create w at name wish answer =
    if is_out_of_memory answer then w
    else if opens_queue w name wish then with_queue w (new_queue w at name wish) else w

-- ---- a command for one queue

-- whether a command is one that the registry alone gives: where it deletes a queue, or moves a dead letter
abbrev pub is_internal : Command → Bool
is_internal Close = true
is_internal (Arrive parcel) = true
is_internal (Settle number) = true
is_internal (Orphan target) = true
is_internal _ = false

-- whether the queue of a uid may be given the settings that a command asks for
abbrev pub may_set : House → ℕ → Command → Bool
may_set w uid (Set wish target) = may_have_target w uid wish target
may_set w uid _ = true

-- what refuses a command for the queue of a uid before it comes there
abbrev pub step_refusal : House → ℕ → Command → Option Fault
step_refusal w uid command =
    if has_queue w uid
    then (if is_internal command then Some UnsupportedOperation else if may_set w uid command then None else Some InvalidAttributeValue)
    else Some QueueDoesNotExist

-- the reply of a queue, if it is there
abbrev pub reply_alone : Option QueueHistory → ℕ → Command → Result Reply Fault
reply_alone q at command = option_map_or (λ q. (outcome_at q at command).reply) q (Err QueueDoesNotExist)

-- the answer of the queue of a uid
abbrev pub queue_answer : House → ℕ → ℕ → Command → Result Reply Fault
queue_answer w uid at command = reply_alone (queue_of_uid w uid) at command

-- the answer is that of the queue of the uid, where nothing refuses the command before it comes there
abbrev pub step_answer : House → ℕ → ℕ → Command → Result Reply Fault
step_answer w uid at command = option_map_or (λ fault. Err fault) (step_refusal w uid command) (queue_answer w uid at command)

-- whether a queue's answer to a command takes memory
abbrev pub takes_alone : Option QueueHistory → ℕ → Command → Bool
takes_alone q at command = option_map_or (λ q. takes_memory (outcome_at q at command)) q false

abbrev pub takes_memory_in : House → ℕ → ℕ → Command → Bool
takes_memory_in w uid at command = takes_alone (queue_of_uid w uid) at command

-- whether a step takes memory: one that is refused before it comes to a queue takes none
abbrev pub takes_memory_at : House → ℕ → ℕ → Command → Bool
takes_memory_at w uid at command = option_map_or (λ fault. false) (step_refusal w uid command) (takes_memory_in w uid at command)

-- the house with the queue of a uid changed, and every other queue as it was
abbrev pub with_queue_changed : House → ℕ → (QueueHistory → QueueHistory) → House
with_queue_changed w uid change = record w { queues = map (λ q. if q.uid == uid then change q else q) w.queues }

-- what a command leaves that comes to the queue of a uid, and is answered so
abbrev pub house_after_command : {T : Type 0} → House → ℕ → ℕ → Command → Result T Fault → House
house_after_command w uid at command answer = with_queue_changed w uid (λ q. after_answer q at command answer)

-- what a step leaves
abbrev pub house_after_step : {T : Type 0} → House → ℕ → ℕ → Command → Result T Fault → House
house_after_step w uid at command answer =
    option_map_or (λ fault. w) (step_refusal w uid command) (house_after_command w uid at command answer)

-- ---- dead letters

-- the first parcel of the queue of a uid
abbrev pub first_parcel_in : House → ℕ → Option Parcel
first_parcel_in w source = option_and_then (λ q. first_parcel_of q) (queue_of_uid w source)

-- a command, and the uid of the queue that it is for
pub record AddressedCommand : Type 0 where
  pub uid : ℕ
  pub command : Command

-- a parcel goes to its queue where that is there; else its source takes back everything that waits for that queue
abbrev pub delivery_of : House → ℕ → Parcel → AddressedCommand
delivery_of w source p =
    if has_queue w p.target then record { uid = p.target; command = Arrive p } else record { uid = source; command = Orphan p.target }

-- what a queue's answer says of the parcel
abbrev pub moved_of : Reply → Moved
moved_of (replies.Arrived New) = moved.Arrived
moved_of (replies.Arrived Again) = moved.Again
moved_of (replies.Orphaned count) = moved.Orphaned
moved_of _ = moved.None

abbrev pub as_moved : Result Reply Fault → Result Moved Fault
as_moved (Ok reply) = Ok (moved_of reply)
as_moved (Err fault) = Err fault

abbrev pub delivered_answer : House → ℕ → AddressedCommand → Result Moved Fault
delivered_answer w at d = as_moved (queue_answer w d.uid at d.command)

-- what becomes of the first parcel of the queue of a uid, which is there
abbrev pub hand_over_answer : House → ℕ → ℕ → Result Moved Fault
hand_over_answer w source at = option_map_or (λ p. delivered_answer w at (delivery_of w source p)) (first_parcel_in w source) (Ok moved.None)

abbrev pub arrive_answer : House → ℕ → ℕ → Result Moved Fault
arrive_answer w source at = if has_queue w source then hand_over_answer w source at else Err QueueDoesNotExist

-- whether the queue that the parcel goes to takes memory for its answer
abbrev pub hand_over_takes_memory : House → ℕ → ℕ → Bool
hand_over_takes_memory w source at =
    option_map_or (λ p. takes_memory_in w (delivery_of w source p).uid at (delivery_of w source p).command) (first_parcel_in w source) false

-- what it leaves, where the queue that the parcel goes to answers so
abbrev pub house_after_hand_over : {T : Type 0} → House → ℕ → ℕ → Result T Fault → House
house_after_hand_over w source at answer =
    option_map_or (λ p. house_after_command w (delivery_of w source p).uid at (delivery_of w source p).command answer) (first_parcel_in w source) w

-- whether the queue that a parcel is for is there and has accepted it
abbrev pub is_accepted : House → Parcel → Bool
is_accepted w p = option_map_or (λ q. has_accepted q.lines p.origin.uid p.origin.number) (queue_of_uid w p.target) false

-- the number of the first parcel of the queue of a uid, where that is accepted
abbrev pub accepted_number : House → ℕ → Option ℕ
accepted_number w source = option_and_then (λ p. if is_accepted w p then Some p.origin.number else None) (first_parcel_in w source)

-- the confirmation of it, and nothing where it is not accepted
abbrev pub confirm_answer : House → ℕ → ℕ → Result Reply Fault
confirm_answer w source at = option_map_or (λ number. queue_answer w source at (Settle number)) (accepted_number w source) (Ok (replies.Settled false))

-- whether the confirmation takes memory
abbrev pub confirm_takes_memory : House → ℕ → ℕ → Bool
confirm_takes_memory w source at = option_map_or (λ number. takes_memory_in w source at (Settle number)) (accepted_number w source) false

abbrev pub house_after_confirm : {T : Type 0} → House → ℕ → ℕ → Result T Fault → House
house_after_confirm w source at answer =
    option_map_or (λ number. house_after_command w source at (Settle number) answer) (accepted_number w source) w

-- ---- a parcel moved: handed over, and confirmed

-- What a hand-over leaves that is answered so, exactly where the queue that the parcel goes to takes no memory for it. Where memory ran out, for the parcel or in
-- that queue, that queue's clock alone has moved
pub record IsHandedOver (old : House) (source at : ℕ) (answer : Result Moved Fault) (new : House) : Type 0 where
  pub exact : hand_over_takes_memory old source at ≡ false → answer ≡ arrive_answer old source at
  pub left : new ≡ house_after_hand_over old source at answer

-- whether the dead-letter queue has the parcel after a hand-over that is answered so: its source has to be told
abbrev pub needs_confirmation : Result Moved Fault → Bool
needs_confirmation (Ok moved.Arrived) = true
needs_confirmation (Ok moved.Again) = true
needs_confirmation _ = false

-- the answer of a move by those to its halves: the refusal of a confirmation is that of the move
abbrev pub answer_of_halves : Result Moved Fault → Result Reply Fault → Result Moved Fault
answer_of_halves answer (Ok reply) = answer
answer_of_halves answer (Err fault) = Err fault

-- the answer of a move after a hand-over that is answered so and leaves this house
abbrev pub answer_after_hand_over : House → ℕ → ℕ → Result Moved Fault → Result Moved Fault
answer_after_hand_over between source at answer =
    if needs_confirmation answer then answer_of_halves answer (confirm_answer between source at) else answer

abbrev pub move_answer : House → ℕ → ℕ → Result Moved Fault
move_answer w source at =
    answer_after_hand_over (house_after_hand_over w source at (arrive_answer w source at)) source at (arrive_answer w source at)

-- The second half of a move, after a hand-over that took the house from `old` to `between`. It confirms the parcel that was handed over, which the
-- dead-letter queue has accepted; where the confirmation is refused, the parcel waits still
pub record IsConfirmed (old between : House) (source at : ℕ) (handed_over answer : Result Moved Fault) (new : House) : Type 0 where
  pub number : ℕ
  pub first : option_map (λ p. p.origin.number) (first_parcel_in old source) ≡ Some number
  pub accepted : accepted_number between source ≡ Some number
  pub confirmed : Result Reply Fault
  pub meets : Meets confirmed (confirm_answer between source at)
  pub exact : confirm_takes_memory between source at ≡ false → confirmed ≡ confirm_answer between source at
  pub answered : answer ≡ answer_of_halves handed_over confirmed
  pub left : new ≡ house_after_confirm between source at confirmed

-- A move, with the answer and the house between its halves. Where the dead-letter queue did not get the parcel, there is no second half
pub record IsMoved (old : House) (source at : ℕ) (answer : Result Moved Fault) (new : House) : Type 0 where
  pub handed_over : Result Moved Fault
  pub between : House
  pub meets : Meets handed_over (arrive_answer old source at)
  pub first_half : IsHandedOver old source at handed_over between
  pub second_half : needs_confirmation handed_over ≡ true → IsConfirmed old between source at handed_over answer new
  pub no_second_half : needs_confirmation handed_over ≡ false → (answer ≡ handed_over) × (new ≡ between)

-- ---- whose dead-letter queue a queue is

abbrev pub has_target : ℕ → QueueHistory → Bool
has_target uid q = option_map_or (λ p. p.target == uid) (settings_of q.lines).redrive_policy false

-- the names of the queues whose policy names the queue of a uid, in order
abbrev pub sources_in_house : House → ℕ → List (List ℕ)
sources_in_house w uid = in_order (map (λ q. q.name) (filter (λ q. has_target uid q) w.queues))

abbrev pub sources_answer : House → ℕ → Result (List (List ℕ)) Fault
sources_answer w uid = if has_queue w uid then Ok (sources_in_house w uid) else Err QueueDoesNotExist

-- ---- deleting a queue

-- a queue as its deletion leaves it: at that moment, with the entry that closes it
abbrev pub closed_queue : QueueHistory → ℕ → QueueHistory
closed_queue q at = with_event (at_moment q at) Closed

-- the queue, closed, if it is there
abbrev pub taken_alone : Option QueueHistory → ℕ → Result QueueHistory Fault
taken_alone q at = option_map_or (λ q. Ok (closed_queue q at)) q (Err QueueDoesNotExist)

abbrev pub take_answer : House → ℕ → ℕ → Result QueueHistory Fault
take_answer w uid at = taken_alone (queue_of_uid w uid) at

abbrev pub delete_answer : House → ℕ → Result (Unit {0}) Fault
delete_answer w uid = option_map_or (λ q. Ok tt) (queue_of_uid w uid) (Err QueueDoesNotExist)

-- every queue but that of the uid
abbrev pub without_queue : House → ℕ → House
without_queue w uid = record w { queues = filter (λ q. not (q.uid == uid)) w.queues }

-- what a deletion leaves; where memory ran out, only the queue's clock has moved
abbrev pub house_after_delete : {T : Type 0} → House → ℕ → ℕ → Result T Fault → House
house_after_delete w uid at answer =
    if is_out_of_memory answer then with_queue_changed w uid (λ q. at_moment q at) else without_queue w uid

-- ---- listing queues

-- the names that begin with a prefix, in order
abbrev pub names_in_house : House → List ℕ → List (List ℕ)
names_in_house w prefix = listed_names prefix (map (λ q. q.name) w.queues)

-- ---- time

-- every queue at a moment
abbrev pub house_at_moment : House → ℕ → House
house_at_moment w at = record w { queues = map (λ q. at_moment q at) w.queues }

-- ---- what is true of every registry

-- at most 1,000 queues, no two of one name or one uid, no uid used twice, uids from 1 and below 2^62, the same limits for all queues, and none closed
pub record IsRegistry (w : House) : Type 0 where
  pub count : length w.queues ≤ 1000
  pub names : IsDistinct bytes_eq (map (λ q. q.name) w.queues)
  pub uids : IsDistinct nat_eq (map (λ q. q.uid) w.queues)
  pub used : All (λ q. q.uid < w.next_uid) w.queues
  pub first : All (λ q. 1 ≤ q.uid) w.queues
  pub begun : 1 ≤ w.next_uid
  pub last : w.next_uid ≤ 2 ^ 62
  pub limits : All (λ q. q.limits ≡ w.limits) w.queues
  pub unclosed : All (λ q. is_closed q.lines ≡ false) w.queues
