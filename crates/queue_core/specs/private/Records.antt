-- What is kept of a queue's messages, and what an event makes of it.
use Rattle.std.specs.Prelude.{◌≡◌, ℕ, ◌+◌, ◌*◌, ◌-◌, ◌<◌, ◌≤◌, ◌&&◌, ◌||◌, not, nat_eq, nat_lt, nat_le, Bool, true, false, if◌then◌else◌, length, slice_get, vec_capacity, Option, Some, None, option_map, option_and_then, unwrap_or}
use Rattle.std.specs.Option.{option_map_or}
use Rattle.std.specs.List.{AllPairs}
use Rattle.indexmap.specs.IndexMap.{get, spare}
use Rattle.message.specs.Content.{ContentText}
use Rattle.journal.specs.declared.entry.Event.{Event}
use Rattle.queue_config.specs.Settings.{QueueSettings}
use Rattle.queue_core.specs.Messages.{Birth, effect_of, contains_number, offers_number, loses, closes_period, closes}
use Rattle.queue_core.specs.States.{failing_receives}
use Rattle.queue_core.specs.declared.slot.Stay.{Stay}
use Rattle.queue_core.specs.declared.slot.Stay.TheVariants.{Hidden, Shown, Left}
use Rattle.queue_core.specs.declared.slot.Slot.{Slot}
use Rattle.queue_core.specs.declared.record.Record.{Record}
use Rattle.queue_core.specs.declared.index.MessageIndex.{MessageIndex}
use Rattle.queue_core.specs.private.Slots.{is_left, AreIndexed, HasRoomForOne}

-- ---- a record

-- the same record in another place
abbrev pub with_stay : Stay → Record → Record
with_stay stay r = record r { slot = record r.slot { stay = stay } }

-- hidden, and due at a time
abbrev pub hidden_until : ℕ → Record → Record
hidden_until due r = record r { slot = record r.slot { stay = Hidden; due = due } }

-- how often it was received, once it is received again: up to as often as one that keeps failing
abbrev pub tried : ℕ → ℕ
tried tries = if nat_lt tries failing_receives then tries + 1 else tries

-- received at a time
abbrev pub received_at : ℕ → Record → Record
received_at at r = record r { first_receive = Some (unwrap_or r.first_receive at); last_receive = at; slot = record r.slot { is_fresh = false; tries = tried r.slot.tries } }

-- brought back at a time
abbrev pub back_at : ℕ → Record → Record
back_at at r = record r { slot = record r.slot { stay = Hidden; due = at; is_fresh = false; is_returned = true } }

-- with another slot and other times of receives
abbrev pub with_parts : Option ℕ → ℕ → Slot → Record → Record
with_parts first_receive last_receive slot r = record r { first_receive = first_receive; last_receive = last_receive; slot = slot }

-- its retention in seconds has ended at a time
abbrev pub has_run_out : ℕ → ℕ → Record → Bool
has_run_out retention at r = nat_le (r.first_send_time + 1000 * retention) at

-- ---- the passing of time

-- hidden until its due time
abbrev pub stay_at : ℕ → Stay → ℕ → Stay
stay_at clock Hidden due = if nat_le due clock then Shown else Hidden
stay_at clock Shown due = Shown
stay_at clock (Left target ran_out) due = Left target ran_out

abbrev pub is_left_record : Record → Bool
is_left_record r = is_left (Some r.slot)

-- what is left of a record at a time, by the retention in force
abbrev pub settled_record : ℕ → ℕ → Record → Option Record
settled_record retention clock r =
    if not (is_left_record r) && has_run_out retention clock r then None else Some (with_stay (stay_at clock r.slot.stay r.slot.due) r)

-- ---- one event, by the settings in force until then, at its time

-- a message that is there, where it is offered and where it gets another due time
abbrev pub offered_after : ℕ → Event ContentText → ℕ → Record → Record
offered_after at event number r = if offers_number number event then received_at at r else r

abbrev pub rescheduled_after : ℕ → Event ContentText → ℕ → Record → Record
rescheduled_after at event number r = if contains_number number (effect_of event).rescheduled then hidden_until (at + 1000 * (effect_of event).timeout) r else r

abbrev pub here_after : ℕ → Event ContentText → ℕ → Record → Option Record
here_after at event number r =
    if (effect_of event).removes number then None
    else Some (if contains_number number (effect_of event).departures
    then with_stay (Left (effect_of event).target false) (rescheduled_after at event number (offered_after at event number r))
    else rescheduled_after at event number (offered_after at event number r))

-- a message that has left for the dead-letter queue of a uid
abbrev pub left_after : QueueSettings → ℕ → Event ContentText → ℕ → ℕ → Bool → Record → Option Record
left_after s at event number target ran_out r =
    if loses target event then (if ran_out then None else Some (back_at at r))
    else if (effect_of event).confirms number then None
    else if closes event then None
    else Some (with_stay (Left target (ran_out || (closes_period event && has_run_out s.retention_seconds at r))) r)

abbrev pub record_after_stay : QueueSettings → ℕ → Event ContentText → ℕ → Stay → Record → Option Record
record_after_stay s at event number Hidden r = here_after at event number r
record_after_stay s at event number Shown r = here_after at event number r
record_after_stay s at event number (Left target ran_out) r = left_after s at event number target ran_out r

abbrev pub record_after : QueueSettings → ℕ → Event ContentText → ℕ → Record → Option Record
record_after s at event number r = record_after_stay s at event number r.slot.stay r

-- ---- all records

abbrev pub Records : Type 0
Records = ℕ → Option Record

-- the record of each number
abbrev pub records_in : MessageIndex → Records
records_in x n = get nat_eq x.records n

abbrev pub slots_in : MessageIndex → ℕ → Option Slot
slots_in x n = option_map (λ r. r.slot) (records_in x n)

-- how many messages there ever were
abbrev pub born_in : MessageIndex → ℕ
born_in x = length x.receives.items

-- the indices are those of the records
pub record HasIndices (x : MessageIndex) : Type 0 where
  pub indices : AreIndexed (slots_in x) (born_in x) x.indices
  pub sent : (n : ℕ) (r : Record) → records_in x n ≡ Some r → r.slot.sent ≡ r.first_send_time

-- and those that have left stand in the queue of leaving, once each
pub record IsIndexed (x : MessageIndex) : Type 0 where
  pub indices : HasIndices x
  pub leaving : (n : ℕ) → contains_number n x.leaving.items ≡ is_left (slots_in x n)
  pub once : AllPairs (λ a b. nat_eq a b ≡ false) x.leaving.items

-- there is room for one message more
pub record IsReady (x : MessageIndex) : Type 0 where
  pub indices : HasRoomForOne (slots_in x) (born_in x) x.indices
  pub records : 1 ≤ spare x.records
  pub receives : length x.receives.items < vec_capacity x.receives
  pub place : length x.receives.items < length x.indices.ages.places.items

-- nothing but room differs
pub record HasSame (x y : MessageIndex) : Type 0 where
  pub records : (n : ℕ) → records_in y n ≡ records_in x n
  pub receives : y.receives.items ≡ x.receives.items
  pub leaving : y.leaving.items ≡ x.leaving.items

-- at a time no message is hidden that is due, none shown that is not, and none there whose retention has ended
pub record IsSettled (retention clock : ℕ) (records : Records) : Type 0 where
  pub settled : (n : ℕ) (r : Record) → records n ≡ Some r → settled_record retention clock r ≡ Some r
  pub shown : (n : ℕ) (r : Record) → records n ≡ Some r → r.slot.stay ≡ Shown → r.slot.due ≤ clock

-- ---- a message that begins at a time

abbrev pub born_record : ℕ → Birth ContentText → ContentText → Record
born_record at birth content = record {
  content = content;
  enqueue_time = at;
  first_send_time = option_map_or (λ origin. origin.sent) birth.origin at;
  origin = birth.origin;
  first_receive = None;
  last_receive = 0;
  slot = record { stay = Hidden; due = at + 1000 * birth.delay; sent = option_map_or (λ origin. origin.sent) birth.origin at; is_fresh = true; is_returned = false; tries = 0 };
}

-- the record of a new message, which has a content
abbrev pub record_of_birth : ℕ → Birth ContentText → Option Record
record_of_birth at birth = option_map (born_record at birth) birth.content

-- the record of a number behind an event that is no checkpoint, where so many messages were there before
abbrev pub record_begun : ℕ → Event ContentText → ℕ → ℕ → Option Record
record_begun at event count n = option_and_then (record_of_birth at) (slice_get (effect_of event).births (n - count))

-- the records after an event, where so many messages were there before
abbrev pub records_after : QueueSettings → ℕ → Event ContentText → ℕ → Records → Records
records_after s at event count records n =
    if nat_lt n count then option_and_then (λ r. record_after s at event n r) (records n) else record_begun at event count n

-- the records at a time
abbrev pub records_settled : ℕ → ℕ → Records → Records
records_settled retention clock records n = option_and_then (λ r. settled_record retention clock r) (records n)
