-- The messages of a queue, as its journal has them. Nothing here depends on what stands for a content.
use Rattle.std.specs.Prelude.{ℕ, suc, ◌+◌, ◌*◌, ◌&&◌, ◌||◌, ◌==◌, nat_le, nat_lt, Bool, true, false, not, if◌then◌else◌, List, [], ◌∷◌, ◌++◌, map, min, filter, length, drop, sum_by, flat_map, option_to_list, slice_get, Option, Some, None, is_some, option_map, option_and_then, unwrap_or}
use Rattle.std.specs.Option.{option_map_or}
use Rattle.std.specs.List.{list_any, find, range_with_len}
use Rattle.message.specs.declared.id.MessageId.{MessageId}
use Rattle.queue_config.specs.Settings.{QueueSettings, default_settings, without_target}
use Rattle.journal.specs.declared.entry.Entry.{Entry}
use Rattle.journal.specs.declared.entry.Event.{Event}
use Rattle.journal.specs.declared.entry.Event.TheVariants.{Opened, Sent, Arrived, Received, Changed, Deleted, DeletedAgain, Purged, Set, Settled, Orphaned, Refused, Closed, Base}
use Rattle.journal.specs.declared.entry.Origin.{Origin}
use Rattle.journal.specs.declared.base.KeptMessage.{KeptMessage}
use Rattle.journal.specs.declared.base.TransferKey.{TransferKey}
use Rattle.journal.specs.Base.{BaseOf}
use Rattle.metric_window.specs.declared.row.Row.{Row}
use Rattle.metric_window.specs.Flows.{greatest, row_kept}
use Rattle.queue_core.specs.declared.facts.Message.{Message}
use Rattle.queue_core.specs.declared.facts.Course.{Course}
use Rattle.queue_core.specs.declared.facts.Transfer.{Transfer}
use Rattle.queue_core.specs.declared.facts.Status.{Status}
use Rattle.queue_core.specs.declared.facts.Status.TheVariants.{Present, Removed, Waiting, Transferred}

-- ---- what an event does

-- how often a message was received, and when first and last: 0, None and 0 if never
pub record Receives : Type 0 where
  pub count : ℕ
  pub first : Option ℕ
  pub last : ℕ

-- what a checkpoint says of a message: when it came and was first sent, where it stood, and whether it had expired
pub record Past : Type 0 where
  pub enqueue_time : ℕ
  pub first_send_time : ℕ
  pub course : Course
  pub ran_out : Bool

-- the beginning of a message: its content, None if it is gone; the seconds until it is first due; its origin if it is a dead letter; its past if a checkpoint
-- begins it
pub record Birth (C : Type 0) : Type 0 where
  pub content : Option C
  pub delay : ℕ
  pub origin : Option Origin
  pub past : Option Past

-- what an event knows of the entries that it stands for, but for their messages
pub record Since : Type 0 where
  pub created : ℕ  -- when the queue was opened
  pub modified : ℕ  -- when it last got settings
  pub receives : ℕ → Receives  -- by number
  pub pending : List Transfer  -- the transfers that no entry had ended, in the order in which the messages left
  pub rows : List Row  -- of the minutes that are over, as far as they are shown

-- what an event does to a queue and to its messages
pub record Effect (C : Type 0) : Type 0 where
  pub births : List (Birth C)  -- the messages that begin with it, in order
  pub settings : Option QueueSettings  -- the settings from then on
  pub opens : Bool  -- the queue is open from then on
  pub closes : Bool  -- and closed
  pub closes_period : Bool  -- the retention until then is over
  pub offered : List ℕ  -- the numbers of the messages that it offers, in order
  pub rescheduled : List ℕ  -- the numbers of those that are due again so many seconds later
  pub timeout : ℕ
  pub removes : ℕ → Bool  -- whether it removes the message of a number, where that is there
  pub departures : List ℕ  -- the numbers of the messages that leave, in order
  pub target : ℕ  -- the uid of the dead-letter queue that they leave for
  pub confirms : ℕ → Bool  -- whether it confirms the transfer of the message of a number
  pub accepted : List TransferKey  -- the transfers that the queue has accepted with it
  pub lost_target : Option ℕ  -- the uid of a dead-letter queue that is gone: what waited for it comes back
  pub since : Option Since  -- what it knows of the entries that it stands for, where it is a checkpoint

abbrev pub no_effect : {C : Type 0} → Effect C
no_effect = record {
  births = [];
  settings = None;
  opens = false;
  closes = false;
  closes_period = false;
  offered = [];
  rescheduled = [];
  timeout = 0;
  removes = λ number. false;
  departures = [];
  target = 0;
  confirms = λ number. false;
  accepted = [];
  lost_target = None;
  since = None;
}

abbrev pub contains_number : ℕ → List ℕ → Bool
contains_number number numbers = list_any (λ n. n == number) numbers

-- ---- a checkpoint

abbrev pub never_received : Receives
never_received = record { count = 0; first = None; last = 0 }

-- the message of a number, where it is kept
abbrev pub kept_numbered : {C : Type 0} → BaseOf C → ℕ → Option (KeptMessage C)
kept_numbered base number = find (λ m. m.number == number) base.messages

-- a kept message waits for its dead-letter queue, or is there
abbrev pub kept_status : Option ℕ → Status
kept_status None = Present
kept_status (Some target) = Waiting target

abbrev pub kept_birth : {C : Type 0} → KeptMessage C → Birth C
kept_birth m = record {
  content = Some m.content;
  delay = 0;
  origin = m.origin;
  past = Some (record {
    enqueue_time = m.came;
    first_send_time = m.sent;
    course = record { status = kept_status m.target; due = m.due; returned = m.is_returned };
    ran_out = m.is_expired;
  });
}

-- of a message that is gone nothing is known but how often it was received
abbrev pub gone_birth : {C : Type 0} → Birth C
gone_birth = record {
  content = None;
  delay = 0;
  origin = None;
  past = Some (record { enqueue_time = 0; first_send_time = 0; course = record { status = Removed; due = 0; returned = false }; ran_out = false });
}

-- all messages that the queue ever had begin again, under their numbers
abbrev pub base_births : {C : Type 0} → BaseOf C → List (Birth C)
base_births base = map (λ number. option_map_or kept_birth (kept_numbered base number) gone_birth) (range_with_len 0 (length base.receives))

-- how often the message of a number was received, and when, where it is kept
abbrev pub base_receives : {C : Type 0} → BaseOf C → ℕ → Receives
base_receives base number = record {
  count = unwrap_or (slice_get base.receives number) 0;
  first = option_and_then (λ m. m.first_receive) (kept_numbered base number);
  last = option_map_or (λ m. m.last_receive) (kept_numbered base number) 0;
}

-- the transfer that a kept message waits for
abbrev pub kept_transfer : {C : Type 0} → KeptMessage C → Option Transfer
kept_transfer m = option_map (λ target. record { number = m.number; target = target }) m.target

abbrev pub since_base : {C : Type 0} → BaseOf C → Since
since_base base = record {
  created = base.created;
  modified = base.modified;
  receives = base_receives base;
  pending = flat_map (λ m. option_to_list (kept_transfer m)) base.messages;
  rows = map row_kept base.rows;
}

-- ---- every event

-- the transfer by which a message comes from there
abbrev pub key_of : Origin → TransferKey
key_of origin = record { uid = origin.uid; number = origin.number }

-- one clause an event, and none left out: what an event does is said here and nowhere else
abbrev pub effect_of : {C : Type 0} → Event C → Effect C
effect_of (Opened uid settings) = record no_effect { settings = Some settings; opens = true }
effect_of (Sent delay content) = record no_effect { births = record { content = Some content; delay = delay; origin = None; past = None } ∷ [] }
effect_of (Arrived origin content) = record no_effect {
  births = record { content = Some content; delay = 0; origin = Some origin; past = None } ∷ [];
  accepted = key_of origin ∷ [];
}
effect_of (Received timeout offered leaving target) = record no_effect {
  offered = offered;
  rescheduled = offered;
  timeout = timeout;
  departures = leaving;
  target = target;
}
effect_of (Changed changed timeout) = record no_effect { rescheduled = changed ∷ []; timeout = timeout }
effect_of (Deleted deleted) = record no_effect { removes = λ number. deleted == number }
effect_of DeletedAgain = no_effect
effect_of Purged = record no_effect { removes = λ number. true }
effect_of (Set settings) = record no_effect { settings = Some settings; closes_period = true }
effect_of (Settled settled) = record no_effect { confirms = λ number. settled == number }
effect_of (Orphaned target) = record no_effect { lost_target = Some target }
effect_of (Refused fault) = no_effect
effect_of Closed = record no_effect { closes = true; removes = λ number. true }
effect_of (Base base) = record no_effect {
  births = base_births base;
  settings = Some base.settings;
  accepted = base.accepted;
  since = Some (since_base base);
}

-- ---- numbering and birth

-- the past of a message that is new at a time
abbrev pub no_past : {C : Type 0} → ℕ → Birth C → Past
no_past at birth = record {
  enqueue_time = at;
  first_send_time = option_map_or (λ origin. origin.sent) birth.origin at;
  course = record { status = Present; due = at + 1000 * birth.delay; returned = false };
  ran_out = false;
}

-- a message that begins, where its entry's place, its number and the time are given
abbrev pub message_since : {C : Type 0} → ℕ → ℕ → Birth C → Past → Message
message_since place number birth past = record {
  number = number;
  place = place;
  enqueue_time = past.enqueue_time;
  first_send_time = past.first_send_time;
  origin = birth.origin;
  begun = past.course;
  ran_out = past.ran_out;
}

abbrev pub message_in : {C : Type 0} → ℕ → ℕ → ℕ → Birth C → Message
message_in place number at birth = message_since place number birth (unwrap_or birth.past (no_past at birth))

-- those that begin with one entry, numbered from a number on
abbrev pub messages_in : {C : Type 0} → ℕ → ℕ → ℕ → List (Birth C) → List Message
messages_in place number at [] = []
messages_in place number at (b ∷ bs) = message_in place number at b ∷ messages_in place (suc number) at bs

-- the messages that entries from a place on begin, numbered from a number on
abbrev pub messages_from : {C : Type 0} → ℕ → ℕ → List (Entry C) → List Message
messages_from place number [] = []
messages_from place number (e ∷ es) =
    messages_in place number e.at (effect_of e.event).births ++ messages_from (suc place) (number + length (effect_of e.event).births) es

-- all messages of a queue, in the order of their entries, numbered 0, 1, 2 and so on
abbrev pub messages : {C : Type 0} → List (Entry C) → List Message
messages lines = messages_from 0 0 lines

abbrev pub message_count : {C : Type 0} → List (Entry C) → ℕ
message_count lines = length (messages lines)

-- the id of a message that is sent to the queue of a uid
abbrev pub own_id : ℕ → ℕ → MessageId
own_id uid number = record { uid = uid; number = number }

-- a message's id: the one that it came with, and else that of the queue which it was sent to
abbrev pub message_id : ℕ → Message → MessageId
message_id uid m = option_map_or (λ origin. origin.id) m.origin (own_id uid m.number)

-- the contents of the messages that begin with an event, in order, and nothing of one that is gone
abbrev pub contents_in : {C : Type 0} → Event C → List (Option C)
contents_in event = map (λ birth. birth.content) (effect_of event).births

-- the contents of all messages, in their order
abbrev pub contents : {C : Type 0} → List (Entry C) → List (Option C)
contents lines = flat_map (λ e. contents_in e.event) lines

-- a message's content: the one of its number
abbrev pub content_of : {C : Type 0} → List (Entry C) → Message → Option C
content_of lines m = unwrap_or (slice_get (contents lines) m.number) None

-- ---- settings in force

-- settings without the policy whose dead-letter queue is gone
abbrev pub with_lost_target : QueueSettings → Option ℕ → QueueSettings
with_lost_target s lost = option_map_or (λ target. without_target s target) lost s

-- the settings after an event
abbrev pub settings_after : {C : Type 0} → QueueSettings → Event C → QueueSettings
settings_after s event = with_lost_target (unwrap_or (effect_of event).settings s) (effect_of event).lost_target

abbrev pub settings_from : {C : Type 0} → QueueSettings → List (Entry C) → QueueSettings
settings_from s [] = s
settings_from s (e ∷ es) = settings_from (settings_after s e.event) es

-- the settings in force after the last entry
abbrev pub settings_of : {C : Type 0} → List (Entry C) → QueueSettings
settings_of lines = settings_from default_settings lines

-- whether an event gives the queue its settings
abbrev pub gives_settings : {C : Type 0} → Event C → Bool
gives_settings event = is_some (effect_of event).settings

abbrev pub opens : {C : Type 0} → Event C → Bool
opens event = (effect_of event).opens

-- the time of the first entry that opens the queue, or the one that a checkpoint knows
abbrev pub created_time : {C : Type 0} → List (Entry C) → ℕ
created_time [] = 0
created_time (e ∷ es) = if opens e.event then e.at else option_map_or (λ since. since.created) (effect_of e.event).since (created_time es)

-- the time of the last entry that gives the queue its settings, or the one that a checkpoint knows
abbrev pub modified_by : {C : Type 0} → ℕ → Entry C → ℕ
modified_by time e = option_map_or (λ since. since.modified) (effect_of e.event).since (if gives_settings e.event then e.at else time)

abbrev pub modified_from : {C : Type 0} → ℕ → List (Entry C) → ℕ
modified_from time [] = time
modified_from time (e ∷ es) = modified_from (modified_by time e) es

abbrev pub modified_time : {C : Type 0} → List (Entry C) → ℕ
modified_time lines = modified_from 0 lines

-- ---- retention periods and expiry

-- a time in which one retention, in seconds, was in force: its end, which belongs to it, and the place of the entry that closes it
pub record RetentionPeriod : Type 0 where
  pub retention : ℕ
  pub end : ℕ
  pub closing : ℕ

-- whether an event ends the period before it
abbrev pub closes_period : {C : Type 0} → Event C → Bool
closes_period event = (effect_of event).closes_period

-- the periods that end at entries from a place on, or at the clock; the settings in force before the entries are given
abbrev pub periods_from : {C : Type 0} → ℕ → QueueSettings → ℕ → List (Entry C) → List RetentionPeriod
periods_from place s clock [] = record { retention = s.retention_seconds; end = clock; closing = place } ∷ []
periods_from place s clock (e ∷ es) =
    if closes_period e.event
    then record { retention = s.retention_seconds; end = e.at; closing = place } ∷ periods_from (suc place) (settings_after s e.event) clock es
    else periods_from (suc place) (settings_after s e.event) clock es

abbrev pub retention_periods : {C : Type 0} → List (Entry C) → ℕ → List RetentionPeriod
retention_periods lines clock = periods_from 0 default_settings clock lines

-- whether a period that ends after the message's entry reaches the end of the message's retention
abbrev pub runs_out_in : Message → RetentionPeriod → Bool
runs_out_in m p = nat_lt m.place p.closing && nat_le (m.first_send_time + 1000 * p.retention) p.end

abbrev pub is_expired : {C : Type 0} → List (Entry C) → ℕ → Message → Bool
is_expired lines clock m = m.ran_out || list_any (λ p. runs_out_in m p) (retention_periods lines clock)

-- ---- receives

-- whether an event offers the message of a number
abbrev pub offers_number : {C : Type 0} → ℕ → Event C → Bool
offers_number number event = contains_number number (effect_of event).offered

-- what an event knows of the receives of the message of a number before it
abbrev pub receives_before : {C : Type 0} → ℕ → Event C → Receives
receives_before number event = option_map_or (λ since. since.receives number) (effect_of event).since never_received

-- how many receives of the message of a number an event tells of
abbrev pub receives_in : {C : Type 0} → ℕ → Event C → ℕ
receives_in number event = (receives_before number event).count + (if offers_number number event then 1 else 0)

-- how often a message was received, up to the greatest number that is shown
abbrev pub receive_count : {C : Type 0} → List (Entry C) → ℕ → ℕ
receive_count lines number = min (sum_by (λ e. receives_in number e.event) lines) greatest

-- the first receive of the message of a number that an entry tells of
abbrev pub first_receive_in : {C : Type 0} → ℕ → Entry C → Option ℕ
first_receive_in number e = if offers_number number e.event then Some e.at else (receives_before number e.event).first

abbrev pub first_of_both : Option ℕ → Option ℕ → Option ℕ
first_of_both None later = later
first_of_both (Some time) later = Some time

-- when it was first received
abbrev pub first_receive_time : {C : Type 0} → List (Entry C) → ℕ → Option ℕ
first_receive_time [] number = None
first_receive_time (e ∷ es) number = first_of_both (first_receive_in number e) (first_receive_time es number)

-- the last receive that an entry tells of, where the last one before it is given
abbrev pub last_receive_by : {C : Type 0} → ℕ → ℕ → Entry C → ℕ
last_receive_by number time e = if offers_number number e.event then e.at else option_map_or (λ since. (since.receives number).last) (effect_of e.event).since time

-- when it was last received, 0 where it never was
abbrev pub last_receive_from : {C : Type 0} → ℕ → ℕ → List (Entry C) → ℕ
last_receive_from number time [] = time
last_receive_from number time (e ∷ es) = last_receive_from number (last_receive_by number time e) es

abbrev pub last_receive_time : {C : Type 0} → List (Entry C) → ℕ → ℕ
last_receive_time lines number = last_receive_from number 0 lines

-- ---- the course of a message

-- whether an event says that the dead-letter queue of a uid is gone
abbrev pub loses : {C : Type 0} → ℕ → Event C → Bool
loses target event = option_map_or (λ lost. lost == target) (effect_of event).lost_target false

-- where the message of a number stands after an event: what is removed stays so, and what has left is not removed until the queue closes
abbrev pub status_after : {C : Type 0} → ℕ → Status → Event C → Status
status_after number Present event =
    if (effect_of event).removes number then Removed
    else if contains_number number (effect_of event).departures then Waiting (effect_of event).target else Present
status_after number Removed event = Removed
status_after number (Waiting target) event =
    if loses target event then Present
    else if (effect_of event).confirms number then Transferred
    else if (effect_of event).closes then Removed else Waiting target
status_after number Transferred event = if (effect_of event).closes then Removed else Transferred

-- whether an event brings back a message that stands so
abbrev pub returns : {C : Type 0} → Status → Event C → Bool
returns (Waiting target) event = loses target event
returns _ event = false

-- when the message of a number is due after an event at a time which does not bring it back
abbrev pub due_after : {C : Type 0} → ℕ → ℕ → ℕ → Event C → ℕ
due_after number due at event = if contains_number number (effect_of event).rescheduled then at + 1000 * (effect_of event).timeout else due

abbrev pub course_after : {C : Type 0} → ℕ → Course → Entry C → Course
course_after number c e = record {
  status = status_after number c.status e.event;
  due = if returns c.status e.event then e.at else due_after number c.due e.at e.event;
  returned = returns c.status e.event || c.returned;
}

abbrev pub course_from : {C : Type 0} → ℕ → Course → List (Entry C) → Course
course_from number c [] = c
course_from number c (e ∷ es) = course_from number (course_after number c e) es

-- a message begins with its entry, and each entry behind that may change where it stands and when it is due
abbrev pub course_of : {C : Type 0} → List (Entry C) → Message → Course
course_of lines m = course_from m.number m.begun (drop m.place lines)

abbrev pub is_present_status : Status → Bool
is_present_status Present = true
is_present_status _ = false

-- neither removed nor gone to another queue
abbrev pub is_present : {C : Type 0} → List (Entry C) → Message → Bool
is_present lines m = is_present_status (course_of lines m).status

abbrev pub is_removed_status : Status → Bool
is_removed_status Removed = true
is_removed_status _ = false

-- deleted, or there when the queue was purged or closed; behind a checkpoint also what that does not keep
abbrev pub is_removed : {C : Type 0} → List (Entry C) → Message → Bool
is_removed lines m = is_removed_status (course_of lines m).status

-- when a message is to be offered next: after the last entry that offered, changed or brought it back, and else when it is first due
abbrev pub due_time : {C : Type 0} → List (Entry C) → Message → ℕ
due_time lines m = (course_of lines m).due

-- whether a message left and came back
abbrev pub is_returned : {C : Type 0} → List (Entry C) → Message → Bool
is_returned lines m = (course_of lines m).returned

-- ---- dead letters

-- whether a message that stands so waits for the dead-letter queue of a uid
abbrev pub is_waiting_status : ℕ → Status → Bool
is_waiting_status target (Waiting own) = own == target
is_waiting_status target _ = false

-- whether a message has left for the dead-letter queue of a uid, and neither was confirmed nor came back, in a queue that is not closed
abbrev pub waits_for : {C : Type 0} → List (Entry C) → ℕ → Message → Bool
waits_for lines target m = is_waiting_status target (course_of lines m).status

-- whether a message that stands so waits for a dead-letter queue, whichever it is
abbrev pub awaits_status : Status → Bool
awaits_status (Waiting target) = true
awaits_status _ = false

abbrev pub awaits_transfer : {C : Type 0} → List (Entry C) → Message → Bool
awaits_transfer lines m = awaits_status (course_of lines m).status

-- the transfers that an event begins, in order
abbrev pub departing : {C : Type 0} → Event C → List Transfer
departing event = map (λ number. record { number = number; target = (effect_of event).target }) (effect_of event).departures

-- those that it knows of that had begun before it, and its own
abbrev pub departures : {C : Type 0} → Event C → List Transfer
departures event = option_map_or (λ since. since.pending) (effect_of event).since [] ++ departing event

-- whether an event ends a transfer: it confirms it, brings the message back, or closes the queue
abbrev pub ends_transfer : {C : Type 0} → Transfer → Event C → Bool
ends_transfer t event = (effect_of event).confirms t.number || loses t.target event || (effect_of event).closes

-- the transfers that no later entry ends, in the order in which the messages left
abbrev pub pending_transfers : {C : Type 0} → List (Entry C) → List Transfer
pending_transfers [] = []
pending_transfers (e ∷ es) = filter (λ t. not (list_any (λ later. ends_transfer t later.event) es)) (departures e.event) ++ pending_transfers es

-- whether the queue has accepted the transfer of the message of a number from the queue of a uid with an event
abbrev pub accepts : {C : Type 0} → ℕ → ℕ → Event C → Bool
accepts uid number event = list_any (λ key. (key.uid == uid) && (key.number == number)) (effect_of event).accepted

-- whether the queue has accepted the transfer of the message of a number from the queue of a uid
abbrev pub has_accepted : {C : Type 0} → List (Entry C) → ℕ → ℕ → Bool
has_accepted lines uid number = list_any (λ e. accepts uid number e.event) lines

-- ---- the end of a queue

-- whether an event closes the queue
abbrev pub closes : {C : Type 0} → Event C → Bool
closes event = (effect_of event).closes

abbrev pub is_closed : {C : Type 0} → List (Entry C) → Bool
is_closed lines = list_any (λ e. closes e.event) lines

-- ---- rows of before

-- the rows that checkpoints know
abbrev pub rows_known : {C : Type 0} → List (Entry C) → List Row
rows_known lines = flat_map (λ e. option_map_or (λ since. since.rows) (effect_of e.event).since []) lines
