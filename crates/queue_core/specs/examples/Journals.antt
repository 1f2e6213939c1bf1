-- Small journals, each named for what happened in it, and queues that have them. Times are in milliseconds; delays, timeouts and retentions in seconds.
use Rattle.std.specs.Prelude.{ℕ, List, [], ◌∷◌, ◌++◌, true, false, map, replicate, Some, None, Ok, Err}
use Rattle.message.specs.declared.fault.Fault.TheVariants.{InvalidParameterValue, ReceiptHandleIsInvalid, MessageNotInflight, OutOfMemory}
use Rattle.message.specs.Content.{ContentText}
use Rattle.queue_config.specs.Limits.{QueueLimits, default_limits}
use Rattle.queue_config.specs.Settings.{QueueSettings, default_settings, RequestedAttributes, no_requested_attributes}
use Rattle.receipt_handle.specs.declared.handle.Handle.{Handle}
use Rattle.journal.specs.declared.entry.Entry.{Entry}
use Rattle.journal.specs.declared.entry.Event.{Event}
use Rattle.journal.specs.declared.entry.Event.TheVariants.{Opened, Sent, Arrived, Received, Changed, Deleted, DeletedAgain, Purged, Set, Orphaned, Refused, Base}
use Rattle.journal.specs.declared.entry.Origin.{Origin}
use Rattle.journal.specs.declared.base.KeptMessage.{KeptMessage}
use Rattle.journal.specs.declared.base.KeptFlows.{KeptFlows}
use Rattle.journal.specs.declared.base.KeptRow.{KeptRow}
use Rattle.journal.specs.Base.{BaseOf}
use Rattle.queue_core.specs.declared.facts.Message.{Message}
use Rattle.queue_core.specs.declared.facts.Status.TheVariants.{Present}
use Rattle.queue_core.specs.declared.facts.MessageState.TheVariants.{Visible, Delayed, InFlight}
use Rattle.queue_core.specs.declared.offers.Offer.{Offer}
use Rattle.queue_core.specs.declared.parcel.Parcel.{Parcel}
use Rattle.queue_core.specs.declared.command.Command.{Command}
use Rattle.queue_core.specs.declared.command.Command.TheVariants.{Send, Settle, Orphan}
use Rattle.queue_core.specs.declared.command.TimedCommand.{TimedCommand}
use Rattle.queue_core.specs.declared.reply.Reply.{Reply}
use Rattle.queue_core.specs.declared.reply.Reply.TheVariants as replies
use Rattle.queue_core.specs.declared.reply.Look as look
use Rattle.queue_core.specs.States.{count_in_state}
use Rattle.queue_core.specs.Queue.{QueueHistory, Outcome, adding, answering, outcome_at, after_answer}

-- how many messages are visible, delayed and in flight
pub record Counts : Type 0 where
  pub visible : ℕ
  pub delayed : ℕ
  pub in_flight : ℕ

abbrev pub counts : ℕ → ℕ → ℕ → Counts
counts visible delayed in_flight = record { visible = visible; delayed = delayed; in_flight = in_flight }

abbrev pub counts_at : ℕ → List (Entry ContentText) → Counts
counts_at clock lines = record {
  visible = count_in_state Visible lines clock;
  delayed = count_in_state Delayed lines clock;
  in_flight = count_in_state InFlight lines clock;
}

-- ---- contents, settings and handles

abbrev pub hello : ContentText
hello = record { body = 104 ∷ 101 ∷ 108 ∷ 108 ∷ 111 ∷ []; attributes = [] }

abbrev pub letter_a : ContentText
letter_a = record { body = 97 ∷ []; attributes = [] }

abbrev pub letter_b : ContentText
letter_b = record { body = 98 ∷ []; attributes = [] }

abbrev pub empty : ContentText
empty = record { body = []; attributes = [] }

-- so many letters
abbrev pub letters : ℕ → ContentText
letters count = record { body = replicate count 97; attributes = [] }

abbrev pub with_retention : ℕ → QueueSettings
with_retention seconds = record default_settings { retention_seconds = seconds }

abbrev pub with_timeout : ℕ → QueueSettings
with_timeout seconds = record default_settings { visibility_timeout = seconds }

abbrev pub with_delay : ℕ → QueueSettings
with_delay seconds = record default_settings { delay_seconds = seconds }

abbrev pub with_largest_size : ℕ → QueueSettings
with_largest_size bytes = record default_settings { maximum_message_size = bytes }

abbrev pub requested_retention : ℕ → RequestedAttributes
requested_retention seconds = record no_requested_attributes { retention_seconds = Some seconds }

-- a handle of the queue of a uid
abbrev pub handle_of : ℕ → ℕ → ℕ → Handle
handle_of uid number receipt = record { uid = uid; number = number; receipt = receipt }

-- the handle of a receive of the first message
abbrev pub handle : ℕ → Handle
handle receipt = handle_of 1 0 receipt

-- ---- journals

abbrev pub entry : ℕ → Event ContentText → Entry ContentText
entry at event = record { at = at; event = event }

abbrev pub opened_with : QueueSettings → List (Entry ContentText)
opened_with settings = entry 0 (Opened 1 settings) ∷ []

abbrev pub only_opened : List (Entry ContentText)
only_opened = opened_with default_settings

abbrev pub hello_sent : List (Entry ContentText)
hello_sent = only_opened ++ entry 1000 (Sent 0 hello) ∷ []

abbrev pub hello_sent_with_ten_seconds_delay : List (Entry ContentText)
hello_sent_with_ten_seconds_delay = only_opened ++ entry 1000 (Sent 10 hello) ∷ []

abbrev pub hello_received : List (Entry ContentText)
hello_received = hello_sent ++ entry 2000 (Received 30 (0 ∷ []) [] 0) ∷ []

abbrev pub hello_received_and_a_handle_refused : List (Entry ContentText)
hello_received_and_a_handle_refused = hello_received ++ entry 2500 (Refused ReceiptHandleIsInvalid) ∷ []

abbrev pub hello_received_and_deleted_when_visible : List (Entry ContentText)
hello_received_and_deleted_when_visible = hello_received_and_a_handle_refused ++ entry 32000 (Deleted 0) ∷ []

-- retention

abbrev pub kept_for_a_minute : List (Entry ContentText)
kept_for_a_minute = opened_with (with_retention 60) ++ entry 0 (Sent 0 letter_a) ∷ []

abbrev pub raised_at_its_end : List (Entry ContentText)
raised_at_its_end = kept_for_a_minute ++ entry 60000 (Set (with_retention 120)) ∷ []

abbrev pub raised_before_its_end : List (Entry ContentText)
raised_before_its_end = kept_for_a_minute ++ entry 59999 (Set (with_retention 120)) ∷ []

abbrev pub lowered_for_a_second : List (Entry ContentText)
lowered_for_a_second =
    opened_with (with_retention 120) ++ entry 0 (Sent 0 letter_a) ∷ entry 90000 (Set (with_retention 60)) ∷ entry 91000 (Set (with_retention 120)) ∷ []

abbrev pub delayed_beyond_its_retention : List (Entry ContentText)
delayed_beyond_its_retention = opened_with (with_retention 60) ++ entry 0 (Sent 900 letter_a) ∷ []

-- a message that was first sent at 0 and came to this queue at 60,000, by the entry at a place
abbrev pub sent_a_minute_before : ℕ → Message
sent_a_minute_before place = record {
  number = 0;
  place = place;
  enqueue_time = 60000;
  first_send_time = 0;
  origin = None;
  begun = record { status = Present; due = 60000; returned = false };
  ran_out = false;
}

abbrev pub came_before_the_raise : List (Entry ContentText)
came_before_the_raise = opened_with (with_retention 60) ++ entry 60000 (Sent 0 letter_a) ∷ entry 60000 (Set (with_retention 120)) ∷ []

abbrev pub came_after_the_raise : List (Entry ContentText)
came_after_the_raise = opened_with (with_retention 60) ++ entry 60000 (Set (with_retention 120)) ∷ entry 60000 (Sent 0 letter_a) ∷ []

-- purges

abbrev pub one_of_two_received_and_purged : List (Entry ContentText)
one_of_two_received_and_purged =
    only_opened ++ entry 1000 (Sent 0 letter_a) ∷ entry 1000 (Sent 0 letter_b) ∷ entry 2000 (Received 30 (0 ∷ []) [] 0) ∷ entry 3000 Purged ∷ []

abbrev pub sent_after_a_purge : List (Entry ContentText)
sent_after_a_purge = one_of_two_received_and_purged ++ entry 3000 (Sent 0 hello) ∷ []

-- a change to 0, which releases a message

abbrev pub first_of_two_received : List (Entry ContentText)
first_of_two_received = only_opened ++ entry 1000 (Sent 0 letter_a) ∷ entry 2000 (Sent 0 letter_b) ∷ entry 3000 (Received 30 (0 ∷ []) [] 0) ∷ []

abbrev pub first_of_two_released : List (Entry ContentText)
first_of_two_released = first_of_two_received ++ entry 4000 (Changed 0 0) ∷ []

abbrev pub first_of_two_released_once : List (Entry ContentText)
first_of_two_released_once = first_of_two_released ++ entry 4500 (Refused MessageNotInflight) ∷ []

-- deletes

abbrev pub hello_received_twice : List (Entry ContentText)
hello_received_twice =
    opened_with (with_timeout 1) ++ entry 1000 (Sent 0 hello) ∷ entry 2000 (Received 1 (0 ∷ []) [] 0) ∷ entry 3000 (Received 1 (0 ∷ []) [] 0) ∷ []

abbrev pub deleted_under_the_older_handle : List (Entry ContentText)
deleted_under_the_older_handle = hello_received_twice ++ entry 3100 DeletedAgain ∷ []

abbrev pub deleted_under_the_latest_handle : List (Entry ContentText)
deleted_under_the_latest_handle = deleted_under_the_older_handle ++ entry 3200 (Deleted 0) ∷ []

-- twelve hours

abbrev pub hello_received_at_three_seconds : List (Entry ContentText)
hello_received_at_three_seconds = hello_sent ++ entry 3000 (Received 30 (0 ∷ []) [] 0) ∷ []

abbrev pub changed_to_twelve_hours : List (Entry ContentText)
changed_to_twelve_hours = hello_received_at_three_seconds ++ entry 3000 (Changed 0 43200) ∷ []

abbrev pub changed_to_twelve_hours_once : List (Entry ContentText)
changed_to_twelve_hours_once = changed_to_twelve_hours ++ entry 3001 (Refused InvalidParameterValue) ∷ []

-- dead letters: a message leaves after one receive for the queue of uid 9, whose name is `dead`

abbrev pub with_policy : QueueSettings
with_policy = record (with_timeout 1) { redrive_policy = Some (record { target = 9; name = 100 ∷ 101 ∷ 97 ∷ 100 ∷ []; max_receive_count = 1 }) }

abbrev pub one_received_of_two : List (Entry ContentText)
one_received_of_two =
    opened_with with_policy ++ entry 1000 (Sent 0 letter_a) ∷ entry 3000 (Received 1 (0 ∷ []) [] 9) ∷ entry 4500 (Sent 0 letter_b) ∷ []

abbrev pub first_of_two_left : List (Entry ContentText)
first_of_two_left = one_received_of_two ++ entry 5000 (Received 1 (1 ∷ []) (0 ∷ []) 9) ∷ []

abbrev pub first_of_two_left_and_purged : List (Entry ContentText)
first_of_two_left_and_purged = first_of_two_left ++ entry 5001 Purged ∷ []

abbrev pub first_of_two_back : List (Entry ContentText)
first_of_two_back = first_of_two_left ++ entry 5002 (Orphaned 9) ∷ []

-- the first message may not be received again, and is due behind the second
abbrev pub spent_one_due_last : List (Entry ContentText)
spent_one_due_last = opened_with with_policy ++ entry 1000 (Sent 0 letter_a) ∷ entry 3000 (Received 1 (0 ∷ []) [] 9) ∷ entry 3500 (Sent 0 letter_b) ∷ []

abbrev pub spent_one_stays : List (Entry ContentText)
spent_one_stays = spent_one_due_last ++ entry 5000 (Received 1 (1 ∷ []) [] 9) ∷ []

abbrev pub origin_of_a : Origin
origin_of_a = record { uid = 1; number = 0; name = 106 ∷ 111 ∷ 98 ∷ 115 ∷ []; id = record { uid = 1; number = 0 }; sent = 1000 }

abbrev pub parcel_of_a : Parcel
parcel_of_a = record { origin = origin_of_a; target = 9; content = letter_a }

abbrev pub arrived_at_five_seconds : List (Entry ContentText)
arrived_at_five_seconds = opened_with (with_retention 60) ++ entry 5000 (Arrived origin_of_a letter_a) ∷ []

-- a message that keeps failing

abbrev pub received_twice : List (Entry ContentText)
received_twice = opened_with (with_timeout 1) ++ entry 1000 (Sent 0 letter_a) ∷ entry 1000 (Received 1 (0 ∷ []) [] 0) ∷ entry 2000 (Received 1 (0 ∷ []) [] 0) ∷ []

abbrev pub received_three_times : List (Entry ContentText)
received_three_times = received_twice ++ entry 3000 (Received 1 (0 ∷ []) [] 0) ∷ []

abbrev pub sent_behind_what_fails : List (Entry ContentText)
sent_behind_what_fails = received_three_times ++ entry 5000 (Sent 0 letter_b) ∷ []

-- limits

abbrev pub three_sent : List (Entry ContentText)
three_sent = only_opened ++ entry 1000 (Sent 0 letter_a) ∷ entry 1000 (Sent 0 letter_b) ∷ entry 1000 (Sent 0 hello) ∷ []

abbrev pub two_of_three_received : List (Entry ContentText)
two_of_three_received = three_sent ++ entry 3000 (Received 30 (0 ∷ 1 ∷ []) [] 0) ∷ []

abbrev pub at_most_two_in_flight : QueueLimits
at_most_two_in_flight = record default_limits { in_flight = 2 }

abbrev pub at_most_lines : ℕ → QueueLimits
at_most_lines count = record default_limits { max_lines = count }

-- the clock, and settings

abbrev pub sent_at_nine_seconds : List (Entry ContentText)
sent_at_nine_seconds = only_opened ++ entry 9000 (Sent 0 letter_a) ∷ []

abbrev pub opened_at_one_second_and_set_at_five : List (Entry ContentText)
opened_at_one_second_and_set_at_five = entry 1000 (Opened 1 default_settings) ∷ entry 5000 (Set default_settings) ∷ []

-- ---- queues

-- the queue `jobs`, whose clock is at the time of its last entry or later
abbrev pub queue_with : QueueLimits → ℕ → List (Entry ContentText) → QueueHistory
queue_with limits clock lines = record { uid = 1; name = 106 ∷ 111 ∷ 98 ∷ 115 ∷ []; limits = limits; rules = []; clock = clock; lines = lines; spare = 0 }

abbrev pub queue : ℕ → List (Entry ContentText) → QueueHistory
queue clock lines = queue_with default_limits clock lines

-- the outcome of a command that comes to this queue at a time
abbrev pub outcome : List (Entry ContentText) → ℕ → Command → Outcome
outcome lines at command = outcome_at (queue 0 lines) at command

abbrev pub step : ℕ → Command → TimedCommand
step at command = record { at = at; command = command }

-- the queue that a command leaves, with its answer and where memory runs out
abbrev pub left_with_answer : QueueHistory → ℕ → Command → QueueHistory
left_with_answer q at command = after_answer q at command (outcome_at q at command).reply

abbrev pub left_without_memory : QueueHistory → ℕ → Command → QueueHistory
left_without_memory q at command = after_answer {T = Reply} q at command (Err OutOfMemory)

-- the queue after commands, each with its time, and its journal after them where it was opened at 0
abbrev pub queue_after : QueueHistory → List TimedCommand → QueueHistory
queue_after q [] = q
queue_after q (s ∷ steps) = queue_after (left_with_answer q s.at s.command) steps

abbrev pub lines_after : QueueSettings → List TimedCommand → List (Entry ContentText)
lines_after settings steps = (queue_after (queue 0 (opened_with settings)) steps).lines

-- ---- outcomes and offers

-- a message was sent after a delay, and got a number
abbrev pub sent_outcome : ℕ → ContentText → ℕ → Outcome
sent_outcome delay content number = adding (Sent delay content) (Ok (replies.Sent (record { number = number; id = record { uid = 1; number = number } })))

-- messages are offered for a timeout
abbrev pub received_outcome : ℕ → List Offer → Outcome
received_outcome timeout offers = adding (Received timeout (map (λ o. o.number) offers) [] 0) (Ok (replies.Received offers))

abbrev pub looked_outcome : look.Look → Outcome
looked_outcome look = answering (Ok (replies.Looked look))

-- the same, where a checkpoint comes first
abbrev pub behind_a_checkpoint : Outcome → Outcome
behind_a_checkpoint o = record o { rebases = true }

abbrev pub hello_offered : Offer
hello_offered = record { number = 0; receipt = 1; id = record { uid = 1; number = 0 }; sent = 1000; first_receive = 2000; source = None; content = hello }

abbrev pub hello_offered_a_third_time : Offer
hello_offered_a_third_time = record hello_offered { receipt = 3 }

abbrev pub letter_b_offered : Offer
letter_b_offered = record { number = 1; receipt = 1; id = record { uid = 1; number = 1 }; sent = 2000; first_receive = 5000; source = None; content = letter_b }

abbrev pub letter_a_offered_again : Offer
letter_a_offered_again = record { number = 0; receipt = 2; id = record { uid = 1; number = 0 }; sent = 1000; first_receive = 3000; source = None; content = letter_a }

abbrev pub offered_of_three : ℕ → ContentText → Offer
offered_of_three number content =
    record { number = number; receipt = 1; id = record { uid = 1; number = number }; sent = 1000; first_receive = 3000; source = None; content = content }

abbrev pub sent_at_nine_seconds_offered : Offer
sent_at_nine_seconds_offered =
    record { number = 0; receipt = 1; id = record { uid = 1; number = 0 }; sent = 9000; first_receive = 9000; source = None; content = letter_a }

abbrev pub look_at_released : look.Look
look_at_released = record {
  gauges = record { visible = 2; delayed = 0; in_flight = 0; age = 3 };
  settings = default_settings;
  created = 0;
  modified = 0;
  lines = 6;
  clock = 4500;
  closed = false;
}

-- ---- checkpoints

abbrev pub no_kept_flows : KeptFlows
no_kept_flows = record { sent = 0; sent_size = 0; received = 0; empty_receives = 0; deleted = 0; refused = 0; dead_letters_arrived = 0 }

abbrev pub one_sent_received_and_deleted : KeptFlows
one_sent_received_and_deleted = record no_kept_flows { sent = 1; sent_size = 1; received = 1; deleted = 1 }

-- of a queue whose one message was received and deleted
abbrev pub base_without_messages : BaseOf ContentText
base_without_messages = record {
  uid = 1;
  settings = default_settings;
  created = 0;
  modified = 0;
  receives = 1 ∷ [];
  accepted = [];
  messages = [];
  rows = [];
  flows = one_sent_received_and_deleted;
}

abbrev pub sent_behind_a_checkpoint : List (Entry ContentText)
sent_behind_a_checkpoint = entry 4000 (Base base_without_messages) ∷ entry 4000 (Sent 0 letter_b) ∷ []

-- of a queue whose second message left at 1,000 for the queue of uid 9 and had expired at 60,000, before the retention was raised at 90,000; whose first
-- was deleted, and whose third is in flight until 95,000
abbrev pub expired_letter_a : KeptMessage ContentText
expired_letter_a = record {
  number = 1;
  came = 0;
  sent = 0;
  due = 1000;
  is_expired = true;
  is_returned = false;
  first_receive = Some 0;
  last_receive = 0;
  origin = None;
  content = letter_a;
  target = Some 9;
}

abbrev pub received_letter_b : KeptMessage ContentText
received_letter_b = record {
  number = 2;
  came = 85000;
  sent = 50000;
  due = 95000;
  is_expired = false;
  is_returned = false;
  first_receive = Some 86000;
  last_receive = 90500;
  origin = Some origin_of_a;
  content = letter_b;
  target = None;
}

abbrev pub row_of_first_minute : KeptRow
row_of_first_minute = record { minute = 0; flows = record no_kept_flows { sent = 2; sent_size = 2; received = 1 }; visible = 0; delayed = 0; in_flight = 0; age = 0 }

abbrev pub base_of_two_kept : BaseOf ContentText
base_of_two_kept = record {
  uid = 1;
  settings = record with_policy { retention_seconds = 120 };
  created = 0;
  modified = 90000;
  receives = 4 ∷ 1 ∷ 2 ∷ [];
  accepted = record { uid = 7; number = 0 } ∷ [];
  messages = received_letter_b ∷ expired_letter_a ∷ [];
  rows = row_of_first_minute ∷ [];
  flows = no_kept_flows;
}

abbrev pub two_kept : List (Entry ContentText)
two_kept = entry 91000 (Base base_of_two_kept) ∷ []

abbrev pub two_kept_and_orphaned : List (Entry ContentText)
two_kept_and_orphaned = two_kept ++ entry 91000 (Orphaned 9) ∷ []

abbrev pub parcel_of_expired_a : Parcel
parcel_of_expired_a = record parcel_of_a { origin = record origin_of_a { number = 1; id = record { uid = 1; number = 1 }; sent = 0 } }

abbrev pub parcel_of_seventh : Parcel
parcel_of_seventh = record parcel_of_a { origin = record origin_of_a { uid = 7 } }

-- four entries, and nothing that is kept: the one message was received and deleted
abbrev pub sent_received_and_deleted : List (Entry ContentText)
sent_received_and_deleted = only_opened ++ entry 1000 (Sent 0 letter_a) ∷ entry 2000 (Received 30 (0 ∷ []) [] 0) ∷ entry 3000 (Deleted 0) ∷ []

abbrev pub asked_twice_behind_a_checkpoint : List (Entry ContentText)
asked_twice_behind_a_checkpoint = sent_behind_a_checkpoint ++ entry 4100 DeletedAgain ∷ entry 4150 (Refused ReceiptHandleIsInvalid) ∷ []

abbrev pub of_four : ℕ → List (Entry ContentText) → QueueHistory
of_four clock lines = queue_with (at_most_lines 4) clock lines

abbrev pub two_sent_behind_them : QueueHistory
two_sent_behind_them = queue_after (of_four 4150 asked_twice_behind_a_checkpoint) (step 4200 (Send hello None) ∷ step 4300 (Send hello None) ∷ [])

abbrev pub look_behind_a_checkpoint : look.Look
look_behind_a_checkpoint = record {
  gauges = record { visible = 1; delayed = 0; in_flight = 0; age = 0 };
  settings = default_settings;
  created = 0;
  modified = 0;
  lines = 2;
  clock = 4000;
  closed = false;
}

-- a message left at 1,000 and had expired at 60,000, before the retention was raised at 90,000
abbrev pub short_policy : QueueSettings
short_policy = record with_policy { retention_seconds = 60 }

abbrev pub left_and_expired : List (Entry ContentText)
left_and_expired =
    opened_with short_policy ++ entry 0 (Sent 0 letter_a) ∷ entry 0 (Received 1 (0 ∷ []) [] 9) ∷ entry 1000 (Received 1 [] (0 ∷ []) 9)
    ∷ entry 90000 (Set (record short_policy { retention_seconds = 120 })) ∷ []

abbrev pub orphaned_at_the_limit : QueueHistory
orphaned_at_the_limit = left_with_answer (queue_with (at_most_lines 5) 90000 left_and_expired) 91000 (Orphan 9)

-- two messages leave in the order in which they were due, which is not that of their numbers
abbrev pub left_as_they_were_due : List (Entry ContentText)
left_as_they_were_due =
    opened_with with_policy ++ entry 0 (Sent 0 letter_a) ∷ entry 0 (Sent 0 letter_b) ∷ entry 0 (Received 1 (0 ∷ 1 ∷ []) [] 9) ∷ entry 500 (Changed 0 2)
    ∷ entry 5000 (Received 1 [] (1 ∷ 0 ∷ []) 9) ∷ []

abbrev pub asked_for_another : QueueHistory
asked_for_another = left_with_answer (queue_with (at_most_lines 6) 5000 left_as_they_were_due) 6000 (Settle 7)

-- received at 1,000, and refused a timeout that would end more than twelve hours later
abbrev pub received_and_refused_once : List (Entry ContentText)
received_and_refused_once =
    only_opened ++ entry 0 (Sent 0 letter_a) ∷ entry 1000 (Received 30 (0 ∷ []) [] 0) ∷ entry 1001 (Refused InvalidParameterValue) ∷ []
