-- What a queue has to know of its journal, whatever that is kept in. Queues of one uid, name, clock and in-flight limit with the same summary answer alike, if
-- both are full or neither is.
use Rattle.std.specs.Prelude.{ℕ, Bool, if◌then◌else◌, List, map, Option, Some, None, option_and_then}
use Rattle.std.specs.List.{range_with_len}
use Rattle.message.specs.Content.{ContentText, content_size}
use Rattle.queue_config.specs.Settings.{QueueSettings}
use Rattle.journal.specs.declared.entry.Entry.{Entry}
use Rattle.journal.specs.declared.entry.Origin.{Origin}
use Rattle.metric_window.specs.declared.flows.Flows.{Flows}
use Rattle.metric_window.specs.declared.row.Row.{Row}
use Rattle.queue_core.specs.declared.facts.Message.{Message}
use Rattle.queue_core.specs.declared.facts.Status.{Status}
use Rattle.queue_core.specs.declared.facts.Status.TheVariants.{Present, Removed, Waiting, Transferred}
use Rattle.journal.specs.declared.base.TransferKey.{TransferKey}
use Rattle.queue_core.specs.Messages.{message_count, content_of, settings_of, created_time, modified_time, is_closed, is_expired, receive_count, first_receive_time, last_receive_time, course_of, is_returned, due_time, pending_transfers}
use Rattle.queue_core.specs.States.{is_live, message_numbered}
use Rattle.queue_core.specs.Metrics.{current_flows, window_rows}
use Rattle.queue_core.specs.Accepted.{accepted_keys}

-- ---- one message

-- what is known of a message that is live, or that waits for the dead-letter queue of a uid
pub record KnownMessage : Type 0 where
  pub number : ℕ
  pub came : ℕ  -- when it came to the queue
  pub sent : ℕ  -- when it was first sent
  pub due : ℕ
  pub is_expired : Bool
  pub is_returned : Bool
  pub first_receive : Option ℕ
  pub last_receive : ℕ  -- 0 where it never was received
  pub origin : Option Origin
  pub content : Option ContentText
  pub target : Option ℕ

abbrev pub known_message : List (Entry ContentText) → ℕ → Option ℕ → Message → KnownMessage
known_message lines clock target m = record {
  number = m.number;
  came = m.enqueue_time;
  sent = m.first_send_time;
  due = due_time lines m;
  is_expired = is_expired lines clock m;
  is_returned = is_returned lines m;
  first_receive = first_receive_time lines m.number;
  last_receive = last_receive_time lines m.number;
  origin = m.origin;
  content = content_of lines m;
  target = target;
}

-- where it stands so
abbrev pub known_where : List (Entry ContentText) → ℕ → Status → Message → Option KnownMessage
known_where lines clock (Waiting target) m = Some (known_message lines clock (Some target) m)
known_where lines clock Present m = if is_live lines clock m then Some (known_message lines clock None m) else None
known_where lines clock Removed m = None
known_where lines clock Transferred m = None

-- the message of a number, where it is live or waits
abbrev pub known_at : List (Entry ContentText) → ℕ → ℕ → Option KnownMessage
known_at lines clock number = option_and_then (λ m. known_where lines clock (course_of lines m).status m) (message_numbered lines number)

-- ---- the whole

pub record Summary : Type 0 where
  pub settings : QueueSettings
  pub created : ℕ
  pub modified : ℕ
  pub closed : Bool
  pub receives : List ℕ  -- how often each message was received, of all that the queue ever had
  pub accepted : List TransferKey  -- in the order in which they were accepted
  pub known : ℕ → Option KnownMessage  -- by number
  pub leaving : List ℕ  -- the numbers of those that wait, in the order in which they left
  pub rows : List Row  -- of the minutes that are over, as far as they are shown
  pub flows : Flows  -- of the minute that is not

-- what a journal comes to at a time
abbrev pub summary_of : List (Entry ContentText) → ℕ → Summary
summary_of lines clock = record {
  settings = settings_of lines;
  created = created_time lines;
  modified = modified_time lines;
  closed = is_closed lines;
  receives = map (λ n. receive_count lines n) (range_with_len 0 (message_count lines));
  accepted = accepted_keys lines;
  known = λ number. known_at lines clock number;
  leaving = map (λ t. t.number) (pending_transfers lines);
  rows = window_rows content_size lines clock;
  flows = current_flows content_size lines clock;
}
