-- The entry that stands for all entries of a journal at a time: its summary, written down (this project's own).
use Rattle.std.specs.Prelude.{ℕ, ◌++◌, if◌then◌else◌, is_some, List, map, length, filter_map, Option, None, option_map, option_and_then}
use Rattle.std.specs.List.{range_with_len}
use Rattle.message.specs.Content.{ContentText}
use Rattle.journal.specs.declared.entry.Entry.{Entry}
use Rattle.journal.specs.declared.base.KeptMessage.{KeptMessage}
use Rattle.journal.specs.declared.base.KeptFlows.{KeptFlows}
use Rattle.journal.specs.declared.base.KeptRow.{KeptRow}
use Rattle.journal.specs.Base.{BaseOf}
use Rattle.metric_window.specs.declared.flows.Flows.{Flows}
use Rattle.metric_window.specs.declared.row.Row.{Row}
use Rattle.queue_core.specs.Summary.{KnownMessage, Summary, summary_of}

-- ---- messages

-- what is kept of a message that is known, with its content
abbrev pub kept_with : KnownMessage → ContentText → KeptMessage ContentText
kept_with k content = record {
  number = k.number;
  came = k.came;
  sent = k.sent;
  due = k.due;
  is_expired = k.is_expired;
  is_returned = k.is_returned;
  first_receive = k.first_receive;
  last_receive = k.last_receive;
  origin = k.origin;
  content = content;
  target = k.target;
}

abbrev pub kept_of : KnownMessage → Option (KeptMessage ContentText)
kept_of k = option_map (kept_with k) k.content

-- the message of a number, where it is live, and where it is live or waits
abbrev pub live_at : Summary → ℕ → Option (KeptMessage ContentText)
live_at s number = option_and_then (λ k. if is_some k.target then None else kept_of k) (s.known number)

abbrev pub kept_at : Summary → ℕ → Option (KeptMessage ContentText)
kept_at s number = option_and_then kept_of (s.known number)

-- the live ones, by number, and those that wait, in the order in which they left
abbrev pub kept_live : Summary → List (KeptMessage ContentText)
kept_live s = filter_map (live_at s) (range_with_len 0 (length s.receives))

abbrev pub kept_waiting : Summary → List (KeptMessage ContentText)
kept_waiting s = filter_map (kept_at s) s.leaving

-- ---- metrics

abbrev pub kept_flows : Flows → KeptFlows
kept_flows f = record {
  sent = f.sent;
  sent_size = f.sent_size;
  received = f.received;
  empty_receives = f.empty_receives;
  deleted = f.deleted;
  refused = f.refused;
  dead_letters_arrived = f.dead_letters_arrived;
}

abbrev pub kept_row : Row → KeptRow
kept_row r = record {
  minute = r.minute;
  flows = kept_flows r.flows;
  visible = r.gauges.visible;
  delayed = r.gauges.delayed;
  in_flight = r.gauges.in_flight;
  age = r.gauges.age;
}

-- ---- the whole

abbrev pub base_in : ℕ → Summary → BaseOf ContentText
base_in uid s = record {
  uid = uid;
  settings = s.settings;
  created = s.created;
  modified = s.modified;
  receives = s.receives;
  accepted = s.accepted;
  messages = kept_live s ++ kept_waiting s;
  rows = map kept_row s.rows;
  flows = kept_flows s.flows;
}

-- what stands for these entries of the queue of a uid at its clock
abbrev pub base_of : ℕ → List (Entry ContentText) → ℕ → BaseOf ContentText
base_of uid lines clock = base_in uid (summary_of lines clock)
