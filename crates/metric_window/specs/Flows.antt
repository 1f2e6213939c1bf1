-- What happens to a queue in a minute (Amazon SQS metrics for CloudWatch; what is refused and what arrives are this project's own).
-- Nothing here depends on what stands for a content: a function tells its size in bytes.
use Rattle.std.specs.Prelude.{ℕ, ◌+◌, ◌-◌, ◌/◌, ◌^◌, ◌==◌, min, List, [], ◌∷◌, map, filter, length, if◌then◌else◌}
use Rattle.journal.specs.declared.entry.Entry.{Entry}
use Rattle.journal.specs.declared.entry.Event.{Event}
use Rattle.journal.specs.declared.entry.Event.TheVariants.{Opened, Sent, Arrived, Received, Changed, Deleted, DeletedAgain, Purged, Set, Settled, Orphaned, Refused, Closed, Base}
use Rattle.journal.specs.declared.base.KeptFlows.{KeptFlows}
use Rattle.journal.specs.declared.base.KeptRow.{KeptRow}
use Rattle.metric_window.specs.declared.flows.Flows.{Flows}
use Rattle.metric_window.specs.declared.row.Row.{Row}

-- nothing happened
abbrev pub no_flows : Flows
no_flows = record { sent = 0; sent_size = 0; received = 0; empty_receives = 0; deleted = 0; refused = 0; dead_letters_arrived = 0 }

-- a receive, by how many messages it offers: it is empty where it offers none
abbrev pub receive_flows : ℕ → Flows
receive_flows offers = record no_flows { received = offers; empty_receives = if offers == 0 then 1 else 0 }

-- the flows that a checkpoint keeps
abbrev pub flows_kept : KeptFlows → Flows
flows_kept f = record {
  sent = f.sent;
  sent_size = f.sent_size;
  received = f.received;
  empty_receives = f.empty_receives;
  deleted = f.deleted;
  refused = f.refused;
  dead_letters_arrived = f.dead_letters_arrived;
}

-- a row that a checkpoint keeps
abbrev pub row_kept : KeptRow → Row
row_kept r = record {
  minute = r.minute;
  flows = flows_kept r.flows;
  gauges = record { visible = r.visible; delayed = r.delayed; in_flight = r.in_flight; age = r.age };
}

-- what one event is counted as: a clause for each, and none left out. What leaves by a receive isn't offered by it
abbrev pub flows_of : {C : Type 0} → (C → ℕ) → Event C → Flows
flows_of size (Opened uid settings) = no_flows
flows_of size (Sent delay content) = record no_flows { sent = 1; sent_size = size content }
flows_of size (Arrived origin content) = record no_flows { dead_letters_arrived = 1 }
flows_of size (Received timeout offered leaving target) = receive_flows (length offered)
flows_of size (Changed number timeout) = no_flows
flows_of size (Deleted number) = record no_flows { deleted = 1 }
flows_of size DeletedAgain = record no_flows { deleted = 1 }
flows_of size Purged = no_flows
flows_of size (Set settings) = no_flows
flows_of size (Settled number) = no_flows
flows_of size (Orphaned target) = no_flows
flows_of size (Refused fault) = record no_flows { refused = 1 }
flows_of size Closed = no_flows
flows_of size (Base base) = flows_kept base.flows  -- what happened in its minute before it

-- both together, number by number
abbrev pub added : Flows → Flows → Flows
added f g = record {
  sent = f.sent + g.sent;
  sent_size = f.sent_size + g.sent_size;
  received = f.received + g.received;
  empty_receives = f.empty_receives + g.empty_receives;
  deleted = f.deleted + g.deleted;
  refused = f.refused + g.refused;
  dead_letters_arrived = f.dead_letters_arrived + g.dead_letters_arrived;
}

-- all of them together
abbrev pub total : List Flows → Flows
total [] = no_flows
total (f ∷ fs) = added f (total fs)

-- the greatest number that a row can show
abbrev pub greatest : ℕ
greatest = 2 ^ 64 - 1

-- each number, or the greatest where it is more
abbrev pub capped : Flows → Flows
capped f = record {
  sent = min f.sent greatest;
  sent_size = min f.sent_size greatest;
  received = min f.received greatest;
  empty_receives = min f.empty_receives greatest;
  deleted = min f.deleted greatest;
  refused = min f.refused greatest;
  dead_letters_arrived = min f.dead_letters_arrived greatest;
}

-- the minute of a time in milliseconds
abbrev pub minute_of : ℕ → ℕ
minute_of at = at / 60000

-- the entries of a minute
abbrev pub entries_in : {C : Type 0} → ℕ → List (Entry C) → List (Entry C)
entries_in minute entries = filter (λ e. minute_of e.at == minute) entries

-- what all these entries are counted as, without a greatest number
abbrev pub flows_total : {C : Type 0} → (C → ℕ) → List (Entry C) → Flows
flows_total size entries = total (map (λ e. flows_of size e.event) entries)

-- what happened in a minute
abbrev pub minute_flows : {C : Type 0} → (C → ℕ) → List (Entry C) → ℕ → Flows
minute_flows size entries minute = capped (flows_total size (entries_in minute entries))
