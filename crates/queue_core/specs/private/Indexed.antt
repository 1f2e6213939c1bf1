-- What an index of messages keeps of a queue.
use Rattle.std.specs.Prelude.{◌≡◌, ℕ, ◌==◌, ◌&&◌, ◌||◌, not, min, Bool, false, List, slice_index, Option, Some, None, option_map}
use Rattle.message.specs.Content.{ContentText}
use Rattle.journal.specs.declared.entry.Entry.{Entry}
use Rattle.queue_core.specs.States.{failing_receives}
use Rattle.queue_core.specs.declared.slot.Stay.{Stay}
use Rattle.queue_core.specs.declared.slot.Stay.TheVariants.{Hidden, Shown, Left}
use Rattle.queue_core.specs.declared.record.Record.{Record}
use Rattle.queue_core.specs.declared.index.MessageIndex.{MessageIndex}
use Rattle.queue_core.specs.private.Records.{records_in, has_run_out, IsIndexed, IsSettled}
use Rattle.queue_core.specs.Summary.{KnownMessage, Summary, summary_of}

-- ---- a record

-- the dead-letter queue that its message waits for
abbrev pub waits_in : Stay → Option ℕ
waits_in Hidden = None
waits_in Shown = None
waits_in (Left target ran_out) = Some target

-- whether a message that waits has expired: where its record notes it, or by a retention in seconds
abbrev pub has_ended : ℕ → ℕ → Stay → Record → Bool
has_ended retention clock Hidden r = false
has_ended retention clock Shown r = false
has_ended retention clock (Left target ran_out) r = ran_out || has_run_out retention clock r

-- what the record of a number tells of its message at a time
abbrev pub known_record : ℕ → ℕ → ℕ → Record → KnownMessage
known_record retention clock number r = record {
  number = number;
  came = r.enqueue_time;
  sent = r.first_send_time;
  due = r.slot.due;
  is_expired = has_ended retention clock r.slot.stay r;
  is_returned = r.slot.is_returned;
  first_receive = r.first_receive;
  last_receive = r.last_receive;
  origin = r.origin;
  content = Some r.content;
  target = waits_in r.slot.stay;
}

-- it has of so many receives what the counts and the age ask for
pub record IsCounted (count : ℕ) (r : Record) : Type 0 where
  pub fresh : r.slot.is_fresh ≡ ((count == 0) && not r.slot.is_returned)
  pub tries : r.slot.tries ≡ min count failing_receives

-- ---- all records

-- an index has the messages of a summary at a time, and its indices are those of its records
pub record Keeps (x : MessageIndex) (s : Summary) (clock : ℕ) : Type 0 where
  pub indexed : IsIndexed x
  pub known : (n : ℕ) → s.known n ≡ option_map (known_record s.settings.retention_seconds clock n) (records_in x n)
  pub counted : (n : ℕ) (r : Record) → records_in x n ≡ Some r → IsCounted (slice_index s.receives n) r
  pub settled : IsSettled s.settings.retention_seconds clock (records_in x)
  pub receives : x.receives.items ≡ s.receives
  pub leaving : x.leaving.items ≡ s.leaving

-- it is that of a journal
abbrev pub IsIndexOf : List (Entry ContentText) → ℕ → MessageIndex → Type 0
IsIndexOf lines clock x = Keeps x (summary_of lines clock) clock
