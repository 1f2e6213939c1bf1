-- The records of a queue's messages against its journal.
use Rattle.std.specs.Prelude.{◌≡◌, ℕ, suc, ◌+◌, ◌*◌, ◌==◌, ◌&&◌, ◌||◌, not, nat_le, min, Bool, false, if◌then◌else◌, List, [], ◌∷◌, Some, None}
use Rattle.std.specs.List.{list_any}
use Rattle.message.specs.Content.{ContentText}
use Rattle.queue_config.specs.Settings.{QueueSettings, default_settings}
use Rattle.journal.specs.declared.entry.Entry.{Entry}
use Rattle.queue_core.specs.declared.facts.Message.{Message}
use Rattle.queue_core.specs.declared.facts.Course.{Course}
use Rattle.queue_core.specs.declared.facts.Status.TheVariants.{Present, Waiting}
use Rattle.queue_core.specs.Messages.{content_of, settings_of, settings_after, RetentionPeriod, closes_period, runs_out_in, is_expired, receive_count, first_receive_time, last_receive_time, course_of, is_returned, awaits_transfer}
use Rattle.queue_core.specs.States.{is_live, failing_receives, message_numbered}
use Rattle.queue_core.specs.declared.slot.Stay.{Stay}
use Rattle.queue_core.specs.declared.slot.Stay.TheVariants.{Hidden, Shown, Left}
use Rattle.queue_core.specs.declared.record.Record.{Record}
use Rattle.queue_core.specs.private.Records.{Records}

-- ---- retention in the periods that are over

-- the periods that end at entries from a place on; the settings in force before the entries are given
abbrev pub closed_periods_from : {C : Type 0} → ℕ → QueueSettings → List (Entry C) → List RetentionPeriod
closed_periods_from place s [] = []
closed_periods_from place s (e ∷ es) =
    if closes_period e.event
    then record { retention = s.retention_seconds; end = e.at; closing = place } ∷ closed_periods_from (suc place) (settings_after s e.event) es
    else closed_periods_from (suc place) (settings_after s e.event) es

-- the message's retention ended in a period that is over, or had ended before its entry
abbrev pub ran_out_before : {C : Type 0} → List (Entry C) → Message → Bool
ran_out_before lines m = m.ran_out || list_any (λ p. runs_out_in m p) (closed_periods_from 0 default_settings lines)

-- its retention has ended at a time, by the settings in force
abbrev pub runs_out_by : QueueSettings → ℕ → Message → Bool
runs_out_by s clock m = nat_le (m.first_send_time + 1000 * s.retention_seconds) clock

-- ---- one record

-- a record stands as its message's course has it
abbrev pub IsStanding : Stay → ℕ → Course → Type 0
IsStanding Hidden due c = (c.status ≡ Present) × (c.due ≡ due)
IsStanding Shown due c = (c.status ≡ Present) × (c.due ≡ due)
IsStanding (Left target ran_out) due c = (c.status ≡ Waiting target) × (c.due ≡ due)

-- a record is that of a message of the journal
pub record IsRecordOf (lines : List (Entry ContentText)) (m : Message) (r : Record) : Type 0 where
  pub content : content_of lines m ≡ Some r.content
  pub enqueue_time : r.enqueue_time ≡ m.enqueue_time
  pub first_send_time : r.first_send_time ≡ m.first_send_time
  pub origin : r.origin ≡ m.origin
  pub first_receive : r.first_receive ≡ first_receive_time lines m.number
  pub last_receive : r.last_receive ≡ last_receive_time lines m.number
  pub fresh : r.slot.is_fresh ≡ ((receive_count lines m.number == 0) && not (is_returned lines m))
  pub returned : r.slot.is_returned ≡ is_returned lines m
  pub tries : r.slot.tries ≡ min (receive_count lines m.number) failing_receives
  pub standing : IsStanding r.slot.stay r.slot.due (course_of lines m)

-- whether it notes that the message's retention ended in a period that is over
abbrev pub notes_end : Stay → Bool
notes_end Hidden = false
notes_end Shown = false
notes_end (Left target ran_out) = ran_out

-- its message has expired where the record notes it, or by the retention in force, and else not
abbrev pub TellsExpiry : List (Entry ContentText) → ℕ → Message → Record → Type 0
TellsExpiry lines clock m r = is_expired lines clock m ≡ (notes_end r.slot.stay || runs_out_by (settings_of lines) clock m)

-- ---- all records

-- each record is that of the message of its number, and a message without one is not live and does not wait for its dead-letter queue
pub record AreRecorded (lines : List (Entry ContentText)) (clock : ℕ) (records : Records) : Type 0 where
  pub some : (n : ℕ) (r : Record) → records n ≡ Some r → (m : Message) × (message_numbered lines n ≡ Some m) × IsRecordOf lines m r × TellsExpiry lines clock m r
  pub none : (n : ℕ) (m : Message) → message_numbered lines n ≡ Some m → records n ≡ None → (is_live lines clock m ≡ false) × (awaits_transfer lines m ≡ false)
