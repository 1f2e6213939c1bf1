-- What an event has to be about in an index of messages, and what it does to the index.
use Rattle.std.specs.Prelude.{◌≡◌, ℕ, ◌+◌, ◌<◌, ◌≤◌, ◌||◌, ◌==◌, min, nat_eq, Bool, true, false, if◌then◌else◌, List, length, slice_index, Option, Some, None, option_and_then}
use Rattle.std.specs.List.{AllPairs}
use Rattle.std.specs.VecDeque.{deque_capacity}
use Rattle.message.specs.Content.{ContentText}
use Rattle.journal.specs.declared.entry.Event.{Event}
use Rattle.metric_window.specs.Flows.{greatest}
use Rattle.queue_core.specs.Messages.{effect_of, contains_number, offers_number}
use Rattle.queue_core.specs.declared.slot.Stay.{Stay}
use Rattle.queue_core.specs.declared.slot.Stay.TheVariants.{Hidden, Shown, Left}
use Rattle.queue_core.specs.declared.record.Record.{Record}
use Rattle.queue_core.specs.declared.index.MessageIndex.{MessageIndex}
use Rattle.queue_core.specs.private.Slots.{is_here}
use Rattle.queue_core.specs.private.Tally.{births}
use Rattle.queue_core.specs.private.Records.{records_in, slots_in, with_stay, back_at, is_left_record, has_run_out, HasIndices}

-- ---- an event

-- what an event is about is there, each once, it is no checkpoint, and there is room for what leaves
pub record CanApply (event : Event ContentText) (x : MessageIndex) : Type 0 where
  pub offered : (n : ℕ) → offers_number n event ≡ true → is_here (slots_in x n) ≡ true
  pub departing : (n : ℕ) → contains_number n (effect_of event).departures ≡ true → is_here (slots_in x n) ≡ true
  pub apart : (n : ℕ) → offers_number n event ≡ true → contains_number n (effect_of event).departures ≡ false
  pub departing_once : AllPairs (λ a b. nat_eq a b ≡ false) (effect_of event).departures
  pub offered_once : AllPairs (λ a b. nat_eq a b ≡ false) (effect_of event).offered
  pub alone : (effect_of event).since ≡ None
  pub room : length x.leaving.items + length (effect_of event).departures ≤ deque_capacity x.leaving

-- a count of receives after one more, where it is one of those that are counted: up to the greatest number that is shown
abbrev pub counted_if : Bool → ℕ → ℕ
counted_if counts count = if counts then min (count + 1) greatest else count

-- each message that is offered was received once more, and one that begins never
pub record HaveReceived (event : Event ContentText) (old new : List ℕ) : Type 0 where
  pub len : length new ≡ length old + births event
  pub counts : (n : ℕ) → n < length old → slice_index new n ≡ counted_if (offers_number n event) (slice_index old n)
  pub begun : (n : ℕ) → length old ≤ n → slice_index new n ≡ 0

-- each of these numbers was counted once more
pub record HaveCounted (numbers old new : List ℕ) : Type 0 where
  pub len : length new ≡ length old
  pub counts : (n : ℕ) → n < length old → slice_index new n ≡ counted_if (contains_number n numbers) (slice_index old n)

-- ---- changes of records

-- each record has become what a change makes of it, and the indices are those of the records
pub record HasChanged (change : ℕ → Record → Option Record) (x y : MessageIndex) : Type 0 where
  pub indices : HasIndices y
  pub records : (n : ℕ) → records_in y n ≡ option_and_then (change n) (records_in x n)

-- a change of the messages of some numbers
abbrev pub among : List ℕ → (Record → Option Record) → ℕ → Record → Option Record
among numbers change n r = if contains_number n numbers then change r else Some r

-- a change of a message that is there
abbrev pub where_here : (Record → Option Record) → Record → Option Record
where_here change r = if is_left_record r then Some r else change r

-- a change of a message that has left: for whom, and whether its retention has ended
abbrev pub where_left_stay : (ℕ → Bool → Record → Option Record) → Stay → Record → Option Record
where_left_stay change Hidden r = Some r
where_left_stay change Shown r = Some r
where_left_stay change (Left target ran_out) r = change target ran_out r

abbrev pub where_left : (ℕ → Bool → Record → Option Record) → Record → Option Record
where_left change r = where_left_stay change r.slot.stay r

-- one that has left has run out, where its retention in seconds has ended at a time
abbrev pub ended_by : ℕ → ℕ → ℕ → Bool → Record → Option Record
ended_by retention at target ran_out r = Some (with_stay (Left target (ran_out || has_run_out retention at r)) r)

-- one that has left for the dead-letter queue of a uid comes back at a time, and goes where it has run out
abbrev pub returned_from : ℕ → ℕ → ℕ → Bool → Record → Option Record
returned_from lost at target ran_out r = if lost == target then (if ran_out then None else Some (back_at at r)) else Some r
