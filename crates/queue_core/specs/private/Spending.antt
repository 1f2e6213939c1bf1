-- What changes of the indices cost. An operation counter and a weight are taken together: time makes the indices lighter by what it costs, so that what is to be paid for is what events add.
use Rattle.std.specs.Prelude.{◌≡◌, ℕ, ◌+◌, ◌*◌, ◌<◌, ◌≤◌, ◌^◌, ◌==◌, true, if◌then◌else◌, length, sum_by, count_by, Option, Some, None}
use Rattle.std.specs.Option.{option_map_or}
use Rattle.std.specs.FinMap as finite
use Rattle.indexmap.specs.IndexMap.{index_map_len}
use Rattle.message.specs.Content.{ContentText}
use Rattle.journal.specs.declared.entry.Event.{Event}
use Rattle.queue_core.specs.declared.facts.MessageState.{MessageState}
use Rattle.queue_core.specs.declared.facts.MessageState.TheVariants.{Visible, Delayed, InFlight}
use Rattle.queue_core.specs.declared.slot.Slot.{Slot}
use Rattle.queue_core.specs.declared.indices.Indices.{Indices}
use Rattle.queue_core.specs.declared.index.MessageIndex.{MessageIndex}
use Rattle.queue_core.specs.Messages.{Effect, effect_of, messages}
use Rattle.queue_core.specs.States.{kept_count, state_of}
use Rattle.queue_core.specs.Queue.{QueueHistory, at_moment, waiting_count}
use Rattle.queue_core.specs.private.Tally.{births}
use Rattle.queue_core.specs.private.Slots.{is_hidden, is_shown, is_here, is_left_for, sent_in}
use Rattle.queue_core.specs.private.Records.{slots_in}
use Rattle.queue_core.specs.Standing.{StandsFor}

-- ---- the indices

-- each hidden message weighs 6, and each that is shown 3
abbrev pub weight : Indices → ℕ
weight x = 6 * (x.delayed + x.in_flight) + 3 * length x.visible.pairs

-- the operations so far, and what the weight is worth where an index has a number of c binary digits of entries
abbrev pub spent : ℕ → ℕ → Indices → ℕ
spent c ticks x = ticks + 2 * (c + 1) * weight x

-- each index has less than 2^c entries
pub record AreBelow (c : ℕ) (x : Indices) : Type 0 where
  pub due : finite.len x.due.moments < 2 ^ c
  pub sent : finite.len x.sent.moments < 2 ^ c
  pub visible : length x.visible.pairs < 2 ^ c

-- how many operations of a heap it takes to give a number another moment, or its first, or none
abbrev pub moved : Option ℕ → Option ℕ → ℕ
moved None None = 0
moved None (Some n) = 1
moved (Some m) None = 1
moved (Some m) (Some n) = if m == n then 0 else 1

-- how much at most a number's change of slots adds to operations and weight together, in operations of a heap
abbrev pub added : Option Slot → Option Slot → ℕ
added before after =
    if is_hidden after then (if is_hidden before then 1 else if is_shown before then 6 else 8)
    else if is_shown after then (if is_hidden before then 0 else if is_shown before then 4 else 6)
    else 0

-- when it was first sent is the same, where it was there and is
abbrev pub KeepsSent : Option Slot → Option Slot → Type 0
KeepsSent before after = is_here before ≡ true → is_here after ≡ true → sent_in after ≡ sent_in before

-- ---- the messages of a queue

-- a change that begins so many messages and adds so much: the operations, the number of records and the indices before it and behind it
pub record CostsBetween (begun more : ℕ) (ticks records : ℕ) (x : Indices) (ticks' records' : ℕ) (y : Indices) : Type 0 where
  pub kept : records' ≤ records + begun
  pub spent : (c : ℕ) → records + begun < 2 ^ c → spent c ticks' y ≤ spent c ticks x + 2 * (c + 1) * more

abbrev pub Costs : ℕ → ℕ → ℕ → MessageIndex → ℕ → MessageIndex → Type 0
Costs begun more ticks x ticks' y = CostsBetween begun more ticks (index_map_len x.records) x.indices ticks' (index_map_len y.records) y.indices

-- how much at most an effect adds, where so many wait for the dead-letter queue of a uid: 6 for each message that is due again, and 8 for each that begins or comes back
abbrev pub effect_adds : (ℕ → ℕ) → Effect ContentText → ℕ
effect_adds waiting effect = 6 * length effect.rescheduled + 8 * length effect.births + 8 * option_map_or waiting effect.lost_target 0

abbrev pub event_adds : (ℕ → ℕ) → Event ContentText → ℕ
event_adds waiting event = effect_adds waiting (effect_of event)

abbrev pub left_count : MessageIndex → ℕ → ℕ
left_count x target = count_by (λ n. is_left_for target (slots_in x n)) x.leaving.items

-- ---- a queue

abbrev pub state_weight : Option MessageState → ℕ
state_weight None = 0
state_weight (Some Visible) = 3
state_weight (Some Delayed) = 6
state_weight (Some InFlight) = 6

abbrev pub queue_weight : QueueHistory → ℕ
queue_weight q = sum_by (λ m. state_weight (state_of q.lines q.clock m)) (messages q.lines)

abbrev pub queue_kept : QueueHistory → ℕ
queue_kept q = kept_count q.lines q.clock

-- a queue has come to a moment, where a checkpoint may have taken the place of its entries, by the operations before and after that
pub record HasCome (ticks : ℕ) (q : QueueHistory) (ticks' : ℕ) (r : QueueHistory) : Type 0 where
  pub at : ℕ
  pub later : StandsFor r (at_moment q at)
  pub kept : queue_kept r ≤ queue_kept q
  pub spent : (c : ℕ) → queue_kept q < 2 ^ c → ticks' + 2 * (c + 1) * queue_weight r ≤ ticks + 2 * (c + 1) * queue_weight q

-- and an event has been added to it
abbrev pub HasAdded : Event ContentText → ℕ → QueueHistory → ℕ → QueueHistory → Type 0
HasAdded event ticks q ticks' r =
    (c : ℕ) → queue_kept q + births event < 2 ^ c
    → ticks' + 2 * (c + 1) * queue_weight r ≤ ticks + 2 * (c + 1) * (queue_weight q + event_adds (λ target. waiting_count q target) event)
