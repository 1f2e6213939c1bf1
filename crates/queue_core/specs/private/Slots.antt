-- What the indices of a queue are, by the slots of its messages: pointwise by number.
use Rattle.std.specs.Prelude.{◌≡◌, ℕ, ◌+◌, ◌<◌, ◌≤◌, ◌^◌, ◌==◌, ◌&&◌, not, nat_eq, Bool, true, false, if◌then◌else◌, nat_lt, count_by, Option, Some, None, option_and_then}
use Rattle.std.specs.Option.{option_map_or}
use Rattle.std.specs.List.{AllPairs, range_with_len}
use Rattle.std.specs.FinMap as finite
use Rattle.journal.specs.Order.{is_before}
use Rattle.visible_index.specs.Pairs.{has_pair}
use Rattle.queue_core.specs.declared.slot.Stay.{Stay}
use Rattle.queue_core.specs.declared.slot.Stay.TheVariants.{Hidden, Shown, Left}
use Rattle.queue_core.specs.declared.slot.Slot.{Slot}
use Rattle.queue_core.specs.declared.indices.Indices.{Indices}
use Rattle.queue_core.specs.States.{failing_receives}
use Rattle.queue_core.specs.private.Ages.{AreAges, CanList, IsListed}

-- ---- what a slot says

abbrev pub is_hidden_stay : Stay → Bool
is_hidden_stay Hidden = true
is_hidden_stay Shown = false
is_hidden_stay (Left target ran_out) = false

abbrev pub is_shown_stay : Stay → Bool
is_shown_stay Hidden = false
is_shown_stay Shown = true
is_shown_stay (Left target ran_out) = false

abbrev pub is_left_stay : Stay → Bool
is_left_stay Hidden = false
is_left_stay Shown = false
is_left_stay (Left target ran_out) = true

-- left for the dead-letter queue of a uid
abbrev pub is_left_stay_for : ℕ → Stay → Bool
is_left_stay_for target Hidden = false
is_left_stay_for target Shown = false
is_left_stay_for target (Left own ran_out) = own == target

abbrev pub is_hidden : Option Slot → Bool
is_hidden o = option_map_or (λ s. is_hidden_stay s.stay) o false

abbrev pub is_shown : Option Slot → Bool
is_shown o = option_map_or (λ s. is_shown_stay s.stay) o false

abbrev pub is_left : Option Slot → Bool
is_left o = option_map_or (λ s. is_left_stay s.stay) o false

abbrev pub is_left_for : ℕ → Option Slot → Bool
is_left_for target o = option_map_or (λ s. is_left_stay_for target s.stay) o false

-- hidden or shown
abbrev pub is_here : Option Slot → Bool
is_here o = option_map_or (λ s. not (is_left_stay s.stay)) o false

-- hidden, and never received nor brought back
abbrev pub is_delayed : Option Slot → Bool
is_delayed o = option_map_or (λ s. is_hidden_stay s.stay && s.is_fresh) o false

-- hidden, and received or brought back
abbrev pub is_in_flight : Option Slot → Bool
is_in_flight o = option_map_or (λ s. is_hidden_stay s.stay && not s.is_fresh) o false

-- there, and its age is looked at
abbrev pub has_age : Option Slot → Bool
has_age o = option_map_or (λ s. not (is_left_stay s.stay) && nat_lt s.tries failing_receives) o false

-- there, and it was received so often that its age is not looked at
abbrev pub is_failing : Option Slot → Bool
is_failing o = option_map_or (λ s. not (is_left_stay s.stay) && not (nat_lt s.tries failing_receives)) o false

-- when it is due, where it is hidden
abbrev pub due_in : Option Slot → Option ℕ
due_in o = option_and_then (λ s. if is_hidden_stay s.stay then Some s.due else None) o

-- when it was first sent, where it is there
abbrev pub sent_in : Option Slot → Option ℕ
sent_in o = option_and_then (λ s. if is_left_stay s.stay then None else Some s.sent) o

-- whether it may be received from a time on
abbrev pub shows : Option Slot → ℕ → Bool
shows o moment = option_map_or (λ s. is_shown_stay s.stay && (s.due == moment)) o false

abbrev pub one_if : Bool → ℕ
one_if b = if b then 1 else 0

-- ---- one number

-- the indices have a number as its slot says, and room for what it is to become
pub record CanReplace (number : ℕ) (before after : Option Slot) (x : Indices) : Type 0 where
  pub due : finite.get x.due.moments number ≡ due_in before
  pub sent : finite.get x.sent.moments number ≡ sent_in before
  pub shown : (moment : ℕ) → has_pair (moment, number) x.visible.pairs ≡ shows before moment
  pub strict : AllPairs (λ a b. is_before a b ≡ true) x.visible.pairs
  pub due_room : is_hidden before ≡ false → 1 ≤ x.due.spare
  pub sent_room : is_here before ≡ false → 1 ≤ x.sent.spare
  pub visible_room : is_shown before ≡ false → 1 ≤ x.visible.spare
  pub delayed : one_if (is_delayed before) ≤ x.delayed
  pub in_flight : one_if (is_in_flight before) ≤ x.in_flight
  pub few : x.delayed + x.in_flight < 2 ^ 63
  pub failing : one_if (is_failing before) ≤ x.failing
  pub few_failing : x.failing < 2 ^ 63
  pub ages : CanList number (has_age before) x.ages

-- what is so of other numbers is as it was
pub record IsReplaced (number : ℕ) (before after : Option Slot) (x y : Indices) : Type 0 where
  pub due : (n : ℕ) → finite.get y.due.moments n ≡ (if nat_eq n number then due_in after else finite.get x.due.moments n)
  pub sent : (n : ℕ) → finite.get y.sent.moments n ≡ (if nat_eq n number then sent_in after else finite.get x.sent.moments n)
  pub shown : (moment n : ℕ) → has_pair (moment, n) y.visible.pairs ≡ (if nat_eq n number then shows after moment else has_pair (moment, n) x.visible.pairs)
  pub strict : AllPairs (λ a b. is_before a b ≡ true) y.visible.pairs
  pub delayed : y.delayed + one_if (is_delayed before) ≡ x.delayed + one_if (is_delayed after)
  pub in_flight : y.in_flight + one_if (is_in_flight before) ≡ x.in_flight + one_if (is_in_flight after)
  pub due_spare : y.due.spare + one_if (is_hidden after) ≡ x.due.spare + one_if (is_hidden before)
  pub visible_spare : y.visible.spare + one_if (is_shown after) ≡ x.visible.spare + one_if (is_shown before)
  pub sent_spare : y.sent.spare + one_if (is_here after) ≡ x.sent.spare + one_if (is_here before)
  pub failing : y.failing + one_if (is_failing before) ≡ x.failing + one_if (is_failing after)
  pub ages : IsListed number (has_age before) (has_age after) x.ages y.ages

-- ---- all numbers

-- how many of the numbers below a count have a slot that passes a test
abbrev pub count_slots : (Option Slot → Bool) → (ℕ → Option Slot) → ℕ → ℕ
count_slots test slots count = count_by (λ n. test (slots n)) (range_with_len 0 count)

-- the indices are those of these slots, of numbers below a count, and have room for all of them
pub record AreIndexed (slots : ℕ → Option Slot) (count : ℕ) (x : Indices) : Type 0 where
  pub due : (n : ℕ) → finite.get x.due.moments n ≡ due_in (slots n)
  pub sent : (n : ℕ) → finite.get x.sent.moments n ≡ sent_in (slots n)
  pub shown : (moment n : ℕ) → has_pair (moment, n) x.visible.pairs ≡ shows (slots n) moment
  pub strict : AllPairs (λ a b. is_before a b ≡ true) x.visible.pairs
  pub few : (n : ℕ) → count ≤ n → slots n ≡ None
  pub delayed : x.delayed ≡ count_slots is_delayed slots count
  pub in_flight : x.in_flight ≡ count_slots is_in_flight slots count
  pub due_room : count_slots is_shown slots count + count_slots is_left slots count ≤ x.due.spare
  pub visible_room : x.delayed + x.in_flight + count_slots is_left slots count ≤ x.visible.spare
  pub sent_room : count_slots is_left slots count ≤ x.sent.spare
  pub failing : x.failing ≡ count_slots is_failing slots count
  pub ages : AreAges (λ n. has_age (slots n)) count (count_slots is_left slots count + x.failing) x.ages

-- and room for one message more
pub record HasRoomForOne (slots : ℕ → Option Slot) (count : ℕ) (x : Indices) : Type 0 where
  pub due : count_slots is_shown slots count + count_slots is_left slots count + 1 ≤ x.due.spare
  pub visible : x.delayed + x.in_flight + count_slots is_left slots count + 1 ≤ x.visible.spare
  pub sent : count_slots is_left slots count + 1 ≤ x.sent.spare
  pub ages : count_slots is_left slots count + x.failing + 1 ≤ x.ages.list.spare
