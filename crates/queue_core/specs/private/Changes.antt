-- What is kept of a number in one of the indices, and what a reserve changes.
use Rattle.std.specs.Prelude.{◌≡◌, ℕ, ◌≤◌, ◌==◌, Bool, false, if◌then◌else◌, Option, Some, None, option_and_then}
use Rattle.std.specs.Option.{option_map_or}
use Rattle.queue_core.specs.declared.slot.Slot.{Slot}
use Rattle.queue_core.specs.declared.indices.Indices.{Indices}
use Rattle.queue_core.specs.private.Ages.{IsLonger}
use Rattle.queue_core.specs.private.Slots.{is_shown_stay}

-- when it is due, where it is shown
abbrev pub shown_in : Option Slot → Option ℕ
shown_in o = option_and_then (λ s. if is_shown_stay s.stay then Some s.due else None) o

-- whether there is a moment, and it is this one
abbrev pub is_at : Option ℕ → ℕ → Bool
is_at o moment = option_map_or (λ m. m == moment) o false

-- nothing but room differs, and there is no less of it
pub record IsReserved (x y : Indices) : Type 0 where
  pub due : y.due.moments ≡ x.due.moments
  pub sent : y.sent.moments ≡ x.sent.moments
  pub visible : y.visible.pairs ≡ x.visible.pairs
  pub delayed : y.delayed ≡ x.delayed
  pub in_flight : y.in_flight ≡ x.in_flight
  pub failing : y.failing ≡ x.failing
  pub due_spare : x.due.spare ≤ y.due.spare
  pub sent_spare : x.sent.spare ≤ y.sent.spare
  pub visible_spare : x.visible.spare ≤ y.visible.spare
  pub ages : IsLonger x.ages y.ages

-- there is room for so many numbers more in each
pub record HasRoom (for_due for_sent for_visible : ℕ) (x : Indices) : Type 0 where
  pub due : for_due ≤ x.due.spare
  pub sent : for_sent ≤ x.sent.spare
  pub visible : for_visible ≤ x.visible.spare
