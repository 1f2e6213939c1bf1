-- The list of the messages whose age is looked at, and the place of each in it: pointwise by number. The definitions are this project's own.
use Rattle.std.specs.Prelude.{◌≡◌, ◌≢◌, ℕ, ◌+◌, ◌<◌, ◌≤◌, Bool, true, false, if◌then◌else◌, length, slice_index, Option, Some, None}
use Rattle.std.specs.FinMap as finite
use Rattle.queue_core.specs.declared.ages.Ages.{Ages}

-- where a number stands in the list, if it is to be there
abbrev pub place_if : Bool → Ages → ℕ → Option ℕ
place_if here x n = if here then Some (slice_index x.places.items n) else None

-- ---- all numbers

-- the list has the numbers that are there, each at the slot that stands at its place, with places for so many numbers and room for so many more
pub record AreAges (here : ℕ → Bool) (count lacking : ℕ) (x : Ages) : Type 0 where
  pub found : (n : ℕ) → finite.get x.list.slots n ≡ place_if (here n) x n
  pub within : count ≤ length x.places.items
  pub room : lacking ≤ x.list.spare

-- the least number that is there, or none where no number is
abbrev pub IsFirstHere : (ℕ → Bool) → Option ℕ → Type 0
IsFirstHere here None = (n : ℕ) → here n ≡ false
IsFirstHere here (Some least) = (here least ≡ true) × ((n : ℕ) → n < least → here n ≡ false)

-- nothing but room and places without a number differ, and there are no fewer of them
pub record IsLonger (x y : Ages) : Type 0 where
  pub slots : y.list.slots ≡ x.list.slots
  pub places : (n : ℕ) → slice_index y.places.items n ≡ slice_index x.places.items n
  pub len : length x.places.items ≤ length y.places.items
  pub spare : x.list.spare ≤ y.list.spare

-- there is room for so many messages more, and a place for each of so many numbers
pub record HasPlaces (lacking numbers : ℕ) (x : Ages) : Type 0 where
  pub room : lacking ≤ x.list.spare
  pub within : numbers ≤ length x.places.items

-- ---- one number

-- the list has a number or not, and there is room for it
pub record CanList (number : ℕ) (here : Bool) (x : Ages) : Type 0 where
  pub found : finite.get x.list.slots number ≡ place_if here x number
  pub within : number < length x.places.items
  pub room : here ≡ false → 1 ≤ x.list.spare

-- what is so of other numbers is as it was
pub record IsListed (number : ℕ) (before after : Bool) (x y : Ages) : Type 0 where
  pub found : finite.get y.list.slots number ≡ place_if after y number
  pub others : (n : ℕ) → n ≢ number → finite.get y.list.slots n ≡ finite.get x.list.slots n
  pub places : (n : ℕ) → n ≢ number → slice_index y.places.items n ≡ slice_index x.places.items n
  pub len : length y.places.items ≡ length x.places.items
  pub spare : y.list.spare + (if after then 1 else 0) ≡ x.list.spare + (if before then 1 else 0)
