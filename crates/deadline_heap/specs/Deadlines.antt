-- Deadlines: a finite map from a message's number to a moment, in milliseconds.
use Rattle.std.specs.Prelude.{◌≡◌, ℕ, false, List, map, Option, Some, None}
use Rattle.std.specs.FinMap as finite
use Rattle.std.specs.Ordering.{nat_cmp}
use Rattle.journal.specs.Order.{is_before}

-- the moment of each number, and how many more numbers can be put in without memory
pub record Deadlines : Type 0 where
  pub moments : finite.FinMap nat_cmp ℕ
  pub spare : ℕ

-- a pair of a moment and a number, the number first
abbrev pub number_first : ℕ × ℕ → ℕ × ℕ
number_first pair = (pair.1, pair.0)

-- the map of a list of pairs of a moment and a number
unfoldable pub moments_of : List (ℕ × ℕ) → finite.FinMap nat_cmp ℕ
moments_of pairs = finite.from_entries (map number_first pairs)

-- the pair of a moment and a number in the map to which no other is less, or none where the map is empty
abbrev pub IsFirst : finite.FinMap nat_cmp ℕ → Option (ℕ × ℕ) → Type 0
IsFirst moments None = (number : ℕ) → finite.get moments number ≡ None
IsFirst moments (Some p) =
    (finite.get moments p.1 ≡ Some p.0) × ((number moment : ℕ) → finite.get moments number ≡ Some moment → is_before (moment, number) p ≡ false)
