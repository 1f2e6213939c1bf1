-- Numbers of messages, each at a slot of its own. The definitions are this project's own.
use Rattle.std.specs.Prelude.{◌≡◌, ◌↔◌, ℕ, ◌≤◌, Option, Some, None, IsSome}
use Rattle.std.specs.FinMap as finite
use Rattle.std.specs.Ordering.{nat_cmp}

-- the slot of each number, and how many more numbers can be put in without memory
pub record Ages : Type 0 where
  pub slots : finite.FinMap nat_cmp ℕ
  pub spare : ℕ

-- the one number at the slot, or none where no number is there
abbrev pub IsNumberAt : finite.FinMap nat_cmp ℕ → ℕ → Option ℕ → Type 0
IsNumberAt slots slot result = (number : ℕ) → (finite.get slots number ≡ Some slot) ↔ (result ≡ Some number)

-- the least number of the map, or none where the map is empty
abbrev pub IsFirst : finite.FinMap nat_cmp ℕ → Option ℕ → Type 0
IsFirst slots None = (number : ℕ) → finite.get slots number ≡ None
IsFirst slots (Some least) = IsSome (finite.get slots least) × ((number : ℕ) → IsSome (finite.get slots number) → least ≤ number)

-- the map without that number, where there is one
abbrev pub slots_without : finite.FinMap nat_cmp ℕ → Option ℕ → finite.FinMap nat_cmp ℕ
slots_without slots None = slots
slots_without slots (Some number) = finite.remove slots number
