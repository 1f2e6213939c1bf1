-- The operation counter.
use Rattle.std.specs.Prelude.{ℕ, ◌+◌, ◌-◌, ◌^◌, min}

-- the count after so many operations more
abbrev pub after_ticks : ℕ → ℕ → ℕ
after_ticks operations count = min (count + operations) (2 ^ 64 - 1)
