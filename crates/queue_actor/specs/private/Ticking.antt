-- What the clock tells the queues.
use Rattle.std.specs.Prelude.{ℕ, ◌-◌, Bool, false, Option, None, Some, nat_lt}

-- whether the time has leapt since the tick before, where there was one: by more than a second (this project's own)
abbrev pub is_leap : Option ℕ → ℕ → Bool
is_leap None at = false
is_leap (Some last) at = nat_lt 1000 (at - last)
