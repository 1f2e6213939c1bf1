-- The wall clock, as moments.
use Rattle.std.specs.Prelude.{ℕ, ◌+◌, ◌-◌, ◌*◌, ◌^◌, min}

-- the moment of so many milliseconds, or the latest there is
abbrev pub moment_within : ℕ → ℕ
moment_within milliseconds = min milliseconds (2 ^ 62 - 1)

-- the moment until which a call may wait that is made at a moment and waits so many seconds
abbrev pub wait_limit : ℕ → ℕ → ℕ
wait_limit at seconds = moment_within (at + 1000 * seconds)
