-- Times in milliseconds: this project's own choice of the range.
use Rattle.std.specs.Prelude.{ℕ, ◌^◌, Option, Some, None, nat_lt, if◌then◌else◌}

-- the time of so many milliseconds
abbrev pub moment_of : ℕ → Option ℕ
moment_of milliseconds = if nat_lt milliseconds (2 ^ 62) then Some milliseconds else None
