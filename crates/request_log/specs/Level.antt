-- Which requests get a line: this project's own choice.
use Rattle.std.specs.Prelude.{ℕ, Bool, true, false, List, codes, Option, Some, None, if◌then◌else◌}
use Rattle.std.specs.Str.{bytes_eq}
use Rattle.request_log.specs.declared.level.Level.{Level}
use Rattle.request_log.specs.declared.level.Level.TheVariants.{Refused, All, Nothing}

-- the level that a word names
abbrev pub level_named : List ℕ → Option Level
level_named word =
    if bytes_eq word (codes "refused") then Some Refused
    else if bytes_eq word (codes "all") then Some All
    else if bytes_eq word (codes "none") then Some Nothing
    else None

-- whether a request gets a line, by whether it was refused
abbrev pub tells : Level → Bool → Bool
tells Refused is_refused = is_refused
tells All is_refused = true
tells Nothing is_refused = false
