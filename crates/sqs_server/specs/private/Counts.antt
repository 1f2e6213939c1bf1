-- Among which statuses answers are counted.
use Rattle.std.specs.Prelude.{ℕ, ◌==◌, if◌then◌else◌}

-- the place of a status among those that are counted; the last one is for all that is none of the others
abbrev pub status_place : ℕ → ℕ
status_place status =
    if status == 200 then 0
    else if status == 400 then 1
    else if status == 403 then 2
    else if status == 405 then 3
    else if status == 413 then 4
    else if status == 503 then 5
    else 6
