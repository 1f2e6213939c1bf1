-- What is told of the numbers of requests, a number for each action and status.
use Rattle.std.specs.Prelude.{ℕ, ◌+◌, ◌/◌, ◌%◌, ◌==◌, List, [], ◌∷◌, ◌++◌, if◌then◌else◌}
use Rattle.request_log.specs.Actions.{name_at}
use Rattle.statistics_api.specs.declared.served.Requested.{Requested}

-- the status that is told for a place
abbrev pub status_at : ℕ → ℕ
status_at place =
    if place == 0 then 200
    else if place == 1 then 400
    else if place == 2 then 403
    else if place == 3 then 405
    else if place == 4 then 413
    else if place == 5 then 503
    else 500

-- what is told of requests: their action, their status, and how many there were
abbrev pub told : Requested → List ℕ × (ℕ × ℕ)
told r = (r.action.now, (r.status, r.count))

-- what is told of a number at a place: nothing of 0
abbrev pub told_at : ℕ → ℕ → List (List ℕ × (ℕ × ℕ))
told_at place count = if count == 0 then [] else (name_at (place / 7), (status_at (place % 7), count)) ∷ []

-- what is told of the numbers from a place on
abbrev pub told_from : ℕ → List ℕ → List (List ℕ × (ℕ × ℕ))
told_from place [] = []
told_from place (count ∷ counts) = told_at place count ++ told_from (place + 1) counts
