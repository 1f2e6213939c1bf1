-- Which paths there are (this project's own choice).
use Rattle.std.specs.Prelude.{ℕ, ◌==◌, List, [], ◌∷◌, codes, Option, Some, None, option_map, option_and_then, if◌then◌else◌}
use Rattle.std.specs.Str.{bytes_eq}
use Rattle.statistics_api.specs.declared.routes.Route.{Route}
use Rattle.statistics_api.specs.declared.routes.Route.TheVariants.{Queues, Queue, Rows, Alarms}

-- the byte of a slash
abbrev pub slash : ℕ
slash = 47

-- what follows a text in another that begins with it
abbrev pub after : List ℕ → List ℕ → Option (List ℕ)
after [] text = Some text
after (x ∷ xs) [] = None
after (x ∷ xs) (b ∷ text) = if x == b then after xs text else None

-- a text up to its first slash
abbrev pub until_slash : List ℕ → List ℕ
until_slash [] = []
until_slash (b ∷ text) = if b == slash then [] else b ∷ until_slash text

-- and from there on
abbrev pub from_slash : List ℕ → List ℕ
from_slash [] = []
from_slash (b ∷ text) = if b == slash then b ∷ text else from_slash text

-- what is asked for of a queue, by what follows its name
abbrev pub queue_route : List ℕ → Option Route
queue_route rest =
    if bytes_eq [] rest then Some Queue
    else if bytes_eq (codes "/rows") rest then Some Rows
    else if bytes_eq (codes "/alarms") rest then Some Alarms
    else None

-- the same with the name, which has at least one byte
abbrev pub queue_target : List ℕ → List ℕ → Option (Route × List ℕ)
queue_target [] rest = None
queue_target (b ∷ name) rest = option_map (λ route. (route, b ∷ name)) (queue_route rest)

-- what a path asks for, and of which queue: no name where it asks for all of them. Names are taken as they stand
abbrev pub target_of : List ℕ → Option (Route × List ℕ)
target_of path =
    if bytes_eq (codes "/statistics/queues") path then Some (Queues, [])
    else option_and_then (λ rest. queue_target (until_slash rest) (from_slash rest)) (after (codes "/statistics/queues/") path)
