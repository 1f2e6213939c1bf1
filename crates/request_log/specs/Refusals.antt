-- Which replies are refusals: this project's own choice.
use Rattle.std.specs.Prelude.{ℕ, ◌==◌, nat_eq, Bool, true, List, codes, if◌then◌else◌}
use Rattle.std.specs.List.{starts_with}

-- whether the text of a reply tells of an entry of a batch that was refused: then such entries stand first
abbrev pub has_failed : List ℕ → Bool
has_failed body = starts_with nat_eq body (codes "{\"Failed\":[{")

-- whether a reply is a refusal, or tells of such an entry
abbrev pub is_refusal : ℕ → List ℕ → Bool
is_refusal status body = if status == 200 then has_failed body else true
