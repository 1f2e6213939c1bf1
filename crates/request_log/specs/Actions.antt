-- The places at which requests are counted: those of the actions that are served, and a last one for all else.
use Rattle.std.specs.Prelude.{ℕ, suc, List, length, codes, unwrap_or}
use Rattle.aws_json.specs.Request.{served_actions, action_place, action_at}

-- how many there are
abbrev pub places : ℕ
places = suc (length served_actions)

abbrev pub place_of : List ℕ → ℕ
place_of action = unwrap_or (action_place action) (length served_actions)

-- the name of the action at a place; a hyphen from the last place on
abbrev pub name_at : ℕ → List ℕ
name_at place = unwrap_or (action_at place) (codes "-")
