-- Rows of actions by their names and places.
use Rattle.std.proofs.Common.{◌≡◌, ℕ, ◌<◌, ◌≤◌, List, map, length, get_or, Option, Some, None, option_map, Bor, refl, sym, ap, ◌∙◌}
use Rattle.std.specs.Prelude.{IfSome}
use Rattle.std.specs.List.{position, slice_get}
use Rattle.std.specs.Str.{bytes_eq}
use Rattle.std.proofs.lemmas.List.Quantifiers.{position-Some}
use Rattle.std.proofs.lemmas.Option.{slice_get-get_or, slice_get-map, slice_get_past, slice_get_read}
use Rattle.std.proofs.lemmas.Slice.Eq.{bytes_eq-Decides}
use Rattle.aws_json.specs.declared.actions.Action.{Action}

-- a row as the table of the definitions has it
abbrev pub seen : Bor (List ℕ) × Action → List ℕ × Action
seen row = (row.0.now, row.1)

-- the name at a place
pub told_at : (rows : List (Bor (List ℕ) × Action)) (place : ℕ) (row : Bor (List ℕ) × Action) → place < length rows → row ≡ get_or rows place row
    → Some row.0.now ≡ option_map (λ r. r.0) (slice_get (map seen rows) place)
told_at rows place row inside is =
    ap (option_map (λ r. r.0)) (sym (slice_get-map seen rows place ∙ ap (option_map seen) (slice_get_read rows (length rows) place row refl inside is)))

pub none_behind : (rows : List (Bor (List ℕ) × Action)) (place : ℕ) → length rows ≤ place → None ≡ option_map (λ r. r.0) (slice_get (map seen rows) place)
none_behind rows place behind = ap (option_map (λ r. r.0)) (sym (slice_get-map seen rows place ∙ ap (option_map seen) (slice_get_past rows place behind)))

-- the name at its own place
pub told_where_found : (name : List ℕ) (rows : List (List ℕ × Action)) (d : List ℕ × Action) (found : Option ℕ) → position (λ r. bytes_eq name r.0) rows ≡ found
    → IfSome found (λ place. option_map (λ r. r.0) (slice_get rows place) ≡ Some name)
told_where_found name rows d None is = tt
told_where_found name rows d (Some place) is =
    let at = position-Some (λ r. bytes_eq name r.0) rows place d is in
    let same : name ≡ (get_or rows place d).0 = (bytes_eq-Decides name (get_or rows place d).0).0 at.1 in
    ap (option_map (λ r. r.0)) (slice_get-get_or rows place d at.0) ∙ ap Some (sym same)
