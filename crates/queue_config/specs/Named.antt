-- Tables of names.
use Rattle.std.specs.Prelude.{◌≡◌, ◌⊎◌, ℕ, List, [], ◌∷◌, Option, option_map}
use Rattle.std.specs.List.{find}
use Rattle.std.specs.Str.{bytes_eq}

-- what stands under a name in a table
abbrev pub named_in : {X : Type 0} → List (List ℕ × X) → List ℕ → Option X
named_in rows name = option_map (λ row. row.1) (find (λ row. bytes_eq name row.0) rows)

-- a table has this row
abbrev pub HasRow : {X : Type 0} → List ℕ → X → List (List ℕ × X) → Type 0
HasRow name x [] = ⊥
HasRow name x (row ∷ rows) = ((row.0 ≡ name) × (row.1 ≡ x)) ⊎ HasRow name x rows
