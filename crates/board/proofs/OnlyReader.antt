-- Of the one reader of a board that has one.
use Rattle.std.proofs.Common.{◌≡◌, List, [], ◌∷◌, ◌++◌, sym}
use Rattle.std.proofs.lemmas.List.{same_from_push}

-- what is taken from the end of a list with one element is that element
pub taken_is : {A : Type 0} (x y : A) (rest : List A) → x ∷ [] ≡ rest ++ y ∷ [] → y ≡ x
taken_is x y rest e = sym (same_from_push [] rest x y e).1
