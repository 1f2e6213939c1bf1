-- Names of alarms beside their states.
use Rattle.std.proofs.Common.{◌≡◌, ℕ, zero, suc, ◌<◌, ◌≤◌, List, [], ◌∷◌, map, length, get_or, Some, None, refl, arith}
use Rattle.std.specs.Prelude.{slice_get}
use Rattle.std.specs.List.{zip}

-- at a place of both
pub pair_at : {A B : Type 0} (xs : List (A × B)) (ys : List B) (i : ℕ) (d : A × B) (e : B) → i < length xs → i < length ys
    → slice_get (zip (map (λ p. p.0) xs) ys) i ≡ Some ((get_or xs i d).0, get_or ys i e)
pair_at [] ys i d e h k = absurd (omega arith)
pair_at (p ∷ xs) [] i d e h k = absurd (omega arith)
pair_at (p ∷ xs) (q ∷ ys) zero d e h k = refl
pair_at (p ∷ xs) (q ∷ ys) (suc i) d e h k = pair_at xs ys i d e (omega arith) (omega arith)

-- past the end of one of them
pub no_pair_at : {A B : Type 0} (xs : List (A × B)) (ys : List B) (i : ℕ) → (i < length xs → length ys ≤ i) → slice_get (zip (map (λ p. p.0) xs) ys) i ≡ None
no_pair_at [] ys i h = refl
no_pair_at (p ∷ xs) [] i h = refl
no_pair_at (p ∷ xs) (q ∷ ys) zero h = let none : suc (length ys) ≤ 0 = h (omega arith) in absurd (omega (arith, none))
no_pair_at (p ∷ xs) (q ∷ ys) (suc i) h = no_pair_at xs ys i (λ k. let past : suc (length ys) ≤ suc i = h (omega (arith, k)) in omega (arith, past))
