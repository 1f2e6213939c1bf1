-- A list that is taken from another one after another.
use Rattle.std.proofs.Common.{◌≡◌, ℕ, zero, suc, ◌+◌, ◌-◌, ◌<◌, ◌≤◌, List, [], ◌∷◌, ◌++◌, length, take, Some, None, sym, ap, ◌∙◌, arith}
use Rattle.std.specs.Prelude.{slice_get}
use Rattle.std.proofs.lemmas.List.{length-append, take_more, take_all}
use Rattle.std.proofs.lemmas.Option.{slice_get_within, get_or_from_slice_get}

past-the-end : {X : Type 0} (xs : List X) (i : ℕ) → slice_get xs i ≡ None → length xs ≤ i
past-the-end [] i h = omega arith
past-the-end (x ∷ xs) zero h = absurd cc
past-the-end (x ∷ xs) (suc i) h =
    let below : length xs ≤ i = past-the-end xs i h in
    omega (arith, below)

one-longer : {X : Type 0} (some new : List X) (x : X) → new ≡ some ++ x ∷ [] → length new ≡ length some + 1
one-longer some new x is = ap length is ∙ length-append some (x ∷ [])

-- one more
pub taken-more : {X : Type 0} (all some new : List X) (x : X) → slice_get all (length some) ≡ Some x → some ≡ take (length some) all → new ≡ some ++ x ∷ [] → new ≡ take (length new) all
taken-more all some new x here h is =
    is ∙ ap (λ (l : List _). l ++ x ∷ []) h
    ∙ ap (λ (y : _). take (length some) all ++ y ∷ []) (sym (get_or_from_slice_get all (length some) x x here))
    ∙ sym (take_more all (length some) x (slice_get_within all (length some) x here))
    ∙ ap (λ (n : ℕ). take n all) (sym (one-longer some new x is))

-- one fewer left
pub fewer-left : {X : Type 0} (all some new : List X) (x : X) → slice_get all (length some) ≡ Some x → new ≡ some ++ x ∷ [] → length all - length new < length all - length some
fewer-left all some new x here is =
    let within : length some < length all = slice_get_within all (length some) x here in
    let longer : length new ≡ length some + 1 = one-longer some new x is in
    omega (arith, within, longer)

-- no more
pub taken-all : {X : Type 0} (all some : List X) → slice_get all (length some) ≡ None → some ≡ take (length some) all → some ≡ all
taken-all all some past h = h ∙ take_all (length some) all (past-the-end all (length some) past)
