-- Lists of one thing.
use Rattle.std.proofs.Common.{◌≡◌, ℕ, ◌<◌, ◌≤◌, List, [], ◌∷◌, ◌++◌, length, replicate, ap, sym, ◌∙◌, arith}
use Rattle.std.proofs.lemmas.List.{length-append, replicate_more}

-- one more of it
pub one_more : {X : Type 0} (x y : X) (xs ys : List X) → xs ≡ replicate (length xs) x → y ≡ x → ys ≡ xs ++ y ∷ [] → ys ≡ replicate (length ys) x
one_more x y xs ys all same is =
    is ∙ ap (λ (l : List _). l ++ y ∷ []) all ∙ ap (λ z. replicate (length xs) x ++ z ∷ []) same ∙ replicate_more (length xs) x
    ∙ ap (λ (n : ℕ). replicate n x) (sym (ap length is ∙ length-append xs (y ∷ [])))

-- so many of it
pub so_many : {X : Type 0} (x : X) (xs : List X) (n : ℕ) → xs ≡ replicate (length xs) x → length xs ≤ n → (length xs < n → ⊥) → xs ≡ replicate n x
so_many x xs n all most least = all ∙ ap (λ (k : ℕ). replicate k x) (omega (arith, most, least))
