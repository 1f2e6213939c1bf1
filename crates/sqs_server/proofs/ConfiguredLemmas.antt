-- What holds of each place of two lists holds with one place more.
use Rattle.std.proofs.Common.{◌≡◌, ℕ, ◌+◌, ◌<◌, List, [], ◌∷◌, ◌++◌, length, take, get_or, subst, sym, ap, ◌∙◌, arith}
use Rattle.std.proofs.lemmas.List.{take_more, length-take-le}
use Rattle.sqs_server.specs.Configured.{AllNumbered}

module _ {X Y : Type 0} (R : ℕ → X → Y → Type 0) where
  numbered_push : (n : ℕ) (xs : List X) (ys : List Y) (x : X) (y : Y) → AllNumbered R n xs ys → R (n + length xs) x y → AllNumbered R n (xs ++ x ∷ []) (ys ++ y ∷ [])
  unfolding AllNumbered
  numbered_push n [] [] x y all one = (subst (λ (k : ℕ). R k x y) (omega arith) one, tt)
  numbered_push n (a ∷ xs) (b ∷ ys) x y all one = (all.0, numbered_push (n + 1) xs ys x y all.1 (subst (λ (k : ℕ). R k x y) (omega arith) one))
  numbered_push n [] (b ∷ ys) x y all one = absurd all
  numbered_push n (a ∷ xs) [] x y all one = absurd all

  -- one more of a list: the next of its elements
  pub numbered_more : (xs : List X) (i : ℕ) (x : X) (ys : List Y) (y : Y) → AllNumbered R 1 (take i xs) ys → i < length xs → x ≡ get_or xs i x → R (i + 1) x y → AllNumbered R 1 (take (i + 1) xs) (ys ++ y ∷ [])
  numbered_more xs i x ys y all below here one =
      let long : length (take i xs) ≡ i = length-take-le i xs (omega (arith, below)) in
      subst (λ (zs : List X). AllNumbered R 1 zs (ys ++ y ∷ [])) (ap (λ (z : X). take i xs ++ z ∷ []) here ∙ sym (take_more xs i x below))
      (numbered_push 1 (take i xs) ys x y all (subst (λ (k : ℕ). R k x y) (omega (arith, long)) one))
