-- Texts put one after another.
use Rattle.std.proofs.Common.{◌≡◌, ℕ, ◌+◌, ◌<◌, ◌≤◌, List, [], ◌∷◌, ◌++◌, map, length, get_or, drop, refl, sym, ap, ◌∙◌}
use Rattle.std.specs.List.{flat_map}
use Rattle.std.proofs.lemmas.List.{append_assoc, append-nil, at_drop_more, drop_all}

module _ {X : Type 0} (text_of : X → List ℕ) where
  -- one text more for the next of what is left
  pub joined_next : (xs : List X) (done line : List ℕ) (i : ℕ) (x : X) → i < length xs → x ≡ get_or xs i x → line ≡ text_of x
      → done ++ flat_map text_of (drop i xs) ≡ flat_map text_of xs
      → (done ++ line) ++ flat_map text_of (drop (i + 1) xs) ≡ flat_map text_of xs
  joined_next xs done line i x lt is said h =
      append_assoc done line (flat_map text_of (drop (i + 1) xs))
      ∙ ap (λ (t : List ℕ). done ++ (t ++ flat_map text_of (drop (i + 1) xs))) (said ∙ ap text_of is)
      ∙ ap (λ (t : List ℕ). done ++ t) (sym (at_drop_more (flat_map text_of) xs i x lt))
      ∙ h

  pub joined_all : (xs : List X) (done : List ℕ) (i : ℕ) → length xs ≤ i → done ++ flat_map text_of (drop i xs) ≡ flat_map text_of xs → done ≡ flat_map text_of xs
  joined_all xs done i past h = sym (append-nil done) ∙ ap (λ (rest : List X). done ++ flat_map text_of rest) (sym (drop_all i xs past)) ∙ h

  -- three of them
  pub joined_three : (x y z : X) (text a b c : List ℕ) → a ≡ text_of x → b ≡ text_of y → c ≡ text_of z → text ≡ a ++ (b ++ c)
      → text ≡ flat_map text_of (x ∷ y ∷ z ∷ [])
  joined_three x y z text a b c first second third is =
      is
      ∙ ap (λ (t : List ℕ). t ++ (b ++ c)) first
      ∙ ap (λ (t : List ℕ). text_of x ++ (t ++ c)) second
      ∙ ap (λ (t : List ℕ). text_of x ++ (text_of y ++ t)) (third ∙ sym (append-nil (text_of z)))

pub joined_map : {X : Type 0} {Y : Type 0} (text_of : Y → List ℕ) (seen : X → Y) (xs : List X) → flat_map (λ x. text_of (seen x)) xs ≡ flat_map text_of (map seen xs)
joined_map text_of seen [] = refl
joined_map text_of seen (x ∷ xs) = ap (λ (t : List ℕ). text_of (seen x) ++ t) (joined_map text_of seen xs)
