-- Names that are gathered, one after another.
use Rattle.std.proofs.Common.{◌≡◌, ℕ, zero, suc, ◌+◌, ◌<◌, Bool, true, false, cond, List, [], ◌∷◌, ◌++◌, length, get_or, take, map, Result, Ok, Err, refl, sym, ap, ◌∙◌, arith}
use Rattle.std.specs.Prelude.{nat_eq, filter, OnErr}
use Rattle.std.specs.List.{starts_with}
use Rattle.std.proofs.lemmas.List.{take_more}
use Rattle.redrive.specs.Listing.{names_beginning}

-- ---- names that are gathered

filter-if : (b : Bool) (x : List ℕ) (xs ys : List (List ℕ)) → cond b (x ∷ xs) xs ++ ys ≡ cond b (x ∷ (xs ++ ys)) (xs ++ ys)
filter-if true x xs ys = refl
filter-if false x xs ys = refl

append-if : (b : Bool) (xs : List (List ℕ)) (x : List ℕ) → xs ++ cond b (x ∷ []) [] ≡ cond b (xs ++ x ∷ []) xs
append-if true xs x = refl
append-if false [] x = refl
append-if false (y ∷ ys) x = ap (λ (all : List (List ℕ)). y ∷ all) (append-if false ys x)

module _ (p : List ℕ → Bool) where
  filter-push : (names : List (List ℕ)) (name : List ℕ) → filter p (names ++ name ∷ []) ≡ filter p names ++ cond (p name) (name ∷ []) []
  filter-push [] name = refl
  filter-push (x ∷ names) name =
      ap (λ (all : List (List ℕ)). cond (p x) (x ∷ all) all) (filter-push names name)
      ∙ sym (filter-if (p x) x (filter p names) (cond (p name) (name ∷ []) []))

pub map-push : {X K : Type 0} (key : X → K) (xs : List X) (x : X) → map key (xs ++ x ∷ []) ≡ map key xs ++ key x ∷ []
map-push key [] x = refl
map-push key (y ∷ ys) x = ap (λ (ks : List _). key y ∷ ks) (map-push key ys x)

-- the names of a list's elements that begin with a prefix, one element further
pub names_beginning-more : {X : Type 0} (key : X → List ℕ) (prefix : List ℕ) (xs : List X) (i : ℕ) (x : X) → i < length xs → x ≡ get_or xs i x
    → names_beginning prefix (map key (take (i + 1) xs))
    ≡ cond (starts_with nat_eq (key x) prefix) (names_beginning prefix (map key (take i xs)) ++ key x ∷ []) (names_beginning prefix (map key (take i xs)))
names_beginning-more key prefix xs i x l is =
    ap (λ (some : List _). names_beginning prefix (map key some)) (take_more xs i x l ∙ ap (λ y. take i xs ++ y ∷ []) (sym is))
    ∙ ap (names_beginning prefix) (map-push key (take i xs) x)
    ∙ filter-push (λ n. starts_with nat_eq n prefix) (map key (take i xs)) (key x)
    ∙ append-if (starts_with nat_eq (key x) prefix) (names_beginning prefix (map key (take i xs))) (key x)

-- where one passes a test, there is one that passes
some-if : {X : Type 0} (b : Bool) (x : X) (xs : List X) → 0 < length xs → 0 < length (cond b (x ∷ xs) xs)
some-if true x xs h = omega arith
some-if false x xs h = h

pub some-passes : {X : Type 0} (p : X → Bool) (xs : List X) (i : ℕ) (x : X) → i < length xs → x ≡ get_or xs i x → p x ≡ true → 0 < length (filter p xs)
some-passes p [] i x within is passes = absurd (omega (arith, within))
some-passes p (y ∷ xs) zero x within is passes = rw (ap p (sym is) ∙ passes) (omega arith)
some-passes p (y ∷ xs) (suc i) x within is passes = some-if (p y) y (filter p xs) (some-passes p xs i x (omega (arith, within)) is passes)

pub some-begins : {X : Type 0} (key : X → List ℕ) (prefix : List ℕ) (xs : List X) (i : ℕ) (x : X) → i < length xs → x ≡ get_or xs i x
    → starts_with nat_eq (key x) prefix ≡ true → 0 < length (names_beginning prefix (map key xs))
some-begins key prefix [] i x within is passes = absurd (omega (arith, within))
some-begins key prefix (y ∷ xs) zero x within is passes = rw (ap (λ (z : _). starts_with nat_eq (key z) prefix) (sym is) ∙ passes) (omega arith)
some-begins key prefix (y ∷ xs) (suc i) x within is passes =
    some-if (starts_with nat_eq (key y) prefix) (key y) (names_beginning prefix (map key xs)) (some-begins key prefix xs i x (omega (arith, within)) is passes)

-- what is so at any rate is so on a refusal
pub on_refusal : {T E : Type 0} (answer : Result T E) {P : Type 0} → P → OnErr answer P
on_refusal (Ok x) p = tt
on_refusal (Err e) p = p
