-- Lists of message numbers: what is in them, what is there once, and what a filter keeps.
use Rattle.std.proofs.Common.{◌≡◌, ℕ, zero, suc, ◌-◌, ◌<◌, Bool, true, false, not, cond, ◌||◌, ◌&&◌, List, [], ◌∷◌, ◌++◌, length, get_or, take, drop, refl, sym, ap, ◌∙◌, subst, inl, inr, eqb, ltb, arith, nat_eq, filter, position, remove, Some, None, AllPairs, length-take, length-append, get_or-take}
use Rattle.std.specs.List.{position_or_len}
use Rattle.std.proofs.lemmas.List.{get_or_default, get_or_append_left, get_or-append_right}
use Rattle.std.proofs.lemmas.List.Folds.{list_any-append, list_any_none, list_any_at, Any-from_list_any}
use Rattle.std.proofs.lemmas.List.Quantifiers.{position-Some}
use Rattle.std.proofs.lemmas.List.Sums.{fails_before_first}
use Rattle.std.proofs.lemmas.Map.Views.{any-filter_same}
use Rattle.std.proofs.lemmas.Bool.{eqb-true, eqb-false, eq-eqb, ne_eqb, ltb-false, cases_lt, or_right, or_left, both_ways}
use Rattle.queue_core.specs.Messages.{contains_number}

-- each number once
abbrev pub AreOnce : List ℕ → Type 0
AreOnce xs = AllPairs (λ a b. nat_eq a b ≡ false) xs

-- ---- what is in a list

pub or-true : (b : Bool) → (b || true) ≡ true
or-true true = refl
or-true false = refl

pub or-false : (b : Bool) → (b || false) ≡ b
or-false true = refl
or-false false = refl

pub contains-push : (n m : ℕ) (xs : List ℕ) → contains_number n (xs ++ m ∷ []) ≡ (contains_number n xs || nat_eq m n)
contains-push n m xs = list_any-append (λ k. eqb k n) xs (m ∷ []) ∙ ap (λ b. contains_number n xs || b) (or-false (eqb m n))

pub contains-append : (n : ℕ) (xs ys : List ℕ) → contains_number n (xs ++ ys) ≡ (contains_number n xs || contains_number n ys)
contains-append n xs ys = list_any-append (λ k. eqb k n) xs ys

pub contains-at : (xs : List ℕ) (i d : ℕ) → i < length xs → contains_number (get_or xs i d) xs ≡ true
contains-at xs i d h = list_any_at (λ k. eqb k (get_or xs i d)) xs i d h (eq-eqb (get_or xs i d) (get_or xs i d) refl)

pub contains-place : (n : ℕ) (xs : List ℕ) → contains_number n xs ≡ true → (i : ℕ) × (i < length xs) × (get_or xs i 0 ≡ n)
contains-place n xs h =
    let a = Any-from_list_any (λ k. eqb k n) xs h in
    (a.0, a.2, get_or_default xs a.0 0 a.1 a.2 ∙ a.3 ∙ eqb-true a.1 n a.4)

-- a number of a list where each is once is not among those before it
pub unseen : (xs : List ℕ) (i : ℕ) → AreOnce xs → i < length xs → contains_number (get_or xs i 0) (take i xs) ≡ false
unseen xs i once h =
    list_any_none (λ k. eqb k (get_or xs i 0)) (take i xs)
    (λ k d l. let n = length-take i xs in
    let below : k < i = omega arith in
    let same : get_or (take i xs) k d ≡ get_or xs k 0 = get_or-take i xs k d below ∙ get_or_default xs k d 0 (omega arith) in
    ap (λ a. eqb a (get_or xs i 0)) same ∙ once k i 0 below h)

-- ---- filters

pub filter_same : (p : ℕ → Bool) (xs : List ℕ) → ((n : ℕ) → contains_number n xs ≡ true → p n ≡ true) → filter p xs ≡ xs
filter_same p [] h = refl
filter_same p (x ∷ xs) h =
    ap (λ b. cond b (x ∷ filter p xs) (filter p xs)) (h x (or_left (eqb x x) (contains_number x xs) (eq-eqb x x refl)))
    ∙ ap (λ (ys : List ℕ). x ∷ ys) (filter_same p xs (λ n k. h n (or_right (eqb x n) (contains_number n xs) k)))

pub filter_alike : (p q : ℕ → Bool) (xs : List ℕ) → ((n : ℕ) → contains_number n xs ≡ true → p n ≡ q n) → filter p xs ≡ filter q xs
filter_alike p q [] h = refl
filter_alike p q (x ∷ xs) h =
    ap (λ b. cond b (x ∷ filter p xs) (filter p xs)) (h x (or_left (eqb x x) (contains_number x xs) (eq-eqb x x refl)))
    ∙ ap (λ (ys : List ℕ). cond (q x) (x ∷ ys) ys) (filter_alike p q xs (λ n k. h n (or_right (eqb x n) (contains_number n xs) k)))

pub filter_none : (p : ℕ → Bool) (xs : List ℕ) → ((n : ℕ) → contains_number n xs ≡ true → p n ≡ false) → filter p xs ≡ []
filter_none p [] h = refl
filter_none p (x ∷ xs) h =
    ap (λ b. cond b (x ∷ filter p xs) (filter p xs)) (h x (or_left (eqb x x) (contains_number x xs) (eq-eqb x x refl)))
    ∙ filter_none p xs (λ n k. h n (or_right (eqb x n) (contains_number n xs) k))

pub contains-filter : (n : ℕ) (p : ℕ → Bool) (xs : List ℕ) → contains_number n (filter p xs) ≡ (p n && contains_number n xs)
contains-filter n p xs = any-filter_same (λ k. eqb k n) p (p n) (λ k h. ap p (eqb-true k n h)) xs

-- the place of a number taken out, where it stands at no other
remove-first : (xs : List ℕ) (m i : ℕ) → i < length xs → get_or xs i 0 ≡ m → ((k : ℕ) → k < length xs → (k ≡ i → ⊥) → eqb (get_or xs k 0) m ≡ false)
    → filter (λ n. not (eqb n m)) xs ≡ take i xs ++ drop (suc i) xs
remove-first [] m i h is others = absurd (omega arith)
remove-first (x ∷ xs) m zero h is others =
    ap (λ b. cond (not b) (x ∷ filter (λ n. not (eqb n m)) xs) (filter (λ n. not (eqb n m)) xs)) (eq-eqb x m is)
    ∙ filter_same (λ n. not (eqb n m)) xs
    (λ n k. let p = contains-place n xs k in
    let o : eqb (get_or xs p.0 0) m ≡ false = others (suc p.0) (let l = p.1 in omega arith) (λ e. absurd (omega arith)) in
    ap not (ap (λ a. eqb a m) (sym p.2) ∙ o))
remove-first (x ∷ xs) m (suc i) h is others =
    ap (λ b. cond (not b) (x ∷ filter (λ n. not (eqb n m)) xs) (filter (λ n. not (eqb n m)) xs)) (others 0 (omega arith) (λ e. absurd (omega arith)))
    ∙ ap (λ (ys : List ℕ). x ∷ ys) (remove-first xs m i (omega arith) is (λ k l ne. others (suc k) (omega arith) (λ e. ne (omega arith))))

pub remove_is : (xs : List ℕ) (m i : ℕ) → AreOnce xs → position (λ n. eqb n m) xs ≡ Some i → filter (λ n. not (eqb n m)) xs ≡ remove xs i
remove_is xs m i once at =
    let p = position-Some (λ n. eqb n m) xs i 0 at in
    let is : get_or xs i 0 ≡ m = eqb-true (get_or xs i 0) m p.1 in
    remove-first xs m i p.0 is
    (λ k l ne. elim (cases_lt k i) [
      | inl below ↦ p.2 k below
      | inr above ↦ let o : eqb (get_or xs i 0) (get_or xs k 0) ≡ false = once i k 0 (let n = ne in omega arith) l in
          ne_eqb (get_or xs k 0) m (λ e. eqb-false (get_or xs i 0) (get_or xs k 0) o (is ∙ sym e))
    ])

pub nowhere : (xs : List ℕ) (m : ℕ) → position (λ n. eqb n m) xs ≡ None → contains_number m xs ≡ false
nowhere xs m none =
    let past : (b : Bool) → cond b (Some (position_or_len (λ n. eqb n m) xs)) None ≡ None → b ≡ false =
    λ b. elim b as (λ (v : Bool). cond v (Some (position_or_len (λ n. eqb n m) xs)) None ≡ None → v ≡ false) [ true ↦ λ e. absurd cc | false ↦ λ e. refl ] in
    let le = ltb-false (position_or_len (λ n. eqb n m) xs) (length xs) (past (ltb (position_or_len (λ n. eqb n m) xs) (length xs)) none) in
    list_any_none (λ n. eqb n m) xs (λ k d l. fails_before_first (λ n. eqb n m) xs k d (omega arith))

pub without-none : (xs : List ℕ) (m : ℕ) → contains_number m xs ≡ false → filter (λ n. not (eqb n m)) xs ≡ xs
without-none xs m h =
    filter_same (λ n. not (eqb n m)) xs
    (λ n k. ap not (ne_eqb n m (λ e. both_ways (contains_number m xs) h (subst (λ a. contains_number a xs ≡ true) e k))))

-- ---- once

pub once-append : (xs ys : List ℕ) → AreOnce xs → AreOnce ys → ((n : ℕ) → contains_number n xs ≡ true → contains_number n ys ≡ false) → AreOnce (xs ++ ys)
once-append xs ys a b apart =
    λ i j d l h. let n = length-append xs ys in
    elim (cases_lt j (length xs)) [
      | inl left ↦
          let lt : i < length xs = omega arith in
          ap (λ k. eqb k (get_or (xs ++ ys) j d)) (get_or_append_left xs ys d i lt) ∙ ap (λ k. eqb (get_or xs i d) k) (get_or_append_left xs ys d j left) ∙ a i j d l left
      | inr right ↦
          let lt : j - length xs < length ys = omega arith in
          let at_j : get_or (xs ++ ys) j d ≡ get_or ys (j - length xs) d = get_or-append_right xs ys (length xs) j d refl right in
          elim (cases_lt i (length xs)) [
            | inl before ↦
                let at_i : get_or (xs ++ ys) i d ≡ get_or xs i d = get_or_append_left xs ys d i before in
                ap (λ k. eqb k (get_or (xs ++ ys) j d)) at_i ∙ ap (λ k. eqb (get_or xs i d) k) at_j
                ∙ ne_eqb (get_or xs i d) (get_or ys (j - length xs) d)
                (λ e. both_ways (contains_number (get_or xs i d) ys) (apart (get_or xs i d) (contains-at xs i d before))
                (subst (λ k. contains_number k ys ≡ true) (sym e) (contains-at ys (j - length xs) d lt)))
            | inr after ↦
                let at_i : get_or (xs ++ ys) i d ≡ get_or ys (i - length xs) d = get_or-append_right xs ys (length xs) i d refl after in
                ap (λ k. eqb k (get_or (xs ++ ys) j d)) at_i ∙ ap (λ k. eqb (get_or ys (i - length xs) d) k) at_j ∙ b (i - length xs) (j - length xs) d (omega arith) lt
          ]
    ]

pub somewhere : (xs : List ℕ) (m i : ℕ) → position (λ n. eqb n m) xs ≡ Some i → contains_number m xs ≡ true
somewhere xs m i at = let p = position-Some (λ n. eqb n m) xs i 0 at in list_any_at (λ n. eqb n m) xs i 0 p.0 p.1
