-- Lists whose elements have distinct keys: one element more, fewer, or changed; and keys that are kept beside them.
use Rattle.std.proofs.Common.{Bor, ◌≡◌, ◌≢◌, ℕ, zero, suc, ◌<◌, ◌^◌, Bool, true, false, not, ◌||◌, cond, List, [], ◌∷◌, ◌++◌, length, get_or, set, map, Option, Some, None, refl, sym, ap, subst, ◌∙◌, arith, eqb-true}
use Rattle.std.specs.Prelude.{nat_eq, nat_lt, nat_le, filter, remove, slice_get, option_and_then, is_some, IfSome}
use Rattle.std.specs.List.{find, list_any, position, position_or_len, IsDistinct, All, AllByRecursion}
use Rattle.std.proofs.lemmas.Bool.{ne_eqb, eqb-false, ltb-false, lt-ltb, or_parts}
use Rattle.std.proofs.lemmas.Bool.Decides.{nat_tests}
use Rattle.std.proofs.lemmas.List.Elements.{All-head, All-tail}
use Rattle.std.proofs.lemmas.List.Folds.{find_at}
use Rattle.std.proofs.lemmas.List.Quantifiers.{position-Some}
use Rattle.std.proofs.lemmas.Option.{slice_get-get_or, slice_get_past, same_Some, none-some}
use Rattle.std.specs.Option.{option_map, option_copied}
use Rattle.queue_config.proofs.ConfigLemmas.{position-map}

-- while there is a place
pub places_left : (n uid : ℕ) → (nat_le 1000 n || nat_le (2 ^ 62) uid) ≡ false → (n < 1000) × (uid < 2 ^ 62)
places_left n uid h =
    let p = or_parts (nat_le 1000 n) (nat_le (2 ^ 62) uid) h in
    let many = p.0 in
    let late = p.1 in
    (grind (arith, nat_tests), grind (arith, nat_tests))

pub none-cond : {X : Type 0} (b : Bool) (x : X) (o : Option X) → cond b (Some x) o ≡ None → (b ≡ false) × (o ≡ None)
none-cond true x o h = absurd cc
none-cond false x o h = (refl, h)

some-cond : (b : Bool) (i place : ℕ) → cond b (Some i) None ≡ Some place → i ≡ place
some-cond true i place h = cc
some-cond false i place h = absurd cc

module _ {X K : Type 0} (e : K → K → Bool) (key : X → K) where
  differ-push : (k : K) (xs : List X) (x : X) → AllByRecursion (λ y. e k y ≡ false) (map key xs) → e k (key x) ≡ false → AllByRecursion (λ y. e k y ≡ false) (map key (xs ++ x ∷ []))
  differ-push k [] x h new = (new, tt)
  differ-push k (y ∷ ys) x h new = (h.0, differ-push k ys x h.1 new)

  pub IsDistinct-push : (xs : List X) (x : X) → IsDistinct e (map key xs) → find (λ y. e (key y) (key x)) xs ≡ None → IsDistinct e (map key (xs ++ x ∷ []))
  unfolding IsDistinct
  IsDistinct-push [] x h none = (tt, tt)
  IsDistinct-push (y ∷ ys) x h none =
      let p = none-cond (e (key y) (key x)) y (find (λ y. e (key y) (key x)) ys) none in
      (differ-push (key y) ys x h.0 p.0, IsDistinct-push ys x h.1 p.1)

  differ-if : (k : K) (b : Bool) (x : X) (xs : List X) → e k (key x) ≡ false → AllByRecursion (λ y. e k y ≡ false) (map key xs) → AllByRecursion (λ y. e k y ≡ false) (map key (cond b (x ∷ xs) xs))
  differ-if k true x xs h rest = (h, rest)
  differ-if k false x xs h rest = rest

  pub differ-filter : (k : K) (p : X → Bool) (xs : List X) → AllByRecursion (λ y. e k y ≡ false) (map key xs) → AllByRecursion (λ y. e k y ≡ false) (map key (filter p xs))
  differ-filter k p [] h = tt
  differ-filter k p (x ∷ xs) h = differ-if k (p x) x (filter p xs) h.0 (differ-filter k p xs h.1)

  distinct-if : (b : Bool) (x : X) (xs : List X) → AllByRecursion (λ y. e (key x) y ≡ false) (map key xs) → IsDistinct e (map key xs) → IsDistinct e (map key (cond b (x ∷ xs) xs))
  unfolding IsDistinct
  distinct-if true x xs h rest = (h, rest)
  distinct-if false x xs h rest = rest

  pub IsDistinct-filter : (p : X → Bool) (xs : List X) → IsDistinct e (map key xs) → IsDistinct e (map key (filter p xs))
  unfolding IsDistinct
  IsDistinct-filter p [] h = tt
  IsDistinct-filter p (x ∷ xs) h = distinct-if (p x) x (filter p xs) (differ-filter (key x) p xs h.0) (IsDistinct-filter p xs h.1)

  pub differ-found : (k : K) (p : X → Bool) (xs : List X) (y : X) → AllByRecursion (λ l. e k l ≡ false) (map key xs) → find p xs ≡ Some y → e k (key y) ≡ false
  differ-found k p [] y h is = absurd (none-some y is)
  differ-found k p (x ∷ xs) y h is = differ-cond k (p x) x y (find p xs) h.0 (λ e. differ-found k p xs y h.1 e) is
    where
      differ-cond : (k : K) (b : Bool) (x y : X) (rest : Option X) → e k (key x) ≡ false → (rest ≡ Some y → e k (key y) ≡ false) → cond b (Some x) rest ≡ Some y → e k (key y) ≡ false
      differ-cond k true x y rest h next is = subst (λ (z : X). e k (key z) ≡ false) (same_Some x y is) h
      differ-cond k false x y rest h next is = next is

  unique-cond : (b : Bool) (x y : X) (xs : List X) (rest : Option X) → e (key y) (key y) ≡ true → (rest ≡ Some y → (e (key x) (key y) ≡ false) × (find (λ z. e (key z) (key y)) xs ≡ Some y))
      → cond b (Some x) rest ≡ Some y → find (λ z. e (key z) (key y)) (x ∷ xs) ≡ Some y
  unique-cond true x y xs rest itself next is =
      let same : x ≡ y = same_Some x y is in
      ap (λ b. cond b (Some x) (find (λ z. e (key z) (key y)) xs)) (subst (λ (z : X). e (key z) (key y) ≡ true) (sym same) itself) ∙ ap Some same
  unique-cond false x y xs rest itself next is = let h = next is in ap (λ b. cond b (Some x) (find (λ z. e (key z) (key y)) xs)) h.0 ∙ h.1

  -- what is found by another test is found by its key
  pub find-unique : (p : X → Bool) (xs : List X) (y : X) → IsDistinct e (map key xs) → e (key y) (key y) ≡ true → find p xs ≡ Some y → find (λ x. e (key x) (key y)) xs ≡ Some y
  unfolding IsDistinct
  find-unique p [] y h itself is = absurd (none-some y is)
  find-unique p (x ∷ xs) y h itself is =
      unique-cond (p x) x y xs (find p xs) itself (λ e. (differ-found (key x) p xs y h.0 e, find-unique p xs y h.1 itself e)) is

  pub map-key : (f : X → X) → ((x : X) → key (f x) ≡ key x) → (xs : List X) → map key (map f xs) ≡ map key xs
  map-key f h [] = refl
  map-key f h (x ∷ xs) = rw (h x, map-key f h xs) refl

-- ---- finding an element

module _ {X : Type 0} (p : X → Bool) where
  option_map-cond : (g : X → X) (b : Bool) (x : X) (o : Option X) → cond b (Some (g x)) (option_map g o) ≡ option_map g (cond b (Some x) o)
  option_map-cond g true x o = refl
  option_map-cond g false x o = refl

  -- a change that the test does not see
  pub find-map : (g : X → X) → ((x : X) → p (g x) ≡ p x) → (xs : List X) → find p (map g xs) ≡ option_map g (find p xs)
  find-map g h [] = refl
  find-map g h (x ∷ xs) = rw (h x, find-map g h xs) (option_map-cond g (p x) x (find p xs))

  cond-holds : (P : X → Type 0) (b : Bool) (x y : X) (o : Option X) → (b ≡ true → P x) → (o ≡ Some y → P y) → cond b (Some x) o ≡ Some y → P y
  cond-holds P true x y o h k is = subst P (same_Some x y is) (h refl)
  cond-holds P false x y o h k is = k is

  pub find-passes : (xs : List X) (y : X) → find p xs ≡ Some y → p y ≡ true
  find-passes [] y is = absurd (none-some y is)
  find-passes (x ∷ xs) y is = cond-holds (λ z. p z ≡ true) (p x) x y (find p xs) (λ e. e) (find-passes xs y) is

  -- what is so of all is so of the one that is found
  pub find-holds : (P : X → Type 0) (xs : List X) (y : X) → All P xs → find p xs ≡ Some y → P y
  find-holds P [] y h is = absurd (none-some y is)
  find-holds P (x ∷ xs) y h is = cond-holds P (p x) x y (find p xs) (λ e. All-head P x xs h) (find-holds P xs y (All-tail P x xs h)) is

  cond-other : (q : X → Bool) (b c : Bool) (x y : X) (o o' : Option X) → q x ≡ c → cond b (Some x) o ≡ Some y → q y ≡ true
      → (o ≡ Some y → (z : X) × (o' ≡ Some z)) → (z : X) × (cond c (Some x) o' ≡ Some z)
  cond-other q b true x y o o' e is passes h = (x, refl)
  cond-other q true false x y o o' e is passes h = absurd (let same : q x ≡ true = subst (λ (z : X). q z ≡ true) (sym (same_Some x y is)) passes in cc)
  cond-other q false false x y o o' e is passes h = h is

  -- where one test finds what passes the other, the other finds something
  pub find-other : (q : X → Bool) (xs : List X) (y : X) → find p xs ≡ Some y → q y ≡ true → (z : X) × (find q xs ≡ Some z)
  find-other q [] y is passes = absurd (none-some y is)
  find-other q (x ∷ xs) y is passes = cond-other q (p x) (q x) x y (find p xs) (find q xs) refl is passes (λ e. find-other q xs y e passes)

-- ---- what is found by a list of keys beside the elements

-- what is lent of a place
pub lent-at : {X : Type 0} (xs : List X) (i : ℕ) (r : Option (Bor X)) → is_some r ≡ nat_lt i (length xs) → IfSome r (λ x. x.now ≡ get_or xs i x.now) → option_copied r ≡ slice_get xs i
lent-at xs i None past h = sym (slice_get_past xs i (ltb-false i (length xs) (sym past)))
lent-at xs i (Some x) within h =
    let there : nat_lt i (length xs) ≡ true = sym within in
    ap Some h ∙ sym (slice_get-get_or xs i x.now (grind (arith, nat_tests)))

module _ {X : Type 0} (p : X → Bool) where
  -- the first that passes a test is the one at its place
  pub found-there : (xs : List X) → option_and_then (λ i. slice_get xs i) (position p xs) ≡ find p xs
  found-there xs =
      let first = position_or_len p xs in
      by_place (nat_lt first (length xs)) refl ∙ sym (find_at p xs)
    where
      by_place : (b : Bool) → nat_lt (position_or_len p xs) (length xs) ≡ b → option_and_then (λ i. slice_get xs i) (cond b (Some (position_or_len p xs)) None) ≡ slice_get xs (position_or_len p xs)
      by_place true e = refl
      by_place false e = sym (slice_get_past xs (position_or_len p xs) (ltb-false (position_or_len p xs) (length xs) e))

module _ {X K : Type 0} (key : X → K) (test : K → Bool) (keys : List K) (xs : List X) (same : keys ≡ map key xs) where
  -- its place by its key is its place
  pub placed-by : position test keys ≡ position (λ x. test (key x)) xs
  placed-by = ap (position test) same ∙ position-map test key xs

  -- what stands at the place of a key has that key
  pub found-by : option_and_then (λ i. slice_get xs i) (position test keys) ≡ find (λ x. test (key x)) xs
  found-by = ap (option_and_then (λ i. slice_get xs i)) placed-by ∙ found-there (λ x. test (key x)) xs

  none-any : (ys : List X) → find (λ x. test (key x)) ys ≡ None → list_any test (map key ys) ≡ false
  none-any [] none = refl
  none-any (y ∷ ys) none = let p = none-cond (test (key y)) y (find (λ x. test (key x)) ys) none in rw (p.0, none-any ys p.1) refl

  -- a key that finds nothing is not there
  pub absent-by : find (λ x. test (key x)) xs ≡ None → list_any test keys ≡ false
  absent-by none = ap (list_any test) same ∙ none-any xs none

pub map-remove : {X Y : Type 0} (f : X → Y) (xs : List X) (i : ℕ) → map f (remove xs i) ≡ remove (map f xs) i
map-remove f [] zero = refl
map-remove f [] (suc i) = refl
map-remove f (x ∷ xs) zero = refl
map-remove f (x ∷ xs) (suc i) = ap (λ (ys : List _). f x ∷ ys) (map-remove f xs i)

-- ---- elements with a number

module _ {X : Type 0} (uid_of : X → ℕ) (uid : ℕ) where
  pub find-unused : (xs : List X) → All (λ x. uid_of x < uid) xs → find (λ x. nat_eq (uid_of x) uid) xs ≡ None
  find-unused [] h = refl
  find-unused (x ∷ xs) h =
      let below : uid_of x < uid = All-head (λ x. uid_of x < uid) x xs h in
      rw (ne_eqb (uid_of x) uid (λ e. omega arith)) (find-unused xs (All-tail (λ x. uid_of x < uid) x xs h))

  -- taking out what is not there
  pub filter-absent : (xs : List X) → find (λ x. nat_eq (uid_of x) uid) xs ≡ None → filter (λ x. not (nat_eq (uid_of x) uid)) xs ≡ xs
  filter-absent [] none = refl
  filter-absent (x ∷ xs) none =
      let p = none-cond (nat_eq (uid_of x) uid) x (find (λ x. nat_eq (uid_of x) uid) xs) none in
      rw (p.0, filter-absent xs p.1) refl

  -- what was taken out is not found, and everything else is
  without_head : (b : Bool) (x : X) (xs : List X) → nat_eq (uid_of x) uid ≡ b → find (λ x. nat_eq (uid_of x) uid) xs ≡ None
      → find (λ x. nat_eq (uid_of x) uid) (cond (not b) (x ∷ xs) xs) ≡ None
  without_head true x xs e none = none
  without_head false x xs e none = rw (e, none) refl

  pub find-without : (xs : List X) → find (λ x. nat_eq (uid_of x) uid) (filter (λ x. not (nat_eq (uid_of x) uid)) xs) ≡ None
  find-without [] = refl
  find-without (x ∷ xs) = without_head (nat_eq (uid_of x) uid) x (filter (λ x. not (nat_eq (uid_of x) uid)) xs) refl (find-without xs)

  without_other_head : (other : ℕ) → other ≢ uid → (b : Bool) (x : X) (xs : List X) (o : Option X) → nat_eq (uid_of x) uid ≡ b → find (λ x. nat_eq (uid_of x) other) xs ≡ o
      → find (λ x. nat_eq (uid_of x) other) (cond (not b) (x ∷ xs) xs) ≡ cond (nat_eq (uid_of x) other) (Some x) o
  without_other_head other differs true x xs o e same =
      rw (ne_eqb (uid_of x) other (λ is. differs (sym is ∙ eqb-true (uid_of x) uid e))) same
  without_other_head other differs false x xs o e same = rw same refl

  pub find-without_other : (other : ℕ) → other ≢ uid → (xs : List X)
      → find (λ x. nat_eq (uid_of x) other) (filter (λ x. not (nat_eq (uid_of x) uid)) xs) ≡ find (λ x. nat_eq (uid_of x) other) xs
  find-without_other other differs [] = refl
  find-without_other other differs (x ∷ xs) =
      without_other_head other differs (nat_eq (uid_of x) uid) x (filter (λ x. not (nat_eq (uid_of x) uid)) xs) (find (λ x. nat_eq (uid_of x) other) xs) refl
      (find-without_other other differs xs)

  filter-other : (k : ℕ) (xs : List X) → k ≡ uid → AllByRecursion (λ y. nat_eq k y ≡ false) (map uid_of xs) → filter (λ x. not (nat_eq (uid_of x) uid)) xs ≡ xs
  filter-other k [] e h = refl
  filter-other k (x ∷ xs) e h =
      let other : nat_eq (uid_of x) uid ≡ false = ne_eqb (uid_of x) uid (λ same. eqb-false k (uid_of x) h.0 (e ∙ sym same)) in
      rw (other, filter-other k xs e h.1) refl

  differ-at : (k : ℕ) (xs : List X) (place : ℕ) (d : X) → AllByRecursion (λ y. nat_eq k y ≡ false) (map uid_of xs) → place < length xs → nat_eq k (uid_of (get_or xs place d)) ≡ false
  differ-at k [] place d h l = absurd (omega arith)
  differ-at k (x ∷ xs) zero d h l = h.0
  differ-at k (x ∷ xs) (suc place) d h l = differ-at k xs place d h.1 (omega arith)

  -- the element of the number taken out, whatever stood there last
  pub remove-present : (xs : List X) (place : ℕ) (d new : X) → IsDistinct nat_eq (map uid_of xs) → place < length xs → nat_eq (uid_of (get_or xs place d)) uid ≡ true
      → remove (set xs place new) place ≡ filter (λ x. not (nat_eq (uid_of x) uid)) xs
  unfolding IsDistinct
  remove-present [] place d new h l is = absurd (omega arith)
  remove-present (x ∷ xs) zero d new h l is = rw (is, filter-other (uid_of x) xs (eqb-true (uid_of x) uid is) h.0) refl
  remove-present (x ∷ xs) (suc place) d new h l is =
      let same : uid_of (get_or xs place d) ≡ uid = eqb-true (uid_of (get_or xs place d)) uid is in
      let other : nat_eq (uid_of x) uid ≡ false = subst (λ u. nat_eq (uid_of x) u ≡ false) same (differ-at (uid_of x) xs place d h.0 (omega arith)) in
      rw (other, remove-present xs place d new h.1 (omega arith) is) refl

  -- ---- where the element of the number stands

  pub find-position : (xs : List X) (place : ℕ) (d : X) → position (λ x. nat_eq (uid_of x) uid) xs ≡ Some place → find (λ x. nat_eq (uid_of x) uid) xs ≡ Some (get_or xs place d)
  find-position xs place d h =
      let here = position-Some (λ x. nat_eq (uid_of x) uid) xs place d h in
      let first = position_or_len (λ x. nat_eq (uid_of x) uid) xs in
      find_at (λ x. nat_eq (uid_of x) uid) xs ∙ ap (λ (i : ℕ). slice_get xs i) (some-cond (nat_lt first (length xs)) first place h) ∙ slice_get-get_or xs place d here.0

  pub find-no_position : (xs : List X) → position (λ x. nat_eq (uid_of x) uid) xs ≡ None → find (λ x. nat_eq (uid_of x) uid) xs ≡ None
  find-no_position xs h =
      let first = position_or_len (λ x. nat_eq (uid_of x) uid) xs in
      let past : nat_lt first (length xs) ≡ false = (none-cond (nat_lt first (length xs)) first None h).0 in
      find_at (λ x. nat_eq (uid_of x) uid) xs ∙ slice_get_past xs first (ltb-false first (length xs) past)

  -- where elements have distinct numbers, the number of the one at a place is found there
  first-own : (xs : List X) (place : ℕ) (d : X) → IsDistinct nat_eq (map uid_of xs) → place < length xs → nat_eq (uid_of (get_or xs place d)) uid ≡ true
      → position_or_len (λ x. nat_eq (uid_of x) uid) xs ≡ place
  unfolding IsDistinct
  first-own [] place d h l is = absurd (omega arith)
  first-own (x ∷ xs) zero d h l is = rw is refl
  first-own (x ∷ xs) (suc place) d h l is =
      let same : uid_of (get_or xs place d) ≡ uid = eqb-true (uid_of (get_or xs place d)) uid is in
      let other : nat_eq (uid_of x) uid ≡ false = subst (λ u. nat_eq (uid_of x) u ≡ false) same (differ-at (uid_of x) xs place d h.0 (omega arith)) in
      let rest = first-own xs place d h.1 (omega arith) is in
      rw other (omega arith)

  pub position-own : (xs : List X) (place : ℕ) (d : X) → IsDistinct nat_eq (map uid_of xs) → place < length xs → nat_eq (uid_of (get_or xs place d)) uid ≡ true
      → position (λ x. nat_eq (uid_of x) uid) xs ≡ Some place
  position-own xs place d h l is = rw (first-own xs place d h l is, lt-ltb place (length xs) l) refl

-- ---- the element of a number changed, where it stands

module _ {X : Type 0} (uid_of : X → ℕ) (uid : ℕ) (f : X → X) where
  pub map-absent : (xs : List X) → find (λ x. nat_eq (uid_of x) uid) xs ≡ None → map (λ x. cond (nat_eq (uid_of x) uid) (f x) x) xs ≡ xs
  map-absent [] none = refl
  map-absent (x ∷ xs) none =
      let p = none-cond (nat_eq (uid_of x) uid) x (find (λ x. nat_eq (uid_of x) uid) xs) none in
      rw (p.0, map-absent xs p.1) refl

  map-other : (k : ℕ) (xs : List X) → k ≡ uid → AllByRecursion (λ y. nat_eq k y ≡ false) (map uid_of xs) → map (λ x. cond (nat_eq (uid_of x) uid) (f x) x) xs ≡ xs
  map-other k [] e h = refl
  map-other k (x ∷ xs) e h =
      let other : nat_eq (uid_of x) uid ≡ false = ne_eqb (uid_of x) uid (λ same. eqb-false k (uid_of x) h.0 (e ∙ sym same)) in
      rw (other, map-other k xs e h.1) refl

  pub map-present : (xs : List X) (place : ℕ) (d : X) → IsDistinct nat_eq (map uid_of xs) → place < length xs → nat_eq (uid_of (get_or xs place d)) uid ≡ true
      → set xs place (f (get_or xs place d)) ≡ map (λ x. cond (nat_eq (uid_of x) uid) (f x) x) xs
  unfolding IsDistinct
  map-present [] place d h l is = absurd (omega arith)
  map-present (x ∷ xs) zero d h l is = rw (is, map-other (uid_of x) xs (eqb-true (uid_of x) uid is) h.0) refl
  map-present (x ∷ xs) (suc place) d h l is =
      let same : uid_of (get_or xs place d) ≡ uid = eqb-true (uid_of (get_or xs place d)) uid is in
      let other : nat_eq (uid_of x) uid ≡ false = subst (λ u. nat_eq (uid_of x) u ≡ false) same (differ-at uid_of uid (uid_of x) xs place d h.0 (omega arith)) in
      rw (other, map-present xs place d h.1 (omega arith) is) refl
