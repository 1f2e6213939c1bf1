-- The map of a list of pairs, no two of one number: what it answers, and what an edit of the list does to it.
use Rattle.std.proofs.Common.{◌≡◌, ◌≢◌, ℕ, ◌+◌, ◌<◌, false, List, [], ◌∷◌, ◌++◌, length, get_or, set, map, Option, Some, None, IsSome, IfNone, refl, sym, ap, ◌∙◌, subst, arith, length-append}
use mathlib.Core.Bool.{false≢true}
use Rattle.std.specs.Cmp.{nat_cmp_total}
use Rattle.std.specs.FinMap.{FinMap, find, get, from_entries, len, from_entries_push, nat_cmp-IsAntisymmetric}
use Rattle.std.specs.FinMap as finite
use Rattle.std.specs.List.{Contains, swap}
use Rattle.std.specs.List.Sorted.{IsPermutation}
use Rattle.std.specs.Ordering.{nat_cmp}
use Rattle.std.proofs.lemmas.List.{get_or-map, get_or_push, length-map, map-set, map_push}
use Rattle.std.proofs.lemmas.List.Sorted.{Contains-permutation, IsPermutation-map, IsPermutation-sym}
use Rattle.journal.specs.Order.{is_before}
use Rattle.deadline_heap.specs.Deadlines.{number_first, moments_of, IsFirst}
use Rattle.deadline_heap.specs.private.Heap.{IsHeap}
use Rattle.deadline_heap.specs.private.Placed.{number_at, HasDistinctNumbers, LacksNumber, HasNumberAt}
use Rattle.deadline_heap.specs.private.Rows.{key_at}
use Rattle.deadline_heap.proofs.HeapOrder.{exchanged, first_upto}
use Rattle.deadline_heap.proofs.Keyed.{HasDistinctKeys, absent_none, contained_found, entries_set, find_absent, find_key, find_members, get_entries, get_inserted_other, len_entries, same_found, same_removed}
use Rattle.deadline_heap.proofs.Placing.{lacks_last}

shorter : (xs : List (ℕ × ℕ)) (i : ℕ) → i < length (map number_first xs) → i < length xs
shorter xs i h = let n : length (map number_first xs) ≡ length xs = length-map xs number_first in omega arith

longer : (xs : List (ℕ × ℕ)) (i : ℕ) → i < length xs → i < length (map number_first xs)
longer xs i h = let n : length (map number_first xs) ≡ length xs = length-map xs number_first in omega arith

key_mapped : (xs : List (ℕ × ℕ)) (i : ℕ) (d e : ℕ × ℕ) → i < length xs → key_at (map number_first xs) i e ≡ number_at xs i d
key_mapped xs i d e h = ap (λ (p : ℕ × ℕ). p.0) (get_or-map number_first xs i d e h)

distinct_mapped : (xs : List (ℕ × ℕ)) → HasDistinctNumbers xs → HasDistinctKeys (map number_first xs)
distinct_mapped xs one i j d h g is =
    one i j (0, 0) (shorter xs i h) (shorter xs j g) (sym (key_mapped xs i (0, 0) d (shorter xs i h)) ∙ is ∙ key_mapped xs j (0, 0) d (shorter xs j g))

find_lacking : (xs : List (ℕ × ℕ)) (n : ℕ) → LacksNumber xs n → find nat_cmp n (map number_first xs) ≡ None
find_lacking xs n lacks = find_absent (map number_first xs) n (λ i d h is. lacks i (0, 0) (shorter xs i h) (sym (key_mapped xs i (0, 0) d (shorter xs i h)) ∙ is))

key_of : (xs : List (ℕ × ℕ)) (n i : ℕ) → HasNumberAt xs n i → (d : ℕ × ℕ) → key_at (map number_first xs) i d ≡ n
key_of xs n i at d = key_mapped xs i (0, 0) d at.within ∙ at.number_is (0, 0)

pub moments_none : moments_of [] ≡ finite.empty
unfolding moments_of
moments_none = refl

pub get_moments : (xs : List (ℕ × ℕ)) (n i : ℕ) (d : ℕ × ℕ) → HasDistinctNumbers xs → HasNumberAt xs n i → get (moments_of xs) n ≡ Some (get_or xs i d).0
unfolding moments_of
get_moments xs n i d one at =
    get_entries (map number_first xs) n ∙ find_key (map number_first xs) n i (number_first d) (distinct_mapped xs one) (longer xs i at.within) (key_of xs n i at)
    ∙ ap (λ (p : ℕ × ℕ). Some p.1) (get_or-map number_first xs i d (number_first d) at.within)

pub get_moments_lacking : (xs : List (ℕ × ℕ)) (n : ℕ) → LacksNumber xs n → get (moments_of xs) n ≡ None
unfolding moments_of
get_moments_lacking xs n lacks = get_entries (map number_first xs) n ∙ find_lacking xs n lacks

pub lacks_moments : (xs : List (ℕ × ℕ)) (n : ℕ) → get (moments_of xs) n ≡ None → LacksNumber xs n
unfolding moments_of
lacks_moments xs n none i d h is =
    absent_none (map number_first xs) n (sym (get_entries (map number_first xs) n) ∙ none) i (number_first d) (longer xs i h) (key_mapped xs i d (number_first d) h ∙ is)

contained_moments : (xs : List (ℕ × ℕ)) (n v : ℕ) → get (moments_of xs) n ≡ Some v → Contains xs (v, n)
unfolding moments_of
contained_moments xs n v is =
    let c : Contains (map number_first xs) (n, v) = contained_found (map number_first xs) n v (sym (get_entries (map number_first xs) n) ∙ is) in
    (c.0, shorter xs c.0 c.1, ap number_first (sym (get_or-map number_first xs c.0 (v, n) (n, v) (shorter xs c.0 c.1)) ∙ c.2))

pub len_moments : (xs : List (ℕ × ℕ)) → HasDistinctNumbers xs → len (moments_of xs) ≡ length xs
unfolding moments_of
len_moments xs one = len_entries (map number_first xs) (distinct_mapped xs one) ∙ length-map xs number_first

pub moments_permuted : (xs ys : List (ℕ × ℕ)) → HasDistinctNumbers xs → HasDistinctNumbers ys → IsPermutation xs ys → moments_of ys ≡ moments_of xs
unfolding moments_of
moments_permuted xs ys one two p =
    let q = IsPermutation-map number_first xs ys p in
    same_found (map number_first ys) (map number_first xs)
    (find_members (map number_first xs) (map number_first ys) (distinct_mapped xs one) (distinct_mapped ys two)
    (λ x c. Contains-permutation (map number_first xs) (map number_first ys) x q c)
    (λ x c. Contains-permutation (map number_first ys) (map number_first xs) x (IsPermutation-sym (map number_first xs) (map number_first ys) q) c))

pub moments_pushed : (xs : List (ℕ × ℕ)) (p : ℕ × ℕ) → LacksNumber xs p.1 → moments_of (xs ++ p ∷ []) ≡ finite.insert (moments_of xs) p.1 p.0
unfolding moments_of
moments_pushed xs p lacks =
    ap (λ (es : List (ℕ × ℕ)). from_entries {R = nat_cmp} es) (map_push number_first xs p)
    ∙ from_entries_push nat_cmp_total nat_cmp-IsAntisymmetric (map number_first xs) p.1 p.0 (find_lacking xs p.1 lacks)

pub moments_set : (xs : List (ℕ × ℕ)) (p : ℕ × ℕ) (i : ℕ) → HasDistinctNumbers xs → HasNumberAt xs p.1 i → moments_of (set xs i p) ≡ finite.insert (moments_of xs) p.1 p.0
unfolding moments_of
moments_set xs p i one at =
    ap (λ (es : List (ℕ × ℕ)). from_entries {R = nat_cmp} es) (map-set number_first xs i p)
    ∙ entries_set (map number_first xs) p.1 p.0 i (distinct_mapped xs one) (longer xs i at.within) (key_of xs p.1 i at)

get_front : (zs : List (ℕ × ℕ)) (r : ℕ × ℕ) (q : ℕ) → LacksNumber zs r.1 → q ≢ r.1 → get (moments_of (zs ++ r ∷ [])) q ≡ get (moments_of zs) q
get_front zs r q lacks n = ap (λ (m : FinMap nat_cmp ℕ). get m q) (moments_pushed zs r lacks) ∙ get_inserted_other (moments_of zs) r.1 r.0 q n

pub moments_taken : (zs : List (ℕ × ℕ)) (r : ℕ × ℕ) → HasDistinctNumbers (zs ++ r ∷ []) → moments_of zs ≡ finite.remove (moments_of (zs ++ r ∷ [])) r.1
unfolding moments_of
moments_taken zs r one =
    let lacks = lacks_last zs r one in
    same_removed (map number_first zs) (moments_of (zs ++ r ∷ [])) r.1 (find_lacking zs r.1 lacks)
    (λ q n. sym (get_entries (map number_first zs) q) ∙ sym (get_front zs r q lacks n))

-- where the map has a number, a search finds its place
pub place_there : (xs : List (ℕ × ℕ)) (n : ℕ) (r : Option ℕ) → IfNone r (LacksNumber xs n) → IsSome (get (moments_of xs) n) → IsSome r
place_there xs n (Some i) lacks is = refl
place_there xs n None lacks is = absurd (false≢true (rw (get_moments_lacking xs n lacks) at is))

-- the last of the pairs, after it changed places with the one of number n at place i
pub last_is : (xs ys zs : List (ℕ × ℕ)) (r : ℕ × ℕ) (n i last : ℕ) → HasNumberAt xs n i → last + 1 ≡ length xs → ys ≡ swap xs i last → ys ≡ zs ++ r ∷ [] → (d : ℕ × ℕ) → r ≡ get_or xs i d
last_is xs ys zs r n i last at l e f d =
    let x = exchanged xs ys i last at.within (omega arith) e in
    let same = x.length_is in
    let m : length ys ≡ length zs + 1 = ap length f ∙ length-append zs (r ∷ []) in
    sym (ap (λ (vs : List (ℕ × ℕ)). get_or vs last d) f ∙ get_or_push zs r d last (omega arith)) ∙ x.second d

-- the least pair

pub first_top : (xs : List (ℕ × ℕ)) (p : ℕ × ℕ) → HasDistinctNumbers xs → IsHeap xs → 0 < length xs → ((d : ℕ × ℕ) → get_or xs 0 d ≡ p) → IsFirst (moments_of xs) (Some p)
first_top xs p one heap h top =
    let at : HasNumberAt xs p.1 0 = record { within = h; number_is = λ d. ap (λ (q : ℕ × ℕ). q.1) (top d) } in (
      get_moments xs p.1 0 (0, 0) one at ∙ ap (λ (q : ℕ × ℕ). Some q.0) (top (0, 0)),
      λ n m is.
          let c : Contains xs (m, n) = contained_moments xs n m is in
          let upto : is_before (get_or xs c.0 (m, n)) (get_or xs 0 (m, n)) ≡ false = first_upto xs heap c.0 c.1 (m, n) in
          let there : is_before (m, n) (get_or xs 0 (m, n)) ≡ false = subst (λ (q : ℕ × ℕ). is_before q (get_or xs 0 (m, n)) ≡ false) c.2 upto in
          subst (λ (q : ℕ × ℕ). is_before (m, n) q ≡ false) (top (m, n)) there,
    )

pub first_none : (xs : List (ℕ × ℕ)) → length xs ≡ 0 → IsFirst (moments_of xs) None
first_none xs e n = get_moments_lacking xs n (λ i d h is. omega arith)
