-- Lists of a key and a value: what a map that is made of one answers, and what an edit of the list does to it.
use Rattle.std.proofs.Common.{◌≡◌, ◌≢◌, ℕ, zero, suc, ◌+◌, ◌<◌, cond, List, [], ◌∷◌, length, get_or, set, Option, Some, None, is_some, refl, sym, ap, ◌∙◌, subst, inl, inr, arith}
use Rattle.std.specs.Cmp.{nat_cmp_total}
use Rattle.std.specs.FinMap.{FinMap, find, get, from_entries, len, get-insert, get-remove, get-from_entries, len-empty, len-insert, nat_cmp-IsAntisymmetric, same_map}
use Rattle.std.specs.FinMap as finite
use Rattle.std.specs.List.{Contains, insert, remove}
use Rattle.std.specs.Ordering.{nat_cmp, eq_by_cmp}
use Rattle.std.proofs.lemmas.Bool.{cases_eq, cases_lt}
use Rattle.std.proofs.lemmas.Bool.Decides.{nat_tests}
use Rattle.std.proofs.lemmas.List.{get_or_default}
use Rattle.std.proofs.lemmas.List.Edits.{length-remove, get_or-remove_below, get_or-remove_above}
use Rattle.deadline_heap.specs.private.Rows.{key_at}

-- no two places have one key
abbrev pub HasDistinctKeys : List (ℕ × ℕ) → Type 0
HasDistinctKeys es = (i j : ℕ) (d : ℕ × ℕ) → i < length es → j < length es → key_at es i d ≡ key_at es j d → i ≡ j

-- the first entry

pub find_here : (q : ℕ) (e : ℕ × ℕ) (es : List (ℕ × ℕ)) → e.0 ≡ q → find nat_cmp q (e ∷ es) ≡ Some e.1
find_here q e es h = grind (arith, nat_tests)

pub find_past : (q : ℕ) (e : ℕ × ℕ) (es : List (ℕ × ℕ)) → e.0 ≢ q → find nat_cmp q (e ∷ es) ≡ find nat_cmp q es
find_past q e es h = grind (arith, nat_tests)

find_front : (q : ℕ) (e : ℕ × ℕ) (es fs : List (ℕ × ℕ)) → find nat_cmp q es ≡ find nat_cmp q fs → find nat_cmp q (e ∷ es) ≡ find nat_cmp q (e ∷ fs)
find_front q e es fs h = ap (λ (r : Option ℕ). cond (eq_by_cmp nat_cmp q e.0) (Some e.1) r) h

find_swapped : (q : ℕ) (a b : ℕ × ℕ) (es : List (ℕ × ℕ)) → a.0 ≢ b.0 → find nat_cmp q (a ∷ b ∷ es) ≡ find nat_cmp q (b ∷ a ∷ es)
find_swapped q a b es n = elim (cases_eq a.0 q) [
  | inl e ↦ let m : b.0 ≢ q = λ f. n (e ∙ sym f) in find_here q a (b ∷ es) e ∙ sym (find_here q a es e) ∙ sym (find_past q b (a ∷ es) m)
  | inr m ↦ find_past q a (b ∷ es) m ∙ find_front q b es (a ∷ es) (sym (find_past q a es m))
]

find_shadowed : (q : ℕ) (a b : ℕ × ℕ) (es : List (ℕ × ℕ)) → b.0 ≡ a.0 → find nat_cmp q (a ∷ es) ≡ find nat_cmp q (a ∷ b ∷ es)
find_shadowed q a b es s = elim (cases_eq a.0 q) [
  | inl e ↦ find_here q a es e ∙ sym (find_here q a (b ∷ es) e)
  | inr n ↦ find_front q a es (b ∷ es) (sym (find_past q b es (λ f. n (sym s ∙ f))))
]

-- any entry

pub find_absent : (es : List (ℕ × ℕ)) (q : ℕ) → ((i : ℕ) (d : ℕ × ℕ) → i < length es → key_at es i d ≢ q) → find nat_cmp q es ≡ None
find_absent [] q lacks = refl
find_absent (e ∷ es) q lacks = find_past q e es (lacks zero e (omega arith)) ∙ find_absent es q (λ i d h. lacks (suc i) d (omega arith))

pub find_at : (es : List (ℕ × ℕ)) (q i : ℕ) (d : ℕ × ℕ) → i < length es → ((j : ℕ) (d : ℕ × ℕ) → j < i → key_at es j d ≢ q) → key_at es i d ≡ q
    → find nat_cmp q es ≡ Some (get_or es i d).1
find_at [] q i d h lacks is = absurd (omega arith)
find_at (e ∷ es) q zero d h lacks is = find_here q e es is
find_at (e ∷ es) q (suc i) d h lacks is = find_past q e es (lacks zero e (omega arith)) ∙ find_at es q i d (omega arith) (λ j d u. lacks (suc j) d (omega arith)) is

pub none_some : (v : ℕ) (r : Option ℕ) → r ≡ Some v → r ≡ None → ⊥
none_some v r a b = cc

pub some_same : (v w : ℕ) (r : Option ℕ) → r ≡ Some v → r ≡ Some w → v ≡ w
some_same v w r a b = cc

pub absent_none : (es : List (ℕ × ℕ)) (q : ℕ) → find nat_cmp q es ≡ None → (i : ℕ) (d : ℕ × ℕ) → i < length es → key_at es i d ≢ q
absent_none [] q none i d h = λ is. omega arith
absent_none (e ∷ es) q none zero d h = λ is. none_some e.1 _ (find_here q e es is) none
absent_none (e ∷ es) q none (suc i) d h = elim (cases_eq e.0 q) [
  | inl same ↦ λ is. none_some e.1 _ (find_here q e es same) none
  | inr n ↦ absent_none es q (sym (find_past q e es n) ∙ none) i d (omega arith)
]

pub contained_found : (es : List (ℕ × ℕ)) (q v : ℕ) → find nat_cmp q es ≡ Some v → Contains es (q, v)
contained_found [] q v is = absurd (none_some v None is refl)
contained_found (e ∷ es) q v is = elim (cases_eq e.0 q) [
  | inl h ↦ let w : e.1 ≡ v = some_same e.1 v _ (find_here q e es h) is in (zero, omega arith, λ i. (h i, w i))
  | inr n ↦ let rest : Contains es (q, v) = contained_found es q v (sym (find_past q e es n) ∙ is) in (suc rest.0, omega (arith, rest.1), rest.2)
]

no_earlier : (es : List (ℕ × ℕ)) (q i : ℕ) → HasDistinctKeys es → i < length es → ((d : ℕ × ℕ) → key_at es i d ≡ q) → (j : ℕ) (d : ℕ × ℕ) → j < i → key_at es j d ≢ q
no_earlier es q i one h at j d u is = let e : j ≡ i = one j i d (omega arith) h (is ∙ sym (at d)) in omega arith

pub find_key : (es : List (ℕ × ℕ)) (q i : ℕ) (d : ℕ × ℕ) → HasDistinctKeys es → i < length es → ((d : ℕ × ℕ) → key_at es i d ≡ q) → find nat_cmp q es ≡ Some (get_or es i d).1
find_key es q i d one h at = find_at es q i d h (no_earlier es q i one h at) (at d)

find_contained : (es : List (ℕ × ℕ)) (q v : ℕ) → HasDistinctKeys es → Contains es (q, v) → find nat_cmp q es ≡ Some v
find_contained es q v one c =
    let key : (d : ℕ × ℕ) → key_at es c.0 d ≡ q = λ d. ap (λ (p : ℕ × ℕ). p.0) (get_or_default es c.0 d (q, v) c.1 ∙ c.2) in
    find_key es q c.0 (q, v) one c.1 key ∙ ap (λ (p : ℕ × ℕ). Some p.1) c.2

pub find_members : (es fs : List (ℕ × ℕ)) → HasDistinctKeys es → HasDistinctKeys fs → ((x : ℕ × ℕ) → Contains es x → Contains fs x) → ((x : ℕ × ℕ) → Contains fs x → Contains es x)
    → (q : ℕ) → find nat_cmp q fs ≡ find nat_cmp q es
find_members es fs d e to from q =
    elim (find nat_cmp q es) as (λ r. find nat_cmp q es ≡ r → find nat_cmp q fs ≡ r) [
      | Some v ↦ λ is. find_contained fs q v e (to (q, v) (contained_found es q v is))
      | None ↦ λ none.
          elim (find nat_cmp q fs) as (λ r. find nat_cmp q fs ≡ r → r ≡ None) [
            | Some w ↦ λ is. absurd (none_some w _ (find_contained es q w d (from (q, w) (contained_found fs q w is))) none)
            | None ↦ λ _. refl
          ] refl
    ] refl

-- an edit

find_set : (es : List (ℕ × ℕ)) (k v i : ℕ) → i < length es → ((j : ℕ) (d : ℕ × ℕ) → j < i → key_at es j d ≢ k) → ((d : ℕ × ℕ) → key_at es i d ≡ k)
    → (q : ℕ) → find nat_cmp q (set es i (k, v)) ≡ find nat_cmp q ((k, v) ∷ es)
find_set [] k v i h lacks at q = absurd (omega arith)
find_set (e ∷ es) k v zero h lacks at q = find_shadowed q (k, v) e es (at e)
find_set (e ∷ es) k v (suc i) h lacks at q =
    find_front q e (set es i (k, v)) ((k, v) ∷ es) (find_set es k v i (omega arith) (λ j d u. lacks (suc j) d (omega arith)) (λ d. at d) q)
    ∙ find_swapped q e (k, v) es (lacks zero e (omega arith))

find_inserted : (es : List (ℕ × ℕ)) (k v i : ℕ) → ((j : ℕ) (d : ℕ × ℕ) → j < i → j < length es → key_at es j d ≢ k) → (q : ℕ) → find nat_cmp q (insert es i (k, v)) ≡ find nat_cmp q ((k, v) ∷ es)
find_inserted es k v zero lacks q = refl
find_inserted [] k v (suc i) lacks q = refl
find_inserted (e ∷ es) k v (suc i) lacks q =
    find_front q e (insert es i (k, v)) ((k, v) ∷ es) (find_inserted es k v i (λ j d u w. lacks (suc j) d (omega arith) (omega arith)) q)
    ∙ find_swapped q e (k, v) es (lacks zero e (omega arith) (omega arith))

find_left : (es : List (ℕ × ℕ)) (k i : ℕ) → i < length es → ((d : ℕ × ℕ) → key_at es i d ≡ k) → (q : ℕ) → q ≢ k → find nat_cmp q (remove es i) ≡ find nat_cmp q es
find_left [] k i h at q n = absurd (omega arith)
find_left (e ∷ es) k zero h at q n = sym (find_past q e es (λ s. n (sym s ∙ at e)))
find_left (e ∷ es) k (suc i) h at q n = find_front q e (remove es i) es (find_left es k i (omega arith) (λ d. at d) q n)

find_gone : (es : List (ℕ × ℕ)) (k i : ℕ) → HasDistinctKeys es → i < length es → ((d : ℕ × ℕ) → key_at es i d ≡ k) → find nat_cmp k (remove es i) ≡ None
find_gone es k i one h at = find_absent (remove es i) k (λ j d u is.
    let n : length (remove es i) + 1 ≡ length es = length-remove es i h in
    elim (cases_lt j i) [
      | inl before ↦
          let same : key_at es j d ≡ k = sym (ap (λ (p : ℕ × ℕ). p.0) (get_or-remove_below es i d j before h)) ∙ is in
          let e : j ≡ i = one j i d (omega arith) h (same ∙ sym (at d)) in
          omega arith
      | inr past ↦
          let same : key_at es (j + 1) d ≡ k = sym (ap (λ (p : ℕ × ℕ). p.0) (get_or-remove_above es i d j past h)) ∙ is in
          let e : j + 1 ≡ i = one (j + 1) i d (omega arith) h (same ∙ sym (at d)) in
          omega arith
    ])

-- the same of maps

pub get_inserted : (m : FinMap nat_cmp ℕ) (k v : ℕ) → get (finite.insert m k v) k ≡ Some v
get_inserted m k v = grind (arith, nat_tests, get-insert nat_cmp_total m k v k)

pub get_inserted_other : (m : FinMap nat_cmp ℕ) (k v q : ℕ) → q ≢ k → get (finite.insert m k v) q ≡ get m q
get_inserted_other m k v q n = grind (arith, nat_tests, get-insert nat_cmp_total m k v q)

pub get_removed : (m : FinMap nat_cmp ℕ) (k : ℕ) → get (finite.remove m k) k ≡ None
get_removed m k = grind (arith, nat_tests, get-remove nat_cmp_total m k k)

pub get_removed_other : (m : FinMap nat_cmp ℕ) (k q : ℕ) → q ≢ k → get (finite.remove m k) q ≡ get m q
get_removed_other m k q n = grind (arith, nat_tests, get-remove nat_cmp_total m k q)

pub get_entries : (es : List (ℕ × ℕ)) (q : ℕ) → get (from_entries {R = nat_cmp} es) q ≡ find nat_cmp q es
get_entries es q = get-from_entries nat_cmp_total es q

pub same_found : (es fs : List (ℕ × ℕ)) → ((q : ℕ) → find nat_cmp q es ≡ find nat_cmp q fs) → from_entries {R = nat_cmp} es ≡ from_entries {R = nat_cmp} fs
same_found es fs h = same_map nat_cmp_total nat_cmp-IsAntisymmetric _ _ (λ q. get_entries es q ∙ h q ∙ sym (get_entries fs q))

-- a map that answers nothing at k, and elsewhere what m answers
pub same_removed : (es : List (ℕ × ℕ)) (m : FinMap nat_cmp ℕ) (k : ℕ) → find nat_cmp k es ≡ None → ((q : ℕ) → q ≢ k → find nat_cmp q es ≡ get m q) → from_entries {R = nat_cmp} es ≡ finite.remove m k
same_removed es m k none other = same_map nat_cmp_total nat_cmp-IsAntisymmetric _ _ (λ q. elim (cases_eq q k) [
  | inl e ↦ get_entries es q ∙ subst (λ (n : ℕ). find nat_cmp n es ≡ get (finite.remove m k) n) (sym e) (none ∙ sym (get_removed m k))
  | inr n ↦ get_entries es q ∙ other q n ∙ sym (get_removed_other m k q n)
])

pub removed_lacking : (m : FinMap nat_cmp ℕ) (n : ℕ) → get m n ≡ None → m ≡ finite.remove m n
removed_lacking m n none = same_map nat_cmp_total nat_cmp-IsAntisymmetric m (finite.remove m n) (λ q. elim (cases_eq q n) [
  | inl e ↦ subst (λ (k : ℕ). get m k ≡ get (finite.remove m n) k) (sym e) (none ∙ sym (get_removed m n))
  | inr o ↦ sym (get_removed_other m n q o)
])

pub entries_set : (es : List (ℕ × ℕ)) (k v i : ℕ) → HasDistinctKeys es → i < length es → ((d : ℕ × ℕ) → key_at es i d ≡ k)
    → from_entries {R = nat_cmp} (set es i (k, v)) ≡ finite.insert (from_entries es) k v
entries_set es k v i one h at = same_found (set es i (k, v)) ((k, v) ∷ es) (find_set es k v i h (no_earlier es k i one h at) at)

pub entries_inserted : (es : List (ℕ × ℕ)) (k v i : ℕ) → ((j : ℕ) (d : ℕ × ℕ) → j < length es → key_at es j d ≢ k)
    → from_entries {R = nat_cmp} (insert es i (k, v)) ≡ finite.insert (from_entries es) k v
entries_inserted es k v i lacks = same_found (insert es i (k, v)) ((k, v) ∷ es) (find_inserted es k v i (λ j d u w. lacks j d w))

pub entries_removed : (es : List (ℕ × ℕ)) (k i : ℕ) → HasDistinctKeys es → i < length es → ((d : ℕ × ℕ) → key_at es i d ≡ k)
    → from_entries {R = nat_cmp} (remove es i) ≡ finite.remove (from_entries es) k
entries_removed es k i one h at =
    same_removed (remove es i) (from_entries es) k (find_gone es k i one h at) (λ q n. find_left es k i h at q n ∙ sym (get_entries es q))

distinct_rest : (e : ℕ × ℕ) (es : List (ℕ × ℕ)) → HasDistinctKeys (e ∷ es) → HasDistinctKeys es
distinct_rest e es one i j d u v is = let s : suc i ≡ suc j = one (suc i) (suc j) d (omega arith) (omega arith) is in omega arith

first_alone : (e : ℕ × ℕ) (es : List (ℕ × ℕ)) → HasDistinctKeys (e ∷ es) → (i : ℕ) (d : ℕ × ℕ) → i < length es → key_at es i d ≢ e.0
first_alone e es one i d h is = let s : suc i ≡ zero = one (suc i) zero d (omega arith) (omega arith) is in omega arith

pub len_entries : (es : List (ℕ × ℕ)) → HasDistinctKeys es → len (from_entries {R = nat_cmp} es) ≡ length es
len_entries [] one = len-empty nat_cmp ℕ
len_entries (e ∷ es) one =
    let m : FinMap nat_cmp ℕ = from_entries es in
    let none : get m e.0 ≡ None = get_entries es e.0 ∙ find_absent es e.0 (first_alone e es one) in
    let step : len (finite.insert m e.0 e.1) ≡ len m + 1 = len-insert nat_cmp_total m e.0 e.1 ∙ ap (λ (r : Option ℕ). cond (is_some r) (len m) (len m + 1)) none in
    let rest : len m ≡ length es = len_entries es (distinct_rest e es one) in
    omega arith
