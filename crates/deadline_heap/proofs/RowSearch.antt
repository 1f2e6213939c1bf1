-- What a search finds in rows whose numbers rise, and what an edit there leaves.
use Rattle.std.proofs.Common.{◌≡◌, ◌≢◌, ℕ, ◌+◌, ◌-◌, ◌<◌, ◌≤◌, true, false, List, length, get_or, set, Option, Some, None, is_some, Result, Ok, Err, IfOk, IfErr, sym, ap, ◌∙◌, subst, inl, inr, arith}
use Rattle.std.specs.FinMap.{get, from_entries}
use Rattle.std.specs.List.{insert, remove}
use Rattle.std.specs.List.Sorted.{IsSearchInRange, IsBinarySearchResult, IsNonDecreasingBy}
use Rattle.std.specs.Ordering.{nat_cmp, ordering_index}
use Rattle.std.proofs.lemmas.Bool.{cases_eq, cases_lt, cases_order}
use Rattle.std.proofs.lemmas.Bool.Decides.{nat_tests}
use Rattle.std.proofs.lemmas.Cmp.{ranked}
use Rattle.std.proofs.lemmas.List.{get_or_read_under, get_or-set_same, get_or-set_other, length-set}
use Rattle.std.proofs.lemmas.List.Edits.{length-insert, get_or-insert_below, get_or-insert_at, get_or-insert_above, length-remove, get_or-remove_below, get_or-remove_above}
use Rattle.deadline_heap.specs.private.Rows.{key_at, IsRising, IsRowOf, IsGapFor}
use Rattle.deadline_heap.proofs.Keyed.{HasDistinctKeys, get_entries, find_key, find_absent}

pub rows_distinct : (rows : List (ℕ × ℕ)) → IsRising rows → HasDistinctKeys rows
rows_distinct rows up i j d u v is = elim (cases_order i j) [
  | inl e ↦ e
  | inr (inl less) ↦ absurd (omega (arith, up i j d less v))
  | inr (inr more) ↦ absurd (omega (arith, up j i d more u))
]

keys_upto : (rows : List (ℕ × ℕ)) → IsRising rows → (i j : ℕ) (d : ℕ × ℕ) → i ≤ j → j < length rows → key_at rows i d ≤ key_at rows j d
keys_upto rows up i j d le h = elim (cases_eq i j) [
  | inl e ↦ let same : key_at rows i d ≡ key_at rows j d = ap (λ (n : ℕ). key_at rows n d) e in omega arith
  | inr n ↦ omega (arith, up i j d (omega arith) h)
]

index_upto : (a b k : ℕ) → a ≤ b → ordering_index (nat_cmp a k) ≤ ordering_index (nat_cmp b k)
index_upto a b k h = grind (arith, nat_tests)

comparisons_rise : (rows : List (ℕ × ℕ)) (k : ℕ) → IsRising rows → IsNonDecreasingBy (λ (row : ℕ × ℕ). ordering_index (nat_cmp row.0 k)) rows
comparisons_rise rows k up i j d le h = index_upto (key_at rows i d) (key_at rows j d) k (keys_upto rows up i j d le h)

pub searched_found : (rows : List (ℕ × ℕ)) (k : ℕ) (r : Result ℕ ℕ) → IsSearchInRange r (length rows) → IsBinarySearchResult (λ (row : ℕ × ℕ). nat_cmp row.0 k) rows r → IfOk r (IsRowOf rows k)
searched_found rows k (Ok at) bound is = record { within = bound; number_is = λ d. ranked (key_at rows at d) k _ (sym (is d)) }
searched_found rows k (Err at) bound is = tt

pub searched_absent : (rows : List (ℕ × ℕ)) (k : ℕ) → IsRising rows → (r : Result ℕ ℕ) → IsSearchInRange r (length rows) → IsBinarySearchResult (λ (row : ℕ × ℕ). nat_cmp row.0 k) rows r
    → IfErr r (IsGapFor rows k)
searched_absent rows k up (Ok at) bound is = tt
searched_absent rows k up (Err at) bound is =
    let parted = is (comparisons_rise rows k up) in
    record {
      within = bound;
      lesser_before = λ j d h. ranked (key_at rows j d) k _ (sym (parted.0 j d (omega arith) h));
      greater_after = λ j d le h. ranked (key_at rows j d) k _ (sym (parted.1 j d le h));
    }

-- a number greater than the last one's goes behind them all
pub gap_behind : (rows : List (ℕ × ℕ)) (k n : ℕ) (last : ℕ × ℕ) → IsRising rows → n ≡ length rows → 0 < n → last ≡ get_or rows (n - 1) last → last.0 < k → IsGapFor rows k n
gap_behind rows k n last up long some is less = record {
  within = omega (arith, long);
  lesser_before = λ j d h.
      let top : last.0 ≡ key_at rows (n - 1) d = ap (λ (row : ℕ × ℕ). row.0) (get_or_read_under rows (n - 1) n last d is (omega arith) long) in
      omega (arith, keys_upto rows up j (n - 1) d (omega arith) (omega (arith, long)), top);
  greater_after = λ j d le h. absurd (omega (arith, long));
}

pub gap_absent : (rows : List (ℕ × ℕ)) (k i : ℕ) → IsGapFor rows k i → (j : ℕ) (d : ℕ × ℕ) → j < length rows → key_at rows j d ≢ k
gap_absent rows k i gap j d h is = elim (cases_lt j i) [
  | inl before ↦ omega (arith, gap.lesser_before j d before)
  | inr past ↦ omega (arith, gap.greater_after j d past h)
]

pub get_gap : (rows : List (ℕ × ℕ)) (k i : ℕ) → IsGapFor rows k i → get (from_entries {R = nat_cmp} rows) k ≡ None
get_gap rows k i gap = get_entries rows k ∙ find_absent rows k (gap_absent rows k i gap)

pub get_row : (rows : List (ℕ × ℕ)) (k i : ℕ) (x : ℕ × ℕ) → IsRising rows → IsRowOf rows k i → x ≡ get_or rows i x → get (from_entries {R = nat_cmp} rows) k ≡ Some x.1
get_row rows k i x up at read = get_entries rows k ∙ find_key rows k i x (rows_distinct rows up) at.within at.number_is ∙ ap (λ (p : ℕ × ℕ). Some p.1) (sym read)

pub some_row : (rows : List (ℕ × ℕ)) (k i : ℕ) → IsRising rows → IsRowOf rows k i → is_some (get (from_entries {R = nat_cmp} rows) k) ≡ true
some_row rows k i up at = ap (λ (r : Option ℕ). is_some r) (get_entries rows k ∙ find_key rows k i (0, 0) (rows_distinct rows up) at.within at.number_is)

pub none_row : (rows : List (ℕ × ℕ)) (k i : ℕ) → IsGapFor rows k i → is_some (get (from_entries {R = nat_cmp} rows) k) ≡ false
none_row rows k i gap = ap (λ (r : Option ℕ). is_some r) (get_gap rows k i gap)

-- the numbers still rise

rising_at : (a b c e : ℕ) → a ≡ c → b ≡ e → c < e → a < b
rising_at a b c e p q h = omega arith

key_set : (rows : List (ℕ × ℕ)) (k v i : ℕ) → IsRowOf rows k i → (j : ℕ) (d : ℕ × ℕ) → key_at (set rows i (k, v)) j d ≡ key_at rows j d
key_set rows k v i at j d = elim (cases_eq j i) [
  | inl e ↦
      subst (λ (n : ℕ). key_at (set rows i (k, v)) n d ≡ key_at rows n d) (sym e) (ap (λ (p : ℕ × ℕ). p.0) (get_or-set_same rows i (k, v) d at.within) ∙ sym (at.number_is d))
  | inr n ↦ ap (λ (p : ℕ × ℕ). p.0) (get_or-set_other rows i j (k, v) d n)
]

pub rising_set : (rows : List (ℕ × ℕ)) (k v i : ℕ) → IsRising rows → IsRowOf rows k i → IsRising (set rows i (k, v))
rising_set rows k v i up at a b d h w =
    let n : length (set rows i (k, v)) ≡ length rows = length-set rows i (k, v) in
    rising_at _ _ _ _ (key_set rows k v i at a d) (key_set rows k v i at b d) (up a b d h (omega arith))

key_insert_past : (rows : List (ℕ × ℕ)) (i j : ℕ) (y d : ℕ × ℕ) → i < j → i ≤ length rows → key_at (insert rows i y) j d ≡ key_at rows (j - 1) d
key_insert_past rows i j y d h w =
    let e : (j - 1) + 1 ≡ j = omega arith in
    subst (λ (n : ℕ). key_at (insert rows i y) n d ≡ key_at rows (j - 1) d) e (ap (λ (p : ℕ × ℕ). p.0) (get_or-insert_above rows i y d (j - 1) (omega arith) w))

key_insert_here : (rows : List (ℕ × ℕ)) (i j : ℕ) (y d : ℕ × ℕ) → j ≡ i → i ≤ length rows → key_at (insert rows i y) j d ≡ y.0
key_insert_here rows i j y d e w = subst (λ (n : ℕ). key_at (insert rows i y) n d ≡ y.0) (sym e) (ap (λ (p : ℕ × ℕ). p.0) (get_or-insert_at rows i y d w))

key_insert_below : (rows : List (ℕ × ℕ)) (i j : ℕ) (y d : ℕ × ℕ) → j < i → i ≤ length rows → key_at (insert rows i y) j d ≡ key_at rows j d
key_insert_below rows i j y d h w = ap (λ (p : ℕ × ℕ). p.0) (get_or-insert_below rows i y d j h w)

pub rising_insert : (rows : List (ℕ × ℕ)) (k v i : ℕ) → IsRising rows → IsGapFor rows k i → IsRising (insert rows i (k, v))
rising_insert rows k v i up gap a b d h u =
    let w = gap.within in
    let n : length (insert rows i (k, v)) ≡ length rows + 1 = length-insert rows i (k, v) w in
    elim (cases_order a i) [
      | inl e ↦ rising_at _ _ _ _ (key_insert_here rows i a (k, v) d e w) (key_insert_past rows i b (k, v) d (omega arith) w) (gap.greater_after (b - 1) d (omega arith) (omega arith))
      | inr (inl less) ↦ elim (cases_order b i) [
        | inl e ↦ rising_at _ _ _ _ (key_insert_below rows i a (k, v) d less w) (key_insert_here rows i b (k, v) d e w) (gap.lesser_before a d less)
        | inr (inl before) ↦ rising_at _ _ _ _ (key_insert_below rows i a (k, v) d less w) (key_insert_below rows i b (k, v) d before w) (up a b d h (omega arith))
        | inr (inr past) ↦ rising_at _ _ _ _ (key_insert_below rows i a (k, v) d less w) (key_insert_past rows i b (k, v) d past w) (up a (b - 1) d (omega arith) (omega arith))
      ]
      | inr (inr more) ↦
          rising_at _ _ _ _ (key_insert_past rows i a (k, v) d more w) (key_insert_past rows i b (k, v) d (omega arith) w) (up (a - 1) (b - 1) d (omega arith) (omega arith))
    ]

key_remove_below : (rows : List (ℕ × ℕ)) (i j : ℕ) (d : ℕ × ℕ) → j < i → i < length rows → key_at (remove rows i) j d ≡ key_at rows j d
key_remove_below rows i j d h w = ap (λ (p : ℕ × ℕ). p.0) (get_or-remove_below rows i d j h w)

key_remove_past : (rows : List (ℕ × ℕ)) (i j : ℕ) (d : ℕ × ℕ) → i ≤ j → i < length rows → key_at (remove rows i) j d ≡ key_at rows (j + 1) d
key_remove_past rows i j d h w = ap (λ (p : ℕ × ℕ). p.0) (get_or-remove_above rows i d j h w)

pub rising_remove : (rows : List (ℕ × ℕ)) (i : ℕ) → IsRising rows → i < length rows → IsRising (remove rows i)
rising_remove rows i up w a b d h u =
    let n : length (remove rows i) + 1 ≡ length rows = length-remove rows i w in
    elim (cases_lt b i) [
      | inl before ↦ rising_at _ _ _ _ (key_remove_below rows i a d (omega arith) w) (key_remove_below rows i b d before w) (up a b d h (omega arith))
      | inr past ↦ elim (cases_lt a i) [
        | inl less ↦ rising_at _ _ _ _ (key_remove_below rows i a d less w) (key_remove_past rows i b d past w) (up a (b + 1) d (omega arith) (omega arith))
        | inr more ↦ rising_at _ _ _ _ (key_remove_past rows i a d more w) (key_remove_past rows i b d past w) (up (a + 1) (b + 1) d (omega arith) (omega arith))
      ]
    ]
