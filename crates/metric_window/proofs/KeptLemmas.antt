-- Rows whose minutes follow one another, and the last of them. The last two parts are for whoever keeps a window beside the journal that it is computed from.
use Rattle.std.proofs.Common.{◌≡◌, ℕ, zero, suc, ◌+◌, ◌-◌, ◌<◌, ◌≤◌, Bool, true, false, eqb, List, [], ◌∷◌, ◌++◌, ◌&&◌, cond, map, length, drop, Option, Some, None, refl, sym, ap, ◌∙◌, arith, length-append}
use Rattle.std.specs.Prelude.{nat_le, nat_lt, slice_get, IsSome}
use Rattle.std.specs.List.{range_with_len}
use Rattle.std.proofs.lemmas.Bool.Decides.{nat_tests}
use Rattle.std.proofs.lemmas.List.{drop-drop, drop-append-le, drop-map, length-drop}
use Rattle.std.proofs.lemmas.List.FromFn.{map-range_with_len_more, length-map-range_with_len}
use Rattle.std.proofs.Math.Seq.{drop-append-add}
use Rattle.std.proofs.lemmas.Option.{slice_get_past}
use Rattle.circular_buffer.specs.Buffer.{keep_last}
use Rattle.metric_window.specs.declared.row.Row.{Row}
use Rattle.metric_window.specs.KeptRows.{row_in, AreLast}

-- there are no more of them than minutes before this one
pub last-within : (end : ℕ) (rows : List Row) → AreLast end rows → length rows ≤ end
last-within end [] last = omega arith
last-within end (row ∷ rows) last = omega (arith, last.0)

pub last-push : (end : ℕ) (rows : List Row) (row : Row) → AreLast end rows → row.minute ≡ end → AreLast (end + 1) (rows ++ row ∷ [])
last-push end [] row last here = (omega arith, tt)
last-push end (r ∷ rows) row last here =
    let longer = length-append rows (row ∷ []) in
    (omega (arith, last.0, longer), last-push end rows row last.1 here)

pub last-drop : (end : ℕ) (rows : List Row) (k : ℕ) → AreLast end rows → AreLast end (drop k rows)
last-drop end [] zero last = last
last-drop end [] (suc k) last = last
last-drop end (r ∷ rows) zero last = last
last-drop end (r ∷ rows) (suc k) last = last-drop end rows k last.1

-- a minute before all of them has no row
pub row_in-before : (end : ℕ) (rows : List Row) (minute : ℕ) → AreLast end rows → minute + length rows < end → row_in rows minute ≡ None
row_in-before end [] minute last before = refl
row_in-before end (r ∷ rows) minute last before =
    let here = last.0 in
    let other : eqb r.minute minute ≡ false = grind (arith, nat_tests) in
    rw other (row_in-before end rows minute last.1 (omega arith))

-- the row of any other is at the place by which the minute is above the first
pub row_in-place : (end : ℕ) (rows : List Row) (minute place : ℕ) → AreLast end rows → minute + length rows ≡ end + place → row_in rows minute ≡ slice_get rows place
row_in-place end [] minute place last is = refl
row_in-place end (r ∷ rows) minute zero last is =
    let here = last.0 in
    let same : eqb r.minute minute ≡ true = grind (arith, nat_tests) in
    rw same refl
row_in-place end (r ∷ rows) minute (suc place) last is =
    let here = last.0 in
    let other : eqb r.minute minute ≡ false = grind (arith, nat_tests) in
    rw other (row_in-place end rows minute place last.1 (omega arith))

some_or : (b : Bool) (r : Row) (o : Option Row) → (b ≡ false → IsSome o) → IsSome (cond b (Some r) o)
some_or true r o h = refl
some_or false r o h = h refl

pub row_in-within : (end : ℕ) (rows : List Row) (minute : ℕ) → AreLast end rows → end ≤ minute + length rows → minute < end → IsSome (row_in rows minute)
row_in-within end [] minute last from before = absurd (omega arith)
row_in-within end (r ∷ rows) minute last from before =
    let here = last.0 in
    some_or (eqb r.minute minute) r (row_in rows minute)
    (λ other. row_in-within end rows minute last.1 (grind (arith, nat_tests)) before)

pub row_in-after : (end : ℕ) (rows : List Row) (minute : ℕ) → AreLast end rows → end ≤ minute → row_in rows minute ≡ None
row_in-after end rows minute last past =
    row_in-place end rows minute ((minute + length rows) - end) last (omega arith) ∙ slice_get_past rows ((minute + length rows) - end) (omega arith)

-- ---- the last ones

-- what went before makes no difference later
pub keep_last-again : {X : Type 0} (n : ℕ) (xs : List X) (x : X) → keep_last n (keep_last n xs ++ x ∷ []) ≡ keep_last n (xs ++ x ∷ [])
keep_last-again n xs x =
    let longer : length (xs ++ x ∷ []) ≡ length xs + 1 = length-append xs (x ∷ []) in
    let left : length (drop (length xs - n) (xs ++ x ∷ [])) ≡ length (xs ++ x ∷ []) - (length xs - n) = length-drop (length xs - n) (xs ++ x ∷ []) in
    let same : (length xs - n) + (length (drop (length xs - n) (xs ++ x ∷ [])) - n) ≡ length (xs ++ x ∷ []) - n = omega arith in
    ap (keep_last n) (sym (drop-append-le (length xs - n) xs (x ∷ []) (omega arith)))
    ∙ drop-drop (length (drop (length xs - n) (xs ++ x ∷ [])) - n) (length xs - n) (xs ++ x ∷ [])
    ∙ ap (λ (k : ℕ). drop k (xs ++ x ∷ [])) same

pub last-more : (end : ℕ) (rows : List Row) (row : Row) (n : ℕ) → AreLast end rows → row.minute ≡ end → AreLast (end + 1) (keep_last n (rows ++ row ∷ []))
last-more end rows row n last here = last-drop (end + 1) (rows ++ row ∷ []) (length (rows ++ row ∷ []) - n) (last-push end rows row last here)

-- what was there before makes no difference to the last ones, where there are enough behind it
pub keep_last-behind : {X : Type 0} (n : ℕ) (xs ys : List X) → n ≤ length ys → keep_last n (xs ++ ys) ≡ keep_last n ys
keep_last-behind n xs ys enough =
    let longer : length (xs ++ ys) ≡ length xs + length ys = length-append xs ys in
    let same : length (xs ++ ys) - n ≡ length xs + (length ys - n) = omega arith in
    ap (λ (k : ℕ). drop k (xs ++ ys)) same ∙ drop-append-add xs ys (length ys - n)

-- ---- the rows of minutes one after another, each computed from its minute

pub range-behind : (first k count all : ℕ) → k + count ≡ all → drop k (range_with_len first all) ≡ range_with_len (first + k) count
range-behind first zero count all is =
    let same : all ≡ count = omega arith in
    let begin : first ≡ first + 0 = omega arith in
    ap (λ (n : ℕ). range_with_len first n) same ∙ ap (λ (a : ℕ). range_with_len a count) begin
range-behind first (suc k) count zero is = absurd (omega arith)
range-behind first (suc k) count (suc all) is =
    let begin : first + 1 + k ≡ first + suc k = omega arith in
    range-behind (first + 1) k count all (omega arith) ∙ ap (λ (a : ℕ). range_with_len a count) begin

module _ (row : ℕ → Row) (named : (m : ℕ) → (row m).minute ≡ m) where
  abbrev pub rows_from : ℕ → ℕ → List Row
  rows_from first count = map row (range_with_len first count)

  -- the last n of them with the next one
  pub rows_from-more : (n first count minute left : ℕ) → first + count ≡ minute → left ≡ (count + 1) - ((count + 1) - n)
      → keep_last n (rows_from first count ++ row minute ∷ []) ≡ rows_from ((minute + 1) - left) left
  rows_from-more n first count minute left is many =
      let size : length (rows_from first (count + 1)) ≡ count + 1 = length-map-range_with_len row first (count + 1) in
      let whole : ((count + 1) - n) + left ≡ count + 1 = omega arith in
      let begin : first + ((count + 1) - n) ≡ (minute + 1) - left = omega arith in
      ap (keep_last n) (sym (map-range_with_len_more row first count minute is))
      ∙ ap (λ (k : ℕ). drop (k - n) (rows_from first (count + 1))) size
      ∙ drop-map row ((count + 1) - n) (range_with_len first (count + 1))
      ∙ ap (map row) (range-behind first ((count + 1) - n) left (count + 1) whole)
      ∙ ap (λ (a : ℕ). rows_from a left) begin

  abbrev is_among : ℕ → ℕ → ℕ → Bool
  is_among first count minute = nat_le first minute && nat_lt minute (first + count)

  at_first : (first count minute : ℕ) (b : Bool) → eqb (row first).minute minute ≡ b → row_in (rows_from (first + 1) count) minute ≡ cond (is_among (first + 1) count minute) (Some (row minute)) None
      → cond b (Some (row first)) (row_in (rows_from (first + 1) count) minute) ≡ cond (is_among first (suc count) minute) (Some (row minute)) None
  at_first first count minute true is later =
      let name = named first in
      let same : first ≡ minute = grind (arith, nat_tests) in
      let among : is_among first (suc count) minute ≡ true = grind (arith, nat_tests) in
      rw among (ap (λ (m : ℕ). Some (row m)) same)
  at_first first count minute false is later =
      let name = named first in
      let among : is_among (first + 1) count minute ≡ is_among first (suc count) minute = grind (arith, nat_tests) in
      later ∙ ap (λ (b : Bool). cond b (Some (row minute)) None) among

  -- the row of a minute, where it is one of theirs
  pub row_in-from : (first count minute : ℕ) → row_in (rows_from first count) minute ≡ cond (is_among first count minute) (Some (row minute)) None
  row_in-from first zero minute =
      let none : is_among first 0 minute ≡ false = grind (arith, nat_tests) in
      rw none refl
  row_in-from first (suc count) minute = at_first first count minute (eqb (row first).minute minute) refl (row_in-from (first + 1) count minute)
