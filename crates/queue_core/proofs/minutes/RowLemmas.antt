-- Rows one minute on.
use Rattle.std.proofs.Common.{◌≡◌, ℕ, ◌+◌, ◌-◌, ◌<◌, ◌≤◌, Bool, true, false, cond, ◌==◌, List, [], ◌∷◌, ◌++◌, map, Option, Some, None, refl, sym, ap, ◌∙◌, arith}
use Rattle.std.specs.Prelude.{nat_le, nat_lt, unwrap_or}
use Rattle.std.proofs.lemmas.Bool.{eqb-true}
use Rattle.std.proofs.lemmas.Option.{none-some, same_Some}
use Rattle.std.specs.List.{range_with_len}
use Rattle.std.proofs.lemmas.Bool.Decides.{nat_tests}
use Rattle.std.proofs.lemmas.List.FromFn.{map-range_with_len_more}
use Rattle.journal.specs.declared.entry.Entry.{Entry}
use Rattle.metric_window.specs.declared.row.Row.{Row}
use Rattle.metric_window.specs.KeptRows.{row_in}
use Rattle.metric_window.specs.Window.{window_start, window_end}
use Rattle.queue_core.specs.Messages.{created_time, rows_known}
use Rattle.queue_core.specs.Metrics.{told_row, metric_row, row_of, window_rows}

-- a row is of its own minute, wherever it comes from
found_minute : (rows : List Row) (minute : ℕ) (r : Row) → row_in rows minute ≡ Some r → r.minute ≡ minute
found_minute [] minute r h = absurd (none-some r h)
found_minute (x ∷ xs) minute r h = by_test (x.minute == minute) refl h (found_minute xs minute r)
  where
    by_test : (b : Bool) → (x.minute == minute) ≡ b → cond b (Some x) (row_in xs minute) ≡ Some r → (row_in xs minute ≡ Some r → r.minute ≡ minute) → r.minute ≡ minute
    by_test true e k rest = ap (λ (y : Row). y.minute) (sym (same_Some x r k)) ∙ eqb-true x.minute minute e
    by_test false e k rest = rest k

pub metric_row-minute : {C : Type 0} (size : C → ℕ) (lines : List (Entry C)) (minute : ℕ) → (metric_row size lines minute).minute ≡ minute
metric_row-minute size lines minute = by_row (row_in (rows_known lines) minute) refl
  where
    by_row : (o : Option Row) → row_in (rows_known lines) minute ≡ o → (unwrap_or o (told_row size lines minute)).minute ≡ minute
    by_row None e = refl
    by_row (Some r) e = found_minute (rows_known lines) minute r e

module _ {C : Type 0} (size : C → ℕ) (lines : List (Entry C)) (clock : ℕ) where
  abbrev pub first_minute : ℕ
  first_minute = window_start (created_time lines) clock

  -- the rows before a minute
  abbrev pub rows_until : ℕ → List Row
  rows_until minute = map (λ m. metric_row size lines m) (range_with_len first_minute (minute - first_minute))

  row-there : (minute : ℕ) → first_minute ≤ minute → minute < window_end clock → row_of size lines clock minute ≡ Some (metric_row size lines minute)
  row-there minute from until =
      let a : nat_le first_minute minute ≡ true = grind (arith, nat_tests) in
      let b : nat_lt minute (window_end clock) ≡ true = grind (arith, nat_tests) in
      rw (a, b) refl

  rows-more : (minute : ℕ) → first_minute ≤ minute → rows_until (minute + 1) ≡ rows_until minute ++ metric_row size lines minute ∷ []
  rows-more minute from =
      let next : (minute + 1) - first_minute ≡ (minute - first_minute) + 1 = omega arith in
      ap (λ (n : ℕ). map (λ m. metric_row size lines m) (range_with_len first_minute n)) next
      ∙ map-range_with_len_more (λ m. metric_row size lines m) first_minute (minute - first_minute) minute (omega arith)

  -- the row of one minute more
  pub rows-next : (minute : ℕ) (row : Row) (rows new : List Row) → first_minute ≤ minute → minute < window_end clock → row_of size lines clock minute ≡ Some row
      → rows ≡ rows_until minute → new ≡ rows ++ row ∷ [] → new ≡ rows_until (minute + 1)
  rows-next minute row rows new from until here h is =
      let same : metric_row size lines minute ≡ row = let there = row-there minute from until in cc in
      is ∙ ap (λ (l : List Row). l ++ row ∷ []) h ∙ sym (rows-more minute from ∙ ap (λ (r : Row). rows_until minute ++ r ∷ []) same)

  pub row-missing : (minute : ℕ) → first_minute ≤ minute → minute < window_end clock → row_of size lines clock minute ≡ None → ⊥
  row-missing minute from until none = let there = row-there minute from until in cc

  pub rows-all : (minute : ℕ) (rows : List Row) → window_end clock ≤ minute → minute - first_minute ≤ window_end clock - first_minute → rows ≡ rows_until minute
      → rows ≡ window_rows size lines clock
  rows-all minute rows past within h =
      let same : minute - first_minute ≡ window_end clock - first_minute = omega arith in
      h ∙ ap (λ (n : ℕ). map (λ m. metric_row size lines m) (range_with_len first_minute n)) same
