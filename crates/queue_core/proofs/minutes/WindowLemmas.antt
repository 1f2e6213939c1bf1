-- The rows that an alarm looks at are rows of the window.
use Rattle.std.proofs.Common.{◌≡◌, ℕ, zero, suc, ◌+◌, ◌-◌, ◌<◌, ◌≤◌, Bool, true, cond, List, [], map, drop, length, Some, None, refl, sym, ap, subst, ◌∙◌, arith}
use Rattle.std.specs.List.{All, range_with_len}
use Rattle.std.proofs.lemmas.List.{drop_all, drop-map}
use Rattle.std.proofs.lemmas.List.Elements.{All-nil, All-cons, All-map}
use Rattle.std.proofs.lemmas.List.FromFn.{length-map-range_with_len}
use Rattle.std.proofs.lemmas.Bool.Decides.{nat_tests}
use Rattle.queue_config.specs.AlarmRules.{Rule, most_minutes}
use Rattle.message.specs.Content.{ContentText, content_size}
use Rattle.journal.specs.declared.entry.Entry.{Entry}
use Rattle.metric_window.specs.declared.row.Row.{Row}
use Rattle.metric_window.specs.Window.{window_start, window_end, is_in_window}
use Rattle.queue_core.specs.Messages.{created_time}
use Rattle.queue_core.specs.Metrics.{metric_row, row_of, window_rows, complete_minutes, last_rows}
use Rattle.queue_core.proofs.minutes.RowLemmas.{metric_row-minute}

-- ---- numbers one after another

-- behind the first k of them
range-behind : (first k count all : ℕ) → k + count ≡ all → drop k (range_with_len first all) ≡ range_with_len (first + k) count
range-behind first zero count all is =
    let same : all ≡ count = omega arith in
    let begin : first ≡ first + 0 = omega arith in
    ap (λ (n : ℕ). range_with_len first n) same ∙ ap (λ (a : ℕ). range_with_len a count) begin
range-behind first (suc k) count zero is = absurd (omega arith)
range-behind first (suc k) count (suc all) is =
    let begin : first + 1 + k ≡ first + suc k = omega arith in
    range-behind (first + 1) k count all (omega arith) ∙ ap (λ (a : ℕ). range_with_len a count) begin

all-range : (P : ℕ → Type 0) (first count : ℕ) → ((m : ℕ) → first ≤ m → m < first + count → P m) → All P (range_with_len first count)
all-range P first zero h = All-nil P
all-range P first (suc count) h =
    All-cons P first (range_with_len (first + 1) count) (h first (omega arith) (omega arith)) (all-range P (first + 1) count (λ m low high. h m (omega arith) (omega arith)))

-- ---- the window

behind-all : {X : Type 0} (xs : List X) → [] ≡ drop (length xs - 0) xs
behind-all xs = sym (drop_all (length xs - 0) xs (omega arith))

shown-if : (b : Bool) (r : Row) → b ≡ true → cond b (Some r) None ≡ Some r
shown-if b r h = rw h refl

module _ (lines : List (Entry ContentText)) (clock : ℕ) where
  abbrev row : ℕ → Row
  row m = metric_row content_size lines m

  abbrev start : ℕ
  start = window_start (created_time lines) clock

  abbrev size : ℕ
  size = window_end clock - start

  last : (minutes : ℕ) → minutes ≤ most_minutes → minutes ≤ complete_minutes lines clock
      → last_rows content_size lines clock minutes ≡ drop (length (window_rows content_size lines clock) - minutes) (window_rows content_size lines clock)
  last zero few over = behind-all (window_rows content_size lines clock)
  last (suc n) few over =
      let whole : (size - suc n) + suc n ≡ size = omega arith in
      let begin : start + (size - suc n) ≡ window_end clock - suc n = omega arith in
      sym (
      ap (λ (len : ℕ). drop (len - suc n) (window_rows content_size lines clock)) (length-map-range_with_len row start size)
      ∙ drop-map row (size - suc n) (range_with_len start size)
      ∙ ap (map row) (range-behind start (size - suc n) (suc n) size whole)
      ∙ ap (λ (first : ℕ). map row (range_with_len first (suc n))) begin
      )

  in_window : (minutes m : ℕ) → minutes ≤ most_minutes → minutes ≤ complete_minutes lines clock → window_end clock - minutes ≤ m → m < (window_end clock - minutes) + minutes
      → is_in_window (created_time lines) clock m ≡ true
  in_window minutes m few over low high =
      let after : start ≤ m = omega arith in
      let before : m < window_end clock = omega arith in
      grind (arith, nat_tests)

  pub last_of_window : (rule : Rule) → rule.minutes ≤ most_minutes → rule.minutes ≤ complete_minutes lines clock
      → last_rows content_size lines clock rule.minutes
      ≡ drop (length (window_rows content_size lines clock) - rule.minutes) (window_rows content_size lines clock)
  last_of_window rule few over = last rule.minutes few over

  pub last_shown : (rule : Rule) → rule.minutes ≤ most_minutes → rule.minutes ≤ complete_minutes lines clock
      → All (λ r. row_of content_size lines clock r.minute ≡ Some r) (last_rows content_size lines clock rule.minutes)
  last_shown rule few over =
      All-map (λ (r : Row). row_of content_size lines clock r.minute ≡ Some r) row (range_with_len (window_end clock - rule.minutes) rule.minutes)
      (all-range (λ m. row_of content_size lines clock (row m).minute ≡ Some (row m)) (window_end clock - rule.minutes) rule.minutes
      (λ m low high.
      subst (λ (k : ℕ). row_of content_size lines clock k ≡ Some (row m)) (sym (metric_row-minute content_size lines m)) (shown-if (is_in_window (created_time lines) clock m) (row m) (in_window rule.minutes m few over low high))))
