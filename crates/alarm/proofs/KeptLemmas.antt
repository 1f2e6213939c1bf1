-- What an alarm keeps of the minutes that it was told. `judged-more`, `kept-map`, `breaches-map` and `few-alike` are for whoever keeps alarms beside a journal.
use Rattle.std.proofs.Common.{◌≡◌, ℕ, ◌+◌, ◌-◌, ◌≤◌, Bool, true, false, cond, List, [], ◌∷◌, ◌++◌, map, length, drop, None, refl, sym, ap, ◌∙◌, arith, length-append}
use Rattle.std.specs.Prelude.{nat_lt, slice_get, if◌then◌else◌}
use Rattle.std.specs.Option.{option_to_list}
use Rattle.std.proofs.lemmas.Bool.Decides.{nat_tests}
use Rattle.std.proofs.lemmas.List.{append-nil, append_assoc, drop_all, drop-map, length-drop, length-map, map-append}
use Rattle.std.proofs.lemmas.List.Sums.{sum_by-cons, sum_by-append, count_by-le-length}
use Rattle.circular_buffer.specs.Buffer.{keep_last}
use Rattle.queue_config.specs.AlarmRules.{Rule}
use Rattle.metric_window.specs.declared.row.Row.{Row}
use Rattle.metric_window.proofs.KeptLemmas.{keep_last-again}
use Rattle.alarm.specs.AlarmState.{satisfies, breaches_in, state_with, alarm_state_of}
use Rattle.alarm.specs.KeptAlarm.{KeptAlarm, new_alarm, with_minutes, breaches_of, kept_state}

-- ---- the count of breaches

pub breaches_of-within : (judged : List Bool) → breaches_of judged ≤ length judged
breaches_of-within judged = count_by-le-length (λ (b : Bool). b) judged

pub one-within : (b : Bool) → breaches_of (b ∷ []) ≤ 1
one-within b = count_by-le-length (λ (x : Bool). x) (b ∷ [])

-- what is kept, and the one that goes where there are too many
given_up : (few : Bool) (k : ℕ) (judged : List Bool) → (few ≡ true → k ≡ 0) → (few ≡ false → k ≡ 1)
    → breaches_of judged ≡ breaches_of (drop k judged) + breaches_of (option_to_list (cond few None (slice_get judged 0)))
given_up true k judged none one = let is = none refl in rw is (omega arith)
given_up false k [] none one = let is = one refl in rw is refl
given_up false k (b ∷ judged) none one =
    let is = one refl in
    let all : breaches_of (b ∷ judged) ≡ cond b 1 0 + breaches_of judged = sum_by-cons (λ (x : Bool). cond x 1 0) b judged in
    let first : breaches_of (b ∷ []) ≡ cond b 1 0 + 0 = sum_by-cons (λ (x : Bool). cond x 1 0) b [] in
    rw is (omega arith)

pub breaches-kept : (minutes : ℕ) (judged : List Bool) (b : Bool) → length judged ≤ minutes
    → breaches_of judged + breaches_of (b ∷ [])
    ≡ breaches_of (keep_last minutes (judged ++ b ∷ [])) + breaches_of (option_to_list (if nat_lt (length judged) minutes then None else slice_get (judged ++ b ∷ []) 0))
breaches-kept minutes judged b within =
    let longer : length (judged ++ b ∷ []) ≡ length judged + 1 = length-append judged (b ∷ []) in
    sym (sum_by-append (λ (x : Bool). cond x 1 0) judged (b ∷ []))
    ∙ given_up (nat_lt (length judged) minutes) (length (judged ++ b ∷ []) - minutes) (judged ++ b ∷ []) (λ few. grind (arith, nat_tests)) (λ full. grind (arith, nat_tests))

-- ---- the minutes that it was told

module _ (rule : Rule) where
  abbrev pub is_breach : Row → Bool
  is_breach row = satisfies rule row

  abbrev pub kept_of : List Row → KeptAlarm
  kept_of rows = record { rule = rule; judged = keep_last rule.minutes (map is_breach rows) }

  -- one minute more
  pub judged-more : (rows : List Row) (row : Row)
      → keep_last rule.minutes (keep_last rule.minutes (map is_breach rows) ++ satisfies rule row ∷ []) ≡ keep_last rule.minutes (map is_breach (rows ++ row ∷ []))
  judged-more rows row =
      keep_last-again rule.minutes (map is_breach rows) (satisfies rule row) ∙ ap (keep_last rule.minutes) (sym (map-append is_breach rows (row ∷ [])))

  judged-all : (told rows : List Row) → with_minutes (kept_of told) rows ≡ kept_of (told ++ rows)
  judged-all told [] = ap kept_of (sym (append-nil told))
  judged-all told (row ∷ rows) =
      ap (λ (judged : List Bool). with_minutes (record { rule = rule; judged = judged }) rows) (judged-more told row)
      ∙ judged-all (told ++ row ∷ []) rows ∙ ap kept_of (append_assoc told (row ∷ []) rows)

  pub breaches-map : (rows : List Row) → breaches_of (map is_breach rows) ≡ breaches_in rule rows
  breaches-map [] = refl
  breaches-map (row ∷ rows) =
      sum_by-cons (λ (x : Bool). cond x 1 0) (satisfies rule row) (map is_breach rows)
      ∙ ap (λ (n : ℕ). cond (satisfies rule row) 1 0 + n) (breaches-map rows)
      ∙ sym (sum_by-cons (λ (r : Row). cond (satisfies rule r) 1 0) row rows)

  pub kept-map : (rows : List Row) → keep_last rule.minutes (map is_breach rows) ≡ map is_breach (keep_last rule.minutes rows)
  kept-map rows = ap (λ (n : ℕ). drop (n - rule.minutes) (map is_breach rows)) (length-map rows is_breach) ∙ drop-map is_breach (length rows - rule.minutes) rows

  pub few-alike : (all kept breaching : ℕ) → kept ≡ all - (all - rule.minutes) → state_with rule kept breaching ≡ state_with rule all breaching
  few-alike all kept breaching is =
      let same : nat_lt kept rule.minutes ≡ nat_lt all rule.minutes = grind (arith, nat_tests) in
      rw same refl

  pub state-kept : (rows : List Row) → kept_state (kept_of rows) ≡ alarm_state_of rule (length rows) (keep_last rule.minutes rows)
  state-kept rows =
      let longer : length (map is_breach rows) ≡ length rows = length-map rows is_breach in
      let kept : length (keep_last rule.minutes (map is_breach rows)) ≡ length (map is_breach rows) - (length (map is_breach rows) - rule.minutes) =
      length-drop (length (map is_breach rows) - rule.minutes) (map is_breach rows) in
      few-alike (length rows) (length (keep_last rule.minutes (map is_breach rows))) (breaches_of (keep_last rule.minutes (map is_breach rows))) (omega arith)
      ∙ ap (λ (n : ℕ). state_with rule (length rows) n) (ap breaches_of (kept-map rows) ∙ breaches-map (keep_last rule.minutes rows))

  pub state-told : (rows : List Row) → kept_state (with_minutes (new_alarm rule) rows) ≡ alarm_state_of rule (length rows) (keep_last rule.minutes rows)
  state-told rows =
      let none : keep_last rule.minutes [] ≡ [] = drop_all (0 - rule.minutes) [] (omega arith) in
      ap (λ (judged : List Bool). kept_state (with_minutes (record { rule = rule; judged = judged }) rows)) (sym none)
      ∙ ap kept_state (judged-all [] rows) ∙ state-kept rows
