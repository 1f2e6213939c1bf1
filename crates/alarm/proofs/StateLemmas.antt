-- What the states say, and counts of breaches.
use Rattle.std.proofs.Common.{◌≡◌, ℕ, ◌+◌, ◌≤◌, ◌<◌, Bool, true, false, not, cond, List, [], ◌∷◌, ◌++◌, length, refl, ap, arith}
use Rattle.std.specs.Prelude.{nat_le, nat_lt, if◌then◌else◌, IsTrue, ◌↔◌}
use Rattle.std.specs.List.{All}
use Rattle.std.proofs.lemmas.Bool.Decides.{nat_tests}
use Rattle.std.proofs.lemmas.List.Elements.{All-nil, All-cons}
use Rattle.std.proofs.lemmas.List.Sums.{sum_by-cons, sum_by-append, count_by-le-length}
use Rattle.queue_config.specs.AlarmRules.{Rule}
use Rattle.metric_window.specs.declared.row.Row.{Row}
use Rattle.alarm.specs.AlarmState.{satisfies, breaches_in, state_with, alarm_state_of}
use Rattle.alarm.specs.declared.state.AlarmState.{AlarmState}
use Rattle.alarm.specs.declared.state.AlarmState.TheVariants.{InsufficientData, Okay, Alarm}

-- ---- the three states

abbrev state_by : Bool → Bool → AlarmState
state_by few enough = if few then InsufficientData else if enough then Alarm else Okay

is_insufficient : (few enough : Bool) → state_by few enough ≡ InsufficientData → few ≡ true
is_insufficient true enough h = refl
is_insufficient false true h = absurd cc
is_insufficient false false h = absurd cc

is_alarm : (few enough : Bool) → state_by few enough ≡ Alarm → (few ≡ false) × (enough ≡ true)
is_alarm true enough h = absurd cc
is_alarm false true h = (refl, refl)
is_alarm false false h = absurd cc

is_okay : (few enough : Bool) → state_by few enough ≡ Okay → (few ≡ false) × (enough ≡ false)
is_okay true enough h = absurd cc
is_okay false true h = absurd cc
is_okay false false h = (refl, refl)

pub insufficient : (rule : Rule) (complete breaching : ℕ) → (state_with rule complete breaching ≡ InsufficientData) ↔ (complete < rule.minutes)
insufficient rule complete breaching = (
  λ h. let few = is_insufficient (nat_lt complete rule.minutes) (nat_le rule.breaches breaching) h in grind (arith, nat_tests),
  λ h. let few : nat_lt complete rule.minutes ≡ true = grind (arith, nat_tests) in rw few refl,
)

pub alarm : (rule : Rule) (complete breaching : ℕ) → (state_with rule complete breaching ≡ Alarm) ↔ ((rule.minutes ≤ complete) × (rule.breaches ≤ breaching))
alarm rule complete breaching = (
  λ h. let both = is_alarm (nat_lt complete rule.minutes) (nat_le rule.breaches breaching) h in
      let few = both.0 in
      let enough = both.1 in
      (grind (arith, nat_tests), grind (arith, nat_tests)),
  λ h. let some = h.0 in
      let most = h.1 in
      let few : nat_lt complete rule.minutes ≡ false = grind (arith, nat_tests) in
      let enough : nat_le rule.breaches breaching ≡ true = grind (arith, nat_tests) in
      rw (few, enough) refl,
)

pub okay : (rule : Rule) (complete breaching : ℕ) → (state_with rule complete breaching ≡ Okay) ↔ ((rule.minutes ≤ complete) × (breaching < rule.breaches))
okay rule complete breaching = (
  λ h. let both = is_okay (nat_lt complete rule.minutes) (nat_le rule.breaches breaching) h in
      let few = both.0 in
      let enough = both.1 in
      (grind (arith, nat_tests), grind (arith, nat_tests)),
  λ h. let some = h.0 in
      let most = h.1 in
      let few : nat_lt complete rule.minutes ≡ false = grind (arith, nat_tests) in
      let enough : nat_le rule.breaches breaching ≡ false = grind (arith, nat_tests) in
      rw (few, enough) refl,
)

pub more_breaches : (rule : Rule) (complete fewer more : ℕ) → fewer ≤ more → state_with rule complete fewer ≡ Alarm → state_with rule complete more ≡ Alarm
more_breaches rule complete fewer more h on =
    let both = (alarm rule complete fewer).0 on in
    let some = both.0 in
    let enough = both.1 in
    let still : rule.breaches ≤ more = omega arith in
    (alarm rule complete more).1 (some, still)

pub more_minutes : (rule : Rule) (earlier later breaching : ℕ) → earlier ≤ later → state_with rule earlier breaching ≡ Alarm → state_with rule later breaching ≡ Alarm
more_minutes rule earlier later breaching h on =
    let both = (alarm rule earlier breaching).0 on in
    let some = both.0 in
    let still : rule.minutes ≤ later = omega arith in
    (alarm rule later breaching).1 (still, both.1)

-- ---- operators

pub lt_not_le : (value threshold : ℕ) → nat_lt threshold value ≡ not (nat_le value threshold)
lt_not_le value threshold = grind (arith, nat_tests)

-- ---- breaches

pub in_parts : (rule : Rule) (rows more : List Row) → breaches_in rule (rows ++ more) ≡ breaches_in rule rows + breaches_in rule more
in_parts rule rows more = sum_by-append (λ (row : Row). cond (satisfies rule row) 1 0) rows more

pub in_any_order : (rule : Rule) (complete : ℕ) (rows more : List Row) → alarm_state_of rule complete (rows ++ more) ≡ alarm_state_of rule complete (more ++ rows)
in_any_order rule complete rows more =
    let one = in_parts rule rows more in
    let other = in_parts rule more rows in
    let same : breaches_in rule (rows ++ more) ≡ breaches_in rule (more ++ rows) = omega arith in
    ap (λ (n : ℕ). state_with rule complete n) same

one_of : (b : Bool) (n most : ℕ) → 1 + most ≤ cond b 1 0 + n → n ≤ most → (b ≡ true) × (most ≤ n)
one_of true n most h k = (refl, omega arith)
one_of false n most h k = absurd (omega arith)

each_one : (rule : Rule) (rows : List Row) → length rows ≤ breaches_in rule rows → All (λ row. IsTrue (satisfies rule row)) rows
each_one rule [] h = All-nil _
each_one rule (row ∷ rows) h =
    let sum : breaches_in rule (row ∷ rows) ≡ cond (satisfies rule row) 1 0 + breaches_in rule rows = sum_by-cons (λ (x : Row). cond (satisfies rule x) 1 0) row rows in
    let most = count_by-le-length (λ (x : Row). satisfies rule x) rows in
    let all : 1 + length rows ≤ cond (satisfies rule row) 1 0 + breaches_in rule rows = omega arith in
    let parts = one_of (satisfies rule row) (breaches_in rule rows) (length rows) all most in
    All-cons (λ (x : Row). IsTrue (satisfies rule x)) row rows parts.0 (each_one rule rows parts.1)

pub all_breaches : (rule : Rule) (complete : ℕ) (rows : List Row) → length rows ≤ rule.breaches → alarm_state_of rule complete rows ≡ Alarm
    → All (λ row. IsTrue (satisfies rule row)) rows
all_breaches rule complete rows few on =
    let both = (alarm rule complete (breaches_in rule rows)).0 on in
    let enough = both.1 in
    let all : length rows ≤ breaches_in rule rows = omega arith in
    each_one rule rows all
