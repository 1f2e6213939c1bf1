-- The alarms of a configuration are of its queues, few of each queue, and of distinct names there.
use Rattle.std.proofs.Common.{◌≡◌, ℕ, ◌+◌, ◌≤◌, ◌<◌, Bool, true, false, not, cond, List, [], ◌∷◌, ◌++◌, map, length, Option, Some, None, option_map, unwrap_or, Result, Ok, ok_or, refl, ap, sym, subst, ◌∙◌, arith}
use Rattle.std.specs.Prelude.{nat_lt, ◌==◌, ◌&&◌}
use Rattle.std.specs.List.{All, IsDistinct, AllByRecursion, filter, list_any, position_or_len}
use Rattle.std.specs.Result.{result_unwrap_or}
use Rattle.std.specs.Str.{bytes_eq}
use Rattle.std.proofs.Math.Logic.{◌⊎◌, inl, inr, ⊎_elim}
use Rattle.std.proofs.lemmas.Bool.{or_parts, eqb-true}
use Rattle.std.proofs.lemmas.Bool.Decides.{nat_tests}
use Rattle.std.proofs.lemmas.List.{append-nil, append_assoc}
use Rattle.std.proofs.lemmas.List.Elements.{All-nil, All-cons}
use Rattle.std.proofs.lemmas.List.Sums.{sum_by-cons}
use Rattle.std.proofs.lemmas.Slice.Eq.{bytes_eq-Decides}
use Rattle.queue_config.specs.AlarmRules.{Rule, most_alarms}
use Rattle.queue_config.specs.AlarmText.{alarms_of, have_too_many_alarms, is_same_alarm, have_equal_alarms, configured_alarm, configured_alarms}
use Rattle.queue_config.specs.Config.{configured_uid, rules_of}
use Rattle.queue_config.specs.private.Config.{AreAlarms}
use Rattle.queue_config.specs.ConfigKeys.{with_each}
use Rattle.queue_config.specs.declared.config.ConfiguredAlarm.{ConfiguredAlarm}
use Rattle.queue_config.specs.declared.config_fault.ConfigFault.{ConfigFault}
use Rattle.queue_config.specs.declared.requested_alarms.RequestedAlarm.{RequestedAlarm}
use Rattle.queue_config.proofs.ConfigLemmas.{bind_ok, found_ok, within}

-- ---- one uid stands for one name

-- two tests pass first at one place: there both pass, or both do in the rest
first_place : {R : Type 0} (x y : Bool) (p q l : ℕ) → cond (not x) (1 + p) 0 ≡ cond (not y) (1 + q) 0 → cond (not x) (1 + p) 0 < 1 + l
    → (x ≡ true → y ≡ true → R) → (p ≡ q → p < l → R) → R
first_place true true p q l same inside here rest = here refl refl
first_place true false p q l same inside here rest = absurd (omega arith)
first_place false true p q l same inside here rest = absurd (omega arith)
first_place false false p q l same inside here rest = rest (omega arith) (omega arith)

one_name : (names : List (List ℕ)) (a b : List ℕ) → position_or_len (λ other. bytes_eq a other) names ≡ position_or_len (λ other. bytes_eq b other) names
    → position_or_len (λ other. bytes_eq a other) names < length names → a ≡ b
one_name [] a b same inside = absurd (omega arith)
one_name (name ∷ names) a b same inside =
    let less : cond (not (bytes_eq a name)) (1 + position_or_len (λ other. bytes_eq a other) names) 0 < 1 + length names = omega arith in
    first_place (bytes_eq a name) (bytes_eq b name) _ _ (length names) same less
    (λ x y. (bytes_eq-Decides a name).0 x ∙ sym ((bytes_eq-Decides b name).0 y))
    (one_name names a b)

place_found : (b : Bool) (k uid : ℕ) → option_map (λ place. place + 1) (cond b (Some k) None) ≡ Some uid → (b ≡ true) × (k + 1 ≡ uid)
place_found true k uid h = (refl, ap (λ (o : Option ℕ). unwrap_or o 0) h)
place_found false k uid h = absurd cc

-- the place of the name, of which the uid is the next number
at_place : (names : List (List ℕ)) (a : List ℕ) (uid : ℕ) → configured_uid a names ≡ Some uid
    → (position_or_len (λ other. bytes_eq a other) names < length names) × (position_or_len (λ other. bytes_eq a other) names + 1 ≡ uid)
at_place names a uid h =
    let found = place_found (nat_lt (position_or_len (λ other. bytes_eq a other) names) (length names)) (position_or_len (λ other. bytes_eq a other) names) uid h in
    let test : nat_lt (position_or_len (λ other. bytes_eq a other) names) (length names) ≡ true = found.0 in
    (grind (arith, nat_tests), found.1)

same_name : (names : List (List ℕ)) (a b : List ℕ) (uid : ℕ) → configured_uid a names ≡ Some uid → configured_uid b names ≡ Some uid → a ≡ b
same_name names a b uid h k =
    let at_a = at_place names a uid h in
    let at_b = at_place names b uid k in
    let one = at_a.1 in
    let two = at_b.1 in
    one_name names a b (omega arith) at_a.0

-- ---- the alarms that are made

abbrev uid_of : List (List ℕ) → RequestedAlarm → ℕ
uid_of names alarm = unwrap_or (configured_uid alarm.queue names) 0

abbrev of_queue : ℕ → Rule → ConfiguredAlarm
of_queue uid rule = record { queue = uid; rule = rule }

abbrev made : List (List ℕ) → RequestedAlarm → ConfiguredAlarm
made names alarm = of_queue (uid_of names alarm) alarm.rule

abbrev IsFound : List (List ℕ) → RequestedAlarm → Type 0
IsFound names alarm = configured_uid alarm.queue names ≡ Some (uid_of names alarm)

alarms-made : (names : List (List ℕ)) (front : List ConfiguredAlarm) (rest : List RequestedAlarm) (rules : List ConfiguredAlarm)
    → with_each (λ (a : RequestedAlarm). configured_alarm names a) front rest ≡ Ok rules
    → (rules ≡ front ++ map (made names) rest) × AllByRecursion (IsFound names) rest
alarms-made names front [] rules h =
    let same : front ≡ rules = ap (λ (r : Result (List ConfiguredAlarm) ConfigFault). result_unwrap_or r front) h in
    (sym same ∙ sym (append-nil front), tt)
alarms-made names front (a ∷ rest) rules h =
    let step = bind_ok (configured_alarm names a) _ rules h in
    let inner = bind_ok (ok_or (configured_uid a.queue names) _) _ step.0 step.1 in
    let found : configured_uid a.queue names ≡ Some inner.0 = found_ok (configured_uid a.queue names) _ inner.0 inner.1 in
    let uid : uid_of names a ≡ inner.0 = ap (λ (o : Option ℕ). unwrap_or o 0) found in
    let given : ConfiguredAlarm = of_queue inner.0 a.rule in
    let is_given : made names a ≡ given = ap (λ (u : ℕ). of_queue u a.rule) uid in
    let same : given ≡ step.0 = ap (λ (r : Result ConfiguredAlarm ConfigFault). result_unwrap_or r given) inner.2 in
    let more = alarms-made names (front ++ step.0 ∷ []) rest rules step.2 in (
      more.0 ∙ append_assoc front (step.0 ∷ []) (map (made names) rest) ∙ ap (λ (x : ConfiguredAlarm). front ++ x ∷ map (made names) rest) (sym same ∙ sym is_given),
      (found ∙ ap (λ (u : ℕ). Some u) (sym uid), more.1),
    )

-- ---- each is of a queue

each-queue : (names : List (List ℕ)) (rest : List RequestedAlarm) → AllByRecursion (IsFound names) rest
    → All (λ (alarm : ConfiguredAlarm). (1 ≤ alarm.queue) × (alarm.queue ≤ length names)) (map (made names) rest)
each-queue names [] h = All-nil _
each-queue names (a ∷ rest) h =
    let place = at_place names a.queue (uid_of names a) h.0 in
    let inside = place.0 in
    let next = place.1 in
    let least : 1 ≤ uid_of names a = omega arith in
    let most : uid_of names a ≤ length names = omega arith in
    All-cons (λ (alarm : ConfiguredAlarm). (1 ≤ alarm.queue) × (alarm.queue ≤ length names)) (made names a) (map (made names) rest) (least, most) (each-queue names rest h.1)

-- ---- the rules of one queue

abbrev rules_made : List (List ℕ) → ℕ → List RequestedAlarm → List Rule
rules_made names uid alarms = rules_of (map (made names) alarms) uid

abbrev names_made : List (List ℕ) → ℕ → List RequestedAlarm → List (List ℕ)
names_made names uid alarms = map (λ (rule : Rule). rule.name) (rules_made names uid alarms)

-- an alarm of the queue that is not the same as this one of that queue has another name
other_name : (x y : Bool) → (x && y) ≡ false → x ≡ true → y ≡ false
other_name true y h e = h
other_name false y h e = absurd cc

others-apart : (names : List (List ℕ)) (uid : ℕ) (a : RequestedAlarm) (rest : List RequestedAlarm) → configured_uid a.queue names ≡ Some uid → AllByRecursion (IsFound names) rest
    → list_any (λ other. is_same_alarm a other) rest ≡ false → AllByRecursion (λ y. bytes_eq a.rule.name y ≡ false) (names_made names uid rest)
others-apart names uid a [] found all h = tt
others-apart names uid a (b ∷ rest) found all h =
    let parts = or_parts (is_same_alarm a b) (list_any (λ other. is_same_alarm a other) rest) h in
    by (uid_of names b == uid) refl parts.0 (others-apart names uid a rest found all.1 parts.1)
  where
    by : (t : Bool) → (uid_of names b == uid) ≡ t → is_same_alarm a b ≡ false → AllByRecursion (λ y. bytes_eq a.rule.name y ≡ false) (names_made names uid rest)
        → AllByRecursion (λ y. bytes_eq a.rule.name y ≡ false) (map (λ (rule : Rule). rule.name) (map (λ (alarm : ConfiguredAlarm). alarm.rule) (cond t (made names b ∷ filter (λ alarm. alarm.queue == uid) (map (made names) rest)) (filter (λ alarm. alarm.queue == uid) (map (made names) rest)))))
    by true e differ more =
        let here : configured_uid b.queue names ≡ Some uid = all.0 ∙ ap (λ (u : ℕ). Some u) (eqb-true (uid_of names b) uid e) in
        let one : a.queue ≡ b.queue = same_name names a.queue b.queue uid found here in
        (other_name (bytes_eq a.queue b.queue) (bytes_eq a.rule.name b.rule.name) differ ((bytes_eq-Decides a.queue b.queue).1 one), more)
    by false e differ more = more

names-apart : (names : List (List ℕ)) (uid : ℕ) (alarms : List RequestedAlarm) → AllByRecursion (IsFound names) alarms → have_equal_alarms alarms ≡ false
    → IsDistinct bytes_eq (names_made names uid alarms)
unfolding IsDistinct
names-apart names uid [] all h = tt
names-apart names uid (a ∷ rest) all h =
    let parts = or_parts (list_any (λ other. is_same_alarm a other) rest) (have_equal_alarms rest) h in
    by (uid_of names a == uid) refl parts.0 (names-apart names uid rest all.1 parts.1)
  where
    by : (t : Bool) → (uid_of names a == uid) ≡ t → list_any (λ other. is_same_alarm a other) rest ≡ false → IsDistinct bytes_eq (names_made names uid rest)
        → IsDistinct bytes_eq (map (λ (rule : Rule). rule.name) (map (λ (alarm : ConfiguredAlarm). alarm.rule) (cond t (made names a ∷ filter (λ alarm. alarm.queue == uid) (map (made names) rest)) (filter (λ alarm. alarm.queue == uid) (map (made names) rest)))))
    by true e differ more =
        let here : configured_uid a.queue names ≡ Some uid = all.0 ∙ ap (λ (u : ℕ). Some u) (eqb-true (uid_of names a) uid e) in
        (others-apart names uid a rest here all.1 differ, more)
    by false e differ more = more

-- ---- how many there are

abbrev one_if : Bool → ℕ
one_if b = cond b 1 0

counted : (b : Bool) → b ≡ true → 1 ≤ one_if b
counted true h = omega arith
counted false h = absurd cc

-- the rules of a queue are alarms of its name
few-of : (names : List (List ℕ)) (uid : ℕ) (queue : List ℕ) (rest : List RequestedAlarm) → configured_uid queue names ≡ Some uid → AllByRecursion (IsFound names) rest
    → length (rules_made names uid rest) ≤ alarms_of queue rest
few-of names uid queue [] found all = omega arith
few-of names uid queue (b ∷ rest) found all =
    by (uid_of names b == uid) refl (few-of names uid queue rest found all.1) (sum_by-cons (λ (alarm : RequestedAlarm). cond (bytes_eq queue alarm.queue) 1 0) b rest)
  where
    by : (t : Bool) → (uid_of names b == uid) ≡ t → length (rules_made names uid rest) ≤ alarms_of queue rest → alarms_of queue (b ∷ rest) ≡ one_if (bytes_eq queue b.queue) + alarms_of queue rest
        → length (map (λ (alarm : ConfiguredAlarm). alarm.rule) (cond t (made names b ∷ filter (λ alarm. alarm.queue == uid) (map (made names) rest)) (filter (λ alarm. alarm.queue == uid) (map (made names) rest)))) ≤ alarms_of queue (b ∷ rest)
    by true e less split =
        let here : configured_uid b.queue names ≡ Some uid = all.0 ∙ ap (λ (u : ℕ). Some u) (eqb-true (uid_of names b) uid e) in
        let one : queue ≡ b.queue = same_name names queue b.queue uid found here in
        let yes : 1 ≤ one_if (bytes_eq queue b.queue) = counted (bytes_eq queue b.queue) ((bytes_eq-Decides queue b.queue).1 one) in
        omega arith
    by false e less split = omega arith

-- of the alarms behind, none is of the queue, or the queue has few
none_or_few : (names : List (List ℕ)) (uid : ℕ) (alarms rest : List RequestedAlarm) → AllByRecursion (IsFound names) alarms → AllByRecursion (IsFound names) rest
    → list_any (λ alarm. nat_lt most_alarms (alarms_of alarm.queue alarms)) rest ≡ false
    → (length (rules_made names uid rest) ≡ 0) ⊎ (length (rules_made names uid alarms) ≤ most_alarms)
none_or_few names uid alarms [] all found h = inl refl
none_or_few names uid alarms (a ∷ rest) all found h =
    let parts = or_parts (nat_lt most_alarms (alarms_of a.queue alarms)) (list_any (λ alarm. nat_lt most_alarms (alarms_of alarm.queue alarms)) rest) h in
    by (uid_of names a == uid) refl parts.0 (none_or_few names uid alarms rest all found.1 parts.1)
  where
    by : (t : Bool) → (uid_of names a == uid) ≡ t → nat_lt most_alarms (alarms_of a.queue alarms) ≡ false
        → (length (rules_made names uid rest) ≡ 0) ⊎ (length (rules_made names uid alarms) ≤ most_alarms)
        → (length (map (λ (alarm : ConfiguredAlarm). alarm.rule) (cond t (made names a ∷ filter (λ alarm. alarm.queue == uid) (map (made names) rest)) (filter (λ alarm. alarm.queue == uid) (map (made names) rest)))) ≡ 0)
        ⊎ (length (rules_made names uid alarms) ≤ most_alarms)
    by true e few others =
        let here : configured_uid a.queue names ≡ Some uid = found.0 ∙ ap (λ (u : ℕ). Some u) (eqb-true (uid_of names a) uid e) in
        let most = within most_alarms (alarms_of a.queue alarms) few in
        let less = few-of names uid a.queue alarms here all in
        inr (omega arith)
    by false e few others = others

few-rules : (names : List (List ℕ)) (uid : ℕ) (alarms : List RequestedAlarm) → AllByRecursion (IsFound names) alarms → have_too_many_alarms alarms ≡ false
    → length (rules_made names uid alarms) ≤ most_alarms
few-rules names uid alarms all h =
    ⊎_elim (λ (none : length (rules_made names uid alarms) ≡ 0). omega arith) (λ (few : length (rules_made names uid alarms) ≤ most_alarms). few) (none_or_few names uid alarms alarms all all h)

-- ---- the whole

pub are_alarms : (names : List (List ℕ)) (alarms : List RequestedAlarm) (rules : List ConfiguredAlarm) → have_too_many_alarms alarms ≡ false → have_equal_alarms alarms ≡ false
    → configured_alarms names alarms ≡ Ok rules → AreAlarms (length names) rules
are_alarms names alarms rules few differ h =
    let found = alarms-made names [] alarms rules h in
    subst (λ (xs : List ConfiguredAlarm). AreAlarms (length names) xs) (sym found.0) (record {
      queues = each-queue names alarms found.1;
      names = λ uid. names-apart names uid alarms found.1 differ;
      few = λ uid. few-rules names uid alarms found.1 few;
    })
