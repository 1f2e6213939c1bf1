-- No journal accepts a transfer twice: the key of a transfer is once at most among all that a journal accepts, also where one entry accepts several.
use Rattle.std.proofs.Common.{◌≡◌, ℕ, ◌+◌, ◌≤◌, Bool, true, false, ◌&&◌, ◌||◌, cond, List, [], ◌∷◌, ◌++◌, refl, sym, ap, subst, ◌∙◌, arith, eqb-true}
use Rattle.std.specs.Prelude.{count_by, nat_eq, ◌==◌}
use Rattle.std.specs.List.{list_any}
use Rattle.std.proofs.lemmas.Bool.{and_parts, or_parts, false≢true}
use Rattle.std.proofs.lemmas.Grind.{flat_map-append}
use Rattle.std.proofs.lemmas.List.{append-nil}
use Rattle.std.proofs.lemmas.List.Sums.{sum_by-append, sum_by-cons}
use Rattle.std.proofs.lemmas.List.Folds.{list_any-append}
use Rattle.message.specs.Content.{ContentText}
use Rattle.journal.specs.declared.base.TransferKey.{TransferKey}
use Rattle.journal.specs.declared.entry.Event.{Event}
use Rattle.journal.specs.declared.entry.Event.TheVariants.{Opened, Arrived, Closed, Base}
use Rattle.queue_core.specs.Messages.{effect_of, key_of, accepts, has_accepted}
use Rattle.queue_core.specs.Accepted.{accepted_keys}
use Rattle.queue_core.proofs.PushLemmas.{or_false}
use Rattle.redrive.proofs.transfers.Journals.{Line, Lines, more}
use Rattle.redrive.proofs.transfers.Views.{View, IsStep, Grows, IsOpened, Change, Stays, Steps, Opens, Closes, by_growth}

abbrev pub is_key : ℕ → ℕ → TransferKey → Bool
is_key s n key = (key.uid == s) && (key.number == n)

-- how often the transfer is among these
abbrev key_count : List TransferKey → ℕ → ℕ → ℕ
key_count keys s n = count_by (is_key s n) keys

none-counted : (p : TransferKey → Bool) (xs : List TransferKey) → list_any p xs ≡ false → count_by p xs ≡ 0
none-counted p [] h = refl
none-counted p (x ∷ xs) h =
    let k = or_parts (p x) (list_any p xs) h in
    sum_by-cons (λ y. cond (p y) 1 0) x xs ∙ (ap (λ b. cond b 1 0 + count_by p xs) k.0 ∙ (let rest : count_by p xs ≡ 0 = none-counted p xs k.1 in omega arith))

keys-more : (lines : Lines) (e : Line) → accepted_keys (more lines e) ≡ accepted_keys lines ++ (effect_of e.event).accepted
keys-more lines e =
    flat_map-append (λ (x : Line). (effect_of x.event).accepted) lines (e ∷ []) ∙ ap (λ (ks : List TransferKey). accepted_keys lines ++ ks) (append-nil (effect_of e.event).accepted)

module _ (s n : ℕ) where
  -- whether a journal has accepted it is whether it is among all that the journal accepts
  keys-accepted : (lines : Lines) → list_any (is_key s n) (accepted_keys lines) ≡ has_accepted lines s n
  keys-accepted [] = refl
  keys-accepted (e ∷ es) = list_any-append (is_key s n) (effect_of e.event).accepted (accepted_keys es) ∙ ap (λ (b : Bool). accepts s n e.event || b) (keys-accepted es)

-- the key of each transfer is once at most among all that each journal accepts
abbrev pub IsOnce : View → Type 0
IsOnce v = (u s n : ℕ) → key_count (accepted_keys (v.lines u)) s n ≤ 1

-- an event accepts it once at most
abbrev IsFew : Event ContentText → ℕ → ℕ → Type 0
IsFew event s n = key_count (effect_of event).accepted s n ≤ 1

module _ (lines : Lines) (e : Line) (s n : ℕ) where
  count-more : key_count (accepted_keys (more lines e)) s n ≡ key_count (accepted_keys lines) s n + key_count (effect_of e.event).accepted s n
  count-more = ap (λ (ks : List TransferKey). key_count ks s n) (keys-more lines e) ∙ sum_by-append (λ y. cond (is_key s n y) 1 0) (accepted_keys lines) (effect_of e.event).accepted

  once-by : (b : Bool) → accepts s n e.event ≡ b → key_count (accepted_keys lines) s n ≤ 1 → (accepts s n e.event ≡ true → IsFew e.event s n × (has_accepted lines s n ≡ false))
      → key_count (accepted_keys (more lines e)) s n ≤ 1
  once-by true h once first =
      let none : key_count (accepted_keys lines) s n ≡ 0 = none-counted (is_key s n) (accepted_keys lines) (keys-accepted s n lines ∙ (first h).1) in
      let own : key_count (effect_of e.event).accepted s n ≤ 1 = (first h).0 in
      let count = count-more in
      omega arith
  once-by false h once first =
      let count = count-more in
      let no : key_count (effect_of e.event).accepted s n ≡ 0 = none-counted (is_key s n) (effect_of e.event).accepted h in
      omega arith

  once-more : key_count (accepted_keys lines) s n ≤ 1 → (accepts s n e.event ≡ true → IsFew e.event s n × (has_accepted lines s n ≡ false)) → key_count (accepted_keys (more lines e)) s n ≤ 1
  once-more = once-by (accepts s n e.event) refl

-- ---- a step

one-key : (key : TransferKey) (s n : ℕ) → key_count (key ∷ []) s n ≤ 1
one-key key s n = by_test (is_key s n key) refl
  where
    by_test : (b : Bool) → is_key s n key ≡ b → key_count (key ∷ []) s n ≤ 1
    by_test b e =
        let count : key_count (key ∷ []) s n ≡ cond {A = ℕ} (is_key s n key) 1 0 + 0 = sum_by-cons (λ y. cond (is_key s n y) 1 0) key [] in
        let at : cond {A = ℕ} (is_key s n key) 1 0 ≤ 1 = few b e in
        omega arith
      where
        few : (b : Bool) → is_key s n key ≡ b → cond {A = ℕ} (is_key s n key) 1 0 ≤ 1
        few true e = let one : cond {A = ℕ} (is_key s n key) 1 0 ≡ 1 = ap (λ b. cond {A = ℕ} b 1 0) e in omega arith
        few false e = let no : cond {A = ℕ} (is_key s n key) 1 0 ≡ 0 = ap (λ b. cond {A = ℕ} b 1 0) e in omega arith

accept-first : (v : View) (u : ℕ) (event : Event ContentText) (s n : ℕ) → IsStep v u event → accepts s n event ≡ true → IsFew event s n × (has_accepted (v.lines u) s n ≡ false)
accept-first v u (Arrived origin content) s n step h =
    let k = and_parts (nat_eq origin.uid s) (nat_eq origin.number n) (sym (or_false (nat_eq origin.uid s && nat_eq origin.number n)) ∙ h) in (
      one-key (key_of origin) s n,
      subst (λ (i : ℕ). has_accepted (v.lines u) i n ≡ false) (eqb-true origin.uid s k.0)
          (subst (λ (i : ℕ). has_accepted (v.lines u) origin.uid i ≡ false) (eqb-true origin.number n k.1) step.unaccepted),
    )
accept-first v u (Base base) s n step h = absurd step
accept-first v u event s n step h = absurd (false≢true h)

never-accepts : (event opening : Event ContentText) (s n : ℕ) (b : Bool) → event ≡ opening → accepts s n opening ≡ b → accepts s n event ≡ b
never-accepts event opening s n b e h = ap (accepts s n) e ∙ h

module _ (v v' : View) where
  once-grown : (u : ℕ) (e : Line) → Grows v v' u e → ((s n : ℕ) → accepts s n e.event ≡ true → IsFew e.event s n × (has_accepted (v.lines u) s n ≡ false)) → IsOnce v → IsOnce v'
  once-grown u e g first once w s n =
      by_growth v v' u e g (λ one other. key_count (accepted_keys one) s n ≤ 1 → key_count (accepted_keys other) s n ≤ 1) (λ h. once-more (v.lines u) e s n h (first s n)) (λ ls h. h) w (once w s n)

  pub once-opened : (u : ℕ) (e : Line) → Grows v v' u e → IsOpened v v' u e → IsOnce v → IsOnce v'
  once-opened u e g o once =
      once-grown u e g (λ s n h. absurd (false≢true (sym (never-accepts e.event (Opened u o.settings) s n false o.opening refl) ∙ h))) once

  pub once-after : {ending : ℕ → Type 0} → Change ending v v' → IsOnce v → IsOnce v'
  once-after (Stays lines gates) once = λ u s n. subst (λ (ls : Lines). key_count (accepted_keys ls) s n ≤ 1) (sym (lines u)) (once u s n)
  once-after (Steps u e g gates there step) once = once-grown u e g (λ s n. accept-first v u e.event s n step) once
  once-after (Opens u e g o) once = once-opened u e g o once
  once-after (Closes u e g c ends) once = once-grown u e g (λ s n h. absurd (false≢true (sym (never-accepts e.event Closed s n false c.closing refl) ∙ h))) once
