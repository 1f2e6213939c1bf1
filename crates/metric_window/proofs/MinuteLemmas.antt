-- The flows of a minute, entry by entry.
use Rattle.std.proofs.Common.{◌≡◌, ℕ, zero, suc, ◌+◌, ◌<◌, ◌≤◌, ◌≢◌, Bool, true, false, cond, eqb, List, [], ◌∷◌, ◌++◌, map, take, drop, length, Some, refl, sym, ap, ◌∙◌, arith, add-one}
use Rattle.std.specs.Prelude.{slice_get}
use Rattle.std.specs.List.{All, range_with_len}
use Rattle.std.proofs.lemmas.List.{map-append, take_all, drop_all}
use Rattle.std.proofs.lemmas.List.Elements.{All-head, All-tail, filter-append}
use Rattle.std.proofs.lemmas.Bool.Decides.{nat_tests}
use Rattle.journal.specs.declared.entry.Entry.{Entry}
use Rattle.journal.specs.declared.entry.Event.{Event}
use Rattle.journal.specs.declared.entry.Event.TheVariants.{Sent}
use Rattle.metric_window.specs.declared.flows.Flows.{Flows}
use Rattle.metric_window.specs.Flows.{no_flows, flows_of, added, total, capped, minute_of, entries_in, flows_total, minute_flows}
use Rattle.journal.specs.Mark.{mark_event, mark_of}
use Rattle.metric_window.proofs.FlowLemmas.{added-none, none-added, added-assoc, added-pairs, total-append, capped-added}

-- the flows of an entry, where it is in the minute
abbrev pub flows_if : Bool → Flows → Flows
flows_if b f = cond b f no_flows

module _ {C : Type 0} (size : C → ℕ) where
  pub flows_total-append : (xs ys : List (Entry C)) → flows_total size (xs ++ ys) ≡ added (flows_total size xs) (flows_total size ys)
  flows_total-append xs ys =
      ap total (map-append (λ (e : Entry C). flows_of size e.event) xs ys) ∙ total-append (map (λ e. flows_of size e.event) xs) (map (λ e. flows_of size e.event) ys)

  kept : (b : Bool) (e : Entry C) (es : List (Entry C)) → flows_total size (cond b (e ∷ es) es) ≡ added (flows_if b (flows_of size e.event)) (flows_total size es)
  kept true e es = refl
  kept false e es = sym (none-added (flows_total size es))

  pub flows_total-cons : (minute : ℕ) (e : Entry C) (es : List (Entry C))
      → flows_total size (entries_in minute (e ∷ es)) ≡ added (flows_if (eqb (minute_of e.at) minute) (flows_of size e.event)) (flows_total size (entries_in minute es))
  flows_total-cons minute e es = kept (eqb (minute_of e.at) minute) e (entries_in minute es)

  last_kept : (b : Bool) (f g : Flows) → capped (added f (added (flows_if b g) no_flows)) ≡ cond b (capped (added (capped f) g)) (capped f)
  last_kept true f g = ap (λ (x : Flows). capped (added f x)) (added-none g) ∙ sym (capped-added f g)
  last_kept false f g = ap (λ (x : Flows). capped (added f x)) (added-none no_flows) ∙ ap capped (added-none f)

  -- one entry more
  pub minute_flows-push : (lines : List (Entry C)) (e : Entry C) (minute : ℕ)
      → minute_flows size (lines ++ e ∷ []) minute
      ≡ cond (eqb (minute_of e.at) minute) (capped (added (minute_flows size lines minute) (flows_of size e.event))) (minute_flows size lines minute)
  minute_flows-push lines e minute =
      ap (λ (es : List (Entry C)). capped (flows_total size es)) (filter-append (λ (x : Entry C). eqb (minute_of x.at) minute) lines (e ∷ []))
      ∙ ap capped (flows_total-append (entries_in minute lines) (entries_in minute (e ∷ [])))
      ∙ ap (λ (f : Flows). capped (added (flows_total size (entries_in minute lines)) f)) (flows_total-cons minute e [])
      ∙ last_kept (eqb (minute_of e.at) minute) (flows_total size (entries_in minute lines)) (flows_of size e.event)

  take_one : (xs : List (Entry C)) (i : ℕ) (x : Entry C) → slice_get xs i ≡ Some x → take (i + 1) xs ≡ take i xs ++ x ∷ []
  take_one [] i x h = absurd cc
  take_one (y ∷ xs) zero x h = ap (λ (z : Entry C). z ∷ []) (let e : y ≡ x = cc in e)
  take_one (y ∷ xs) (suc i) x h = rw add-one (ap (λ (zs : List (Entry C)). y ∷ zs) (rw add-one at (take_one xs i x h)))

  -- one entry further on, for a loop that has counted those before a place
  pub minute_flows-take : (lines : List (Entry C)) (place : ℕ) (e : Entry C) (minute : ℕ) → slice_get lines place ≡ Some e
      → minute_flows size (take (place + 1) lines) minute
      ≡ cond (eqb (minute_of e.at) minute) (capped (added (minute_flows size (take place lines) minute) (flows_of size e.event))) (minute_flows size (take place lines) minute)
  minute_flows-take lines place e minute is =
      ap (λ (es : List (Entry C)). minute_flows size es minute) (take_one lines place e is) ∙ minute_flows-push (take place lines) e minute

  pub minute_flows-none : (minute : ℕ) → minute_flows size [] minute ≡ no_flows
  minute_flows-none minute = refl

  pub minute_flows-all : (lines : List (Entry C)) (place minute : ℕ) → length lines ≤ place → minute_flows size (take place lines) minute ≡ minute_flows size lines minute
  minute_flows-all lines place minute past = ap (λ (es : List (Entry C)). minute_flows size es minute) (take_all place lines past)

  drop_one : (xs : List (Entry C)) (i : ℕ) (x : Entry C) → slice_get xs i ≡ Some x → drop i xs ≡ x ∷ drop (i + 1) xs
  drop_one [] i x h = absurd cc
  drop_one (y ∷ xs) zero x h = ap (λ (z : Entry C). z ∷ xs) (let e : y ≡ x = cc in e)
  drop_one (y ∷ xs) (suc i) x h = rw add-one (rw add-one at (drop_one xs i x h))

  -- what is left to count from a place on, and at the end
  pub flows_total-drop : (lines : List (Entry C)) (place : ℕ) (e : Entry C) (minute : ℕ) → slice_get lines place ≡ Some e
      → flows_total size (entries_in minute (drop place lines))
      ≡ added (flows_if (eqb (minute_of e.at) minute) (flows_of size e.event)) (flows_total size (entries_in minute (drop (place + 1) lines)))
  flows_total-drop lines place e minute is =
      ap (λ (es : List (Entry C)). flows_total size (entries_in minute es)) (drop_one lines place e is) ∙ flows_total-cons minute e (drop (place + 1) lines)

  pub flows_total-end : (lines : List (Entry C)) (place minute : ℕ) → length lines ≤ place → flows_total size (entries_in minute (drop place lines)) ≡ no_flows
  flows_total-end lines place minute past = ap (λ (es : List (Entry C)). flows_total size (entries_in minute es)) (drop_all place lines past)

  -- a loop that counts from the front: what it has, capped, and what is left
  pub counted-here : (lines : List (Entry C)) (place : ℕ) (e : Entry C) (minute : ℕ) (f : Flows) → slice_get lines place ≡ Some e → eqb (minute_of e.at) minute ≡ true
      → capped (added (capped (added f (flows_of size e.event))) (flows_total size (entries_in minute (drop (place + 1) lines))))
      ≡ capped (added f (flows_total size (entries_in minute (drop place lines))))
  counted-here lines place e minute f is here =
      let later : Flows = flows_total size (entries_in minute (drop (place + 1) lines)) in
      capped-added (added f (flows_of size e.event)) later
      ∙ ap capped (added-assoc f (flows_of size e.event) later)
      ∙ ap (λ (b : Bool). capped (added f (added (flows_if b (flows_of size e.event)) later))) (sym here)
      ∙ ap (λ (x : Flows). capped (added f x)) (sym (flows_total-drop lines place e minute is))

  pub counted-elsewhere : (lines : List (Entry C)) (place : ℕ) (e : Entry C) (minute : ℕ) (f : Flows) → slice_get lines place ≡ Some e → eqb (minute_of e.at) minute ≡ false
      → capped (added f (flows_total size (entries_in minute (drop (place + 1) lines)))) ≡ capped (added f (flows_total size (entries_in minute (drop place lines))))
  counted-elsewhere lines place e minute f is here =
      let later : Flows = flows_total size (entries_in minute (drop (place + 1) lines)) in
      ap (λ (x : Flows). capped (added f x)) (sym (none-added later))
      ∙ ap (λ (b : Bool). capped (added f (added (flows_if b (flows_of size e.event)) later))) (sym here)
      ∙ ap (λ (x : Flows). capped (added f x)) (sym (flows_total-drop lines place e minute is))

  pub counted-all : (lines : List (Entry C)) (place minute : ℕ) (f : Flows) → length lines ≤ place
      → capped (added f (flows_total size (entries_in minute (drop place lines)))) ≡ capped f
  counted-all lines place minute f past = ap (λ (x : Flows). capped (added f x)) (flows_total-end lines place minute past) ∙ ap capped (added-none f)

-- ---- sizes for contents

module _ {C : Type 0} (size : C → ℕ) where
  flows_of-marks : (event : Event C) → flows_of (λ n. n) (mark_event size event) ≡ flows_of size event
  flows_of-marks (Sent delay content) = refl
  flows_of-marks event = refl

  flows_total-marks : (minute : ℕ) (es : List (Entry C)) → flows_total (λ n. n) (entries_in minute (map (mark_of size) es)) ≡ flows_total size (entries_in minute es)
  flows_total-marks minute [] = refl
  flows_total-marks minute (e ∷ es) =
      flows_total-cons (λ n. n) minute (mark_of size e) (map (mark_of size) es)
      ∙ ap (λ (f : Flows). added (flows_if (eqb (minute_of e.at) minute) f) (flows_total (λ n. n) (entries_in minute (map (mark_of size) es)))) (flows_of-marks e.event)
      ∙ ap (added (flows_if (eqb (minute_of e.at) minute) (flows_of size e.event))) (flows_total-marks minute es)
      ∙ sym (flows_total-cons size minute e es)

  pub minute_flows-marks : (lines : List (Entry C)) (minute : ℕ) → minute_flows (λ n. n) (map (mark_of size) lines) minute ≡ minute_flows size lines minute
  minute_flows-marks lines minute = ap capped (flows_total-marks minute lines)

-- ---- all minutes

none_of : {X : Type 0} (xs : List X) → total (map (λ x. no_flows) xs) ≡ no_flows
none_of [] = refl
none_of (x ∷ xs) = ap (added no_flows) (none_of xs) ∙ added-none no_flows

total-pairs : {X : Type 0} (f g : X → Flows) (xs : List X) → total (map (λ x. added (f x) (g x)) xs) ≡ added (total (map f xs)) (total (map g xs))
total-pairs f g [] = sym (added-none no_flows)
total-pairs f g (x ∷ xs) =
    ap (added (added (f x) (g x))) (total-pairs f g xs) ∙ added-pairs (f x) (g x) (total (map f xs)) (total (map g xs))

total-agree : {X : Type 0} (f g : X → Flows) → ((x : X) → f x ≡ g x) → (xs : List X) → total (map f xs) ≡ total (map g xs)
total-agree f g h [] = refl
total-agree f g h (x ∷ xs) = ap (λ (y : Flows). added y (total (map f xs))) (h x) ∙ ap (added (g x)) (total-agree f g h xs)

-- an entry stands in one of the minutes, or in none where its own is before them
missed : (k : ℕ) (f : Flows) (a n : ℕ) → k < a → total (map (λ m. flows_if (eqb k m) f) (range_with_len a n)) ≡ no_flows
missed k f a zero lt = refl
missed k f a (suc n) lt =
    let no : eqb k a ≡ false = grind (arith, nat_tests) in
    ap (λ (b : Bool). added (flows_if b f) (total (map (λ m. flows_if (eqb k m) f) (range_with_len (a + 1) n)))) no
    ∙ ap (added no_flows) (missed k f (a + 1) n (omega arith)) ∙ added-none no_flows

hit : (k : ℕ) (f : Flows) (a n : ℕ) (b : Bool) → eqb k a ≡ b → a ≤ k → k < a + n → total (map (λ m. flows_if (eqb k m) f) (range_with_len a n)) ≡ f
hit k f a zero b is le lt = absurd (omega arith)
hit k f a (suc n) true is le lt =
    let same : k ≡ a = grind (arith, nat_tests) in
    ap (λ (b : Bool). added (flows_if b f) (total (map (λ m. flows_if (eqb k m) f) (range_with_len (a + 1) n)))) is
    ∙ ap (added f) (missed k f (a + 1) n (omega arith)) ∙ added-none f
hit k f a (suc n) false is le lt =
    let other : k ≢ a = grind (arith, nat_tests) in
    ap (λ (b : Bool). added (flows_if b f) (total (map (λ m. flows_if (eqb k m) f) (range_with_len (a + 1) n)))) is
    ∙ none-added _ ∙ hit k f (a + 1) n (eqb k (a + 1)) refl (omega arith) (omega arith)

module _ {C : Type 0} (size : C → ℕ) where
  pub minutes-total : (first minutes : ℕ) (es : List (Entry C)) → All (λ e. (first ≤ minute_of e.at) × (minute_of e.at < first + minutes)) es
      → total (map (λ minute. flows_total size (entries_in minute es)) (range_with_len first minutes)) ≡ flows_total size es
  minutes-total first minutes [] all = none_of (range_with_len first minutes)
  minutes-total first minutes (e ∷ es) all =
      let within : (first ≤ minute_of e.at) × (minute_of e.at < first + minutes) = All-head (λ (x : Entry C). (first ≤ minute_of x.at) × (minute_of x.at < first + minutes)) e es all in
      total-agree (λ m. flows_total size (entries_in m (e ∷ es))) (λ m. added (flows_if (eqb (minute_of e.at) m) (flows_of size e.event)) (flows_total size (entries_in m es)))
      (λ m. flows_total-cons size m e es) (range_with_len first minutes)
      ∙ total-pairs (λ m. flows_if (eqb (minute_of e.at) m) (flows_of size e.event)) (λ m. flows_total size (entries_in m es)) (range_with_len first minutes)
      ∙ ap (λ (f : Flows). added f (total (map (λ m. flows_total size (entries_in m es)) (range_with_len first minutes))))
      (hit (minute_of e.at) (flows_of size e.event) first minutes (eqb (minute_of e.at) first) refl within.0 within.1)
      ∙ ap (added (flows_of size e.event)) (minutes-total first minutes es (All-tail (λ (x : Entry C). (first ≤ minute_of x.at) × (minute_of x.at < first + minutes)) e es all))
