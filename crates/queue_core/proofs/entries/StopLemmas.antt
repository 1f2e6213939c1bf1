-- Where a receive stops: at one place alone.
use Rattle.std.proofs.Common.{◌≡◌, ℕ, suc, ◌-◌, ◌<◌, Bool, true, false, not, cond, ◌||◌, eqb, List, [], ◌∷◌, ◌++◌, length, drop, refl, sym, ap, subst, ◌∙◌, inl, inr, arith}
use Rattle.std.specs.Prelude.{◌⊎◌, filter}
use Rattle.std.proofs.lemmas.Bool.{eqb-true, eq-eqb, or_cases}
use Rattle.std.proofs.lemmas.Bool.Decides.{nat_tests}
use Rattle.queue_core.specs.declared.facts.Candidate.{Candidate}
use Rattle.queue_core.specs.States.{receive_order}
use Rattle.queue_core.specs.Queue.{QueueHistory, offer_limit, most_departures, is_exhausted, scanned, scanned_candidates, offered_candidates, leaving_candidates}
use Rattle.queue_core.specs.Turns.{remaining_candidates}
use Rattle.queue_core.specs.Stops.{StopsBetween}
use Rattle.queue_core.proofs.OfferLemmas.{scan-stop, scan-leaving, scan-offered, go_on}

head_is : (x y : Candidate) (xs ys : List Candidate) → x ∷ xs ≡ y ∷ ys → x ≡ y
head_is x y xs ys e = cc

tail_is : (x y : Candidate) (xs ys : List Candidate) → x ∷ xs ≡ y ∷ ys → xs ≡ ys
tail_is x y xs ys e = cc

no_part : (before after : List Candidate) (c : Candidate) → [] ≡ before ++ c ∷ after → ⊥
no_part [] after c e = cc
no_part (y ∷ before) after c e = cc

or_true : (b : Bool) → (b || true) ≡ true
or_true true = refl
or_true false = refl

module _ (p : Candidate → Bool) where
  abbrev offers_of : List Candidate → ℕ
  offers_of xs = length (filter (λ c. not (p c)) xs)

  abbrev departures_of : List Candidate → ℕ
  departures_of xs = length (filter (λ c. p c) xs)

  -- the same of any list of candidates, and of what may be offered and may leave
  pub record Stops (offers departures : ℕ) (xs come rest : List Candidate) : Type 0 where
    pub order : come ++ rest ≡ xs
    pub fewer_offers : (before after : List Candidate) (c : Candidate) → come ≡ before ++ c ∷ after → offers_of before < offers
    pub fewer_departures : (before after : List Candidate) (c : Candidate) → come ≡ before ++ c ∷ after → departures_of before < departures
    pub enough : (after : List Candidate) (c : Candidate) → rest ≡ c ∷ after → (offers_of come ≡ offers) ⊎ (departures_of come ≡ departures)

  -- ---- one candidate less

  behind_leaving : (offers departures : ℕ) (x : Candidate) (xs come rest : List Candidate) → p x ≡ true
      → Stops offers departures (x ∷ xs) (x ∷ come) rest → Stops offers (departures - 1) xs come rest
  behind_leaving offers departures x xs come rest is s = record {
    order = tail_is x x (come ++ rest) xs s.order;
    fewer_offers = λ before after c e.
        (let h : offers_of before < offers = rw is at (s.fewer_offers (x ∷ before) after c (ap (λ (ys : List Candidate). x ∷ ys) e)) in omega arith);
    fewer_departures = λ before after c e.
        (let h : suc (departures_of before) < departures = rw is at (s.fewer_departures (x ∷ before) after c (ap (λ (ys : List Candidate). x ∷ ys) e)) in omega arith);
    enough = λ after c e. elim (s.enough after c e) [
      | inl all ↦ inl (let h : offers_of come ≡ offers = rw is at all in omega arith)
      | inr all ↦ inr (let h : suc (departures_of come) ≡ departures = rw is at all in omega arith)
    ];
  }

  behind_offered : (offers departures : ℕ) (x : Candidate) (xs come rest : List Candidate) → p x ≡ false
      → Stops offers departures (x ∷ xs) (x ∷ come) rest → Stops (offers - 1) departures xs come rest
  behind_offered offers departures x xs come rest is s = record {
    order = tail_is x x (come ++ rest) xs s.order;
    fewer_offers = λ before after c e.
        (let h : suc (offers_of before) < offers = rw is at (s.fewer_offers (x ∷ before) after c (ap (λ (ys : List Candidate). x ∷ ys) e)) in omega arith);
    fewer_departures = λ before after c e.
        (let h : departures_of before < departures = rw is at (s.fewer_departures (x ∷ before) after c (ap (λ (ys : List Candidate). x ∷ ys) e)) in omega arith);
    enough = λ after c e. elim (s.enough after c e) [
      | inl all ↦ inl (let h : suc (offers_of come) ≡ offers = rw is at all in omega arith)
      | inr all ↦ inr (let h : departures_of come ≡ departures = rw is at all in omega arith)
    ];
  }

  -- ---- one place alone

  starts : (offers departures : ℕ) (x : Candidate) (xs come rest : List Candidate) → Stops offers departures xs (x ∷ come) rest
      → (eqb offers 0 || eqb departures 0) ≡ false
  starts offers departures x xs come rest s =
      let some : 0 < offers = s.fewer_offers [] come x refl in
      let others : 0 < departures = s.fewer_departures [] come x refl in
      go_on p offers departures (λ e. omega arith) (λ e. omega arith)

  stopped : (offers departures : ℕ) → (0 ≡ offers) ⊎ (0 ≡ departures) → (eqb offers 0 || eqb departures 0) ≡ true
  stopped offers departures (inl is) = rw (eq-eqb offers 0 (sym is)) refl
  stopped offers departures (inr is) = rw (eq-eqb departures 0 (sym is)) (or_true (eqb offers 0))

  only_leaving : (offers departures : ℕ) (x : Candidate) (xs come rest : List Candidate) → p x ≡ true → Stops offers departures (x ∷ xs) (x ∷ come) rest
      → scanned p offers (departures - 1) xs ≡ come → scanned p offers departures (x ∷ xs) ≡ x ∷ come
  only_leaving offers departures x xs come rest is s h =
      scan-leaving p offers departures x xs (starts offers departures x (x ∷ xs) come rest s) is ∙ ap (λ (ys : List Candidate). x ∷ ys) h

  only_offered : (offers departures : ℕ) (x : Candidate) (xs come rest : List Candidate) → p x ≡ false → Stops offers departures (x ∷ xs) (x ∷ come) rest
      → scanned p (offers - 1) departures xs ≡ come → scanned p offers departures (x ∷ xs) ≡ x ∷ come
  only_offered offers departures x xs come rest is s h =
      scan-offered p offers departures x xs (starts offers departures x (x ∷ xs) come rest s) is ∙ ap (λ (ys : List Candidate). x ∷ ys) h

  pub only_stop : (offers departures : ℕ) (xs come rest : List Candidate) → Stops offers departures xs come rest → scanned p offers departures xs ≡ come
  only_stop offers departures [] [] rest s = refl
  only_stop offers departures [] (y ∷ come) rest s = absurd (let e = s.order in cc)
  only_stop offers departures (x ∷ xs) [] rest s = scan-stop p offers departures (x ∷ xs) (stopped offers departures (s.enough xs x s.order))
  only_stop offers departures (x ∷ xs) (y ∷ come) rest s =
      subst (λ (z : Candidate). scanned p offers departures (x ∷ xs) ≡ z ∷ come) (sym same)
      (only_at (p x) refl (λ s. only_stop offers (departures - 1) xs come rest s) (λ s. only_stop (offers - 1) departures xs come rest s)) where
        same : y ≡ x
        same = head_is y x (come ++ rest) xs s.order

        first : Stops offers departures (x ∷ xs) (x ∷ come) rest
        first = subst (λ (z : Candidate). Stops offers departures (x ∷ xs) (z ∷ come) rest) same s

        only_at : (b : Bool) → p x ≡ b → (Stops offers (departures - 1) xs come rest → scanned p offers (departures - 1) xs ≡ come)
            → (Stops (offers - 1) departures xs come rest → scanned p (offers - 1) departures xs ≡ come) → scanned p offers departures (x ∷ xs) ≡ x ∷ come
        only_at true is one other = only_leaving offers departures x xs come rest is first (one (behind_leaving offers departures x xs come rest is first))
        only_at false is one other = only_offered offers departures x xs come rest is first (other (behind_offered offers departures x xs come rest is first))

  -- ---- and a scan stops there

  none_before : (offers departures : ℕ) (xs : List Candidate) → (0 ≡ offers) ⊎ (0 ≡ departures) → Stops offers departures xs [] xs
  none_before offers departures xs h = record {
    order = refl;
    fewer_offers = λ before after c e. absurd (no_part before after c e);
    fewer_departures = λ before after c e. absurd (no_part before after c e);
    enough = λ after c e. h;
  }

  nothing_there : (offers departures : ℕ) → Stops offers departures [] [] []
  nothing_there offers departures = record {
    order = refl;
    fewer_offers = λ before after c e. absurd (no_part before after c e);
    fewer_departures = λ before after c e. absurd (no_part before after c e);
    enough = λ after c e. absurd cc;
  }

  -- what holds before each part of a list holds before each part of one with one more in front
  before_one_more : (count : List Candidate → ℕ) (most less : ℕ) (x : Candidate) (come : List Candidate) → count [] < most
      → ((before : List Candidate) → count before < less → count (x ∷ before) < most)
      → ((before after : List Candidate) (c : Candidate) → come ≡ before ++ c ∷ after → count before < less)
      → (before after : List Candidate) (c : Candidate) → x ∷ come ≡ before ++ c ∷ after → count before < most
  before_one_more count most less x come first more h [] after c e = first
  before_one_more count most less x come first more h (y ∷ before) after c e =
      subst (λ (z : Candidate). count (z ∷ before) < most) (head_is x y come (before ++ c ∷ after) e)
      (more before (h before after c (tail_is x y come (before ++ c ∷ after) e)))

  one_leaves : (offers departures : ℕ) (x : Candidate) (xs come rest : List Candidate) → p x ≡ true → 0 < offers → 0 < departures
      → Stops offers (departures - 1) xs come rest → Stops offers departures (x ∷ xs) (x ∷ come) rest
  one_leaves offers departures x xs come rest is some others s = record {
    order = ap (λ (ys : List Candidate). x ∷ ys) s.order;
    fewer_offers = before_one_more offers_of offers offers x come some (λ before h. rw is (omega arith)) s.fewer_offers;
    fewer_departures = before_one_more departures_of departures (departures - 1) x come others (λ before h. rw is (omega arith)) s.fewer_departures;
    enough = λ after c e. elim (s.enough after c e) [
      | inl all ↦ inl (rw is (omega arith))
      | inr all ↦ inr (rw is (omega arith))
    ];
  }

  one_offered : (offers departures : ℕ) (x : Candidate) (xs come rest : List Candidate) → p x ≡ false → 0 < offers → 0 < departures
      → Stops (offers - 1) departures xs come rest → Stops offers departures (x ∷ xs) (x ∷ come) rest
  one_offered offers departures x xs come rest is some others s = record {
    order = ap (λ (ys : List Candidate). x ∷ ys) s.order;
    fewer_offers = before_one_more offers_of offers (offers - 1) x come some (λ before h. rw is (omega arith)) s.fewer_offers;
    fewer_departures = before_one_more departures_of departures departures x come others (λ before h. rw is (omega arith)) s.fewer_departures;
    enough = λ after c e. elim (s.enough after c e) [
      | inl all ↦ inl (rw is (omega arith))
      | inr all ↦ inr (rw is (omega arith))
    ];
  }

  reached_one : (offers departures : ℕ) → (eqb offers 0 || eqb departures 0) ≡ true → (0 ≡ offers) ⊎ (0 ≡ departures)
  reached_one offers departures h = elim (or_cases (eqb offers 0) (eqb departures 0) h) [
    | inl is ↦ inl (sym (eqb-true offers 0 is))
    | inr is ↦ inr (sym (eqb-true departures 0 is))
  ]

  offers_left : (offers departures : ℕ) → (eqb offers 0 || eqb departures 0) ≡ false → 0 < offers
  offers_left offers departures h = grind (arith, nat_tests)

  departures_left : (offers departures : ℕ) → (eqb offers 0 || eqb departures 0) ≡ false → 0 < departures
  departures_left offers departures h = grind (arith, nat_tests)

  abbrev behind : List Candidate → List Candidate → List Candidate
  behind come xs = drop (length come) xs

  stops_at : (stop last : Bool) (offers departures : ℕ) (x : Candidate) (xs one other : List Candidate) → (eqb offers 0 || eqb departures 0) ≡ stop → p x ≡ last
      → Stops offers (departures - 1) xs one (behind one xs) → Stops (offers - 1) departures xs other (behind other xs)
      → Stops offers departures (x ∷ xs) (cond stop [] (x ∷ cond last one other)) (behind (cond stop [] (x ∷ cond last one other)) (x ∷ xs))
  stops_at true last offers departures x xs one other s l h k = none_before offers departures (x ∷ xs) (reached_one offers departures s)
  stops_at false true offers departures x xs one other s l h k =
      one_leaves offers departures x xs one (behind one xs) l (offers_left offers departures s) (departures_left offers departures s) h
  stops_at false false offers departures x xs one other s l h k =
      one_offered offers departures x xs other (behind other xs) l (offers_left offers departures s) (departures_left offers departures s) k

  pub scan_stops : (offers departures : ℕ) (xs : List Candidate) → Stops offers departures xs (scanned p offers departures xs) (behind (scanned p offers departures xs) xs)
  scan_stops offers departures [] = nothing_there offers departures
  scan_stops offers departures (x ∷ xs) =
      stops_at (eqb offers 0 || eqb departures 0) (p x) offers departures x xs (scanned p offers (departures - 1) xs) (scanned p (offers - 1) departures xs) refl refl
      (scan_stops offers (departures - 1) xs) (scan_stops (offers - 1) departures xs)

-- ---- a queue

module _ (q : QueueHistory) (maximum : ℕ) where
  pub receive_stops : StopsBetween q maximum (scanned_candidates q maximum) (remaining_candidates q maximum)
  receive_stops =
      let s = scan_stops (λ c. is_exhausted q c) (offer_limit q maximum) most_departures (receive_order q.lines q.clock) in
      record { order = s.order; fewer_offers = s.fewer_offers; fewer_departures = s.fewer_departures; enough = s.enough }

  pub stops_there : (come rest : List Candidate) → StopsBetween q maximum come rest → scanned_candidates q maximum ≡ come
  stops_there come rest s =
      only_stop (λ c. is_exhausted q c) (offer_limit q maximum) most_departures (receive_order q.lines q.clock) come rest
      (record { order = s.order; fewer_offers = s.fewer_offers; fewer_departures = s.fewer_departures; enough = s.enough })

  pub offers_there : (come rest : List Candidate) → StopsBetween q maximum come rest → offered_candidates q maximum ≡ filter (λ c. not (is_exhausted q c)) come
  offers_there come rest s = ap (λ (cs : List Candidate). filter (λ c. not (is_exhausted q c)) cs) (stops_there come rest s)

  pub leaves_there : (come rest : List Candidate) → StopsBetween q maximum come rest → leaving_candidates q maximum ≡ filter (λ c. is_exhausted q c) come
  leaves_there come rest s = ap (λ (cs : List Candidate). filter (λ c. is_exhausted q c) cs) (stops_there come rest s)
