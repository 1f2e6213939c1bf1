-- Pairs by place and the map of their places: what an edit of both leaves.
use Rattle.std.proofs.Common.{◌≡◌, ◌≢◌, ℕ, ◌+◌, ◌<◌, List, [], ◌∷◌, ◌++◌, length, set, Option, Some, None, IfSome, IfNone, is_some, true, false, refl, sym, ap, ◌∙◌, subst, inl, inr, arith, length-append}
use Rattle.std.specs.FinMap.{FinMap, get, get-empty}
use Rattle.std.specs.FinMap as finite
use Rattle.std.specs.Ordering.{nat_cmp}
use Rattle.std.proofs.lemmas.Bool.{cases_eq}
use Rattle.std.proofs.lemmas.List.{get_or_append_left, get_or_push, get_or-set_same, get_or-set_other, length-set}
use Rattle.deadline_heap.specs.private.Placed.{number_at, HasDistinctNumbers, LacksNumber, HasNumberAt, IsPlaced}
use Rattle.deadline_heap.proofs.HeapOrder.{IsExchanged}
use Rattle.deadline_heap.proofs.Keyed.{none_some, some_same, get_inserted, get_inserted_other, get_removed, get_removed_other}

pub distinct_placed : (xs : List (ℕ × ℕ)) (m : FinMap nat_cmp ℕ) → IsPlaced xs m → HasDistinctNumbers xs
distinct_placed xs m at i j d h g is = some_same i j (get m (number_at xs i d)) (at.there i d h) (subst (λ (n : ℕ). get m n ≡ Some j) (sym is) (at.there j d g))

pub lacks_none : (xs : List (ℕ × ℕ)) (m : FinMap nat_cmp ℕ) (n : ℕ) → IsPlaced xs m → get m n ≡ None → LacksNumber xs n
lacks_none xs m n at none i d h is = none_some i (get m n) (subst (λ (q : ℕ). get m q ≡ Some i) is (at.there i d h)) none

pub placed_none : (xs : List (ℕ × ℕ)) (m : FinMap nat_cmp ℕ) → length xs ≡ 0 → m ≡ finite.empty → IsPlaced xs m
placed_none xs m e f = record {
  there = λ i d h. absurd (omega arith);
  back = λ q i is. absurd (none_some i (get m q) is (ap (λ (o : FinMap nat_cmp ℕ). get o q) f ∙ get-empty nat_cmp q));
}

pub found_of : (xs : List (ℕ × ℕ)) (m : FinMap nat_cmp ℕ) (n : ℕ) (r : Option ℕ) → IsPlaced xs m → r ≡ get m n → IfSome r (HasNumberAt xs n)
found_of xs m n (Some i) at e = at.back n i (sym e)
found_of xs m n None at e = tt

pub absent_of : (xs : List (ℕ × ℕ)) (m : FinMap nat_cmp ℕ) (n : ℕ) (r : Option ℕ) → IsPlaced xs m → r ≡ get m n → IfNone r (LacksNumber xs n)
absent_of xs m n (Some i) at e = tt
absent_of xs m n None at e = lacks_none xs m n at (sym e)

pub none_lacking : (xs : List (ℕ × ℕ)) (m : FinMap nat_cmp ℕ) (n : ℕ) → IsPlaced xs m → LacksNumber xs n → get m n ≡ None
none_lacking xs m n at lacks = elim (get m n) as (λ r. get m n ≡ r → r ≡ None) [
  | Some i ↦ λ is. let there = at.back n i is in absurd (lacks i (0, 0) there.within (there.number_is (0, 0)))
  | None ↦ λ _. refl
] refl

-- whether a number has a place
pub is_some_lacking : (xs : List (ℕ × ℕ)) (m : FinMap nat_cmp ℕ) (n : ℕ) → IsPlaced xs m → LacksNumber xs n → is_some (get m n) ≡ false
is_some_lacking xs m n at lacks = ap (λ (r : Option ℕ). is_some r) (none_lacking xs m n at lacks)

pub is_some_there : (xs : List (ℕ × ℕ)) (m : FinMap nat_cmp ℕ) (n i : ℕ) → IsPlaced xs m → HasNumberAt xs n i → is_some (get m n) ≡ true
is_some_there xs m n i at here =
    ap (λ (r : Option ℕ). is_some r) (subst (λ (q : ℕ). get m q ≡ Some i) (here.number_is (0, 0)) (at.there i (0, 0) here.within))

-- a number that has a place has one after another number got one
pub is_some_inserted : (m : FinMap nat_cmp ℕ) (a b v : ℕ) → is_some (get m b) ≡ true → is_some (get (finite.insert m a v) b) ≡ true
is_some_inserted m a b v is = elim (cases_eq b a) [
  | inl e ↦ subst (λ (q : ℕ). is_some (get (finite.insert m a v) q) ≡ true) (sym e) (ap (λ (r : Option ℕ). is_some r) (get_inserted m a v))
  | inr n ↦ ap (λ (r : Option ℕ). is_some r) (get_inserted_other m a v b n) ∙ is
]

pub same_place : (xs : List (ℕ × ℕ)) (n i j : ℕ) → HasDistinctNumbers xs → HasNumberAt xs n i → HasNumberAt xs n j → i ≡ j
same_place xs n i j one a b = one i j (0, 0) a.within b.within (a.number_is (0, 0) ∙ sym (b.number_is (0, 0)))

pub placed_at : (xs ys : List (ℕ × ℕ)) (m n : FinMap nat_cmp ℕ) → xs ≡ ys → m ≡ n → IsPlaced ys n → IsPlaced xs m
placed_at xs ys m n e f h = subst (λ (zs : List (ℕ × ℕ)). IsPlaced zs m) (sym e) (subst (λ (o : FinMap nat_cmp ℕ). IsPlaced ys o) (sym f) h)

-- a pair more at the end

number_pushed : (xs : List (ℕ × ℕ)) (p d : ℕ × ℕ) (i : ℕ) → length xs ≡ i → number_at (xs ++ p ∷ []) i d ≡ p.1
number_pushed xs p d i e = ap (λ (q : ℕ × ℕ). q.1) (get_or_push xs p d i e)

number_front : (xs : List (ℕ × ℕ)) (p d : ℕ × ℕ) (i : ℕ) → i < length xs → number_at (xs ++ p ∷ []) i d ≡ number_at xs i d
number_front xs p d i h = ap (λ (q : ℕ × ℕ). q.1) (get_or_append_left xs (p ∷ []) d i h)

pub placed_pushed : (xs : List (ℕ × ℕ)) (m : FinMap nat_cmp ℕ) (p : ℕ × ℕ) → IsPlaced xs m → LacksNumber xs p.1 → IsPlaced (xs ++ p ∷ []) (finite.insert m p.1 (length xs))
placed_pushed xs m p at lacks =
    let n : length (xs ++ p ∷ []) ≡ length xs + 1 = length-append xs (p ∷ []) in
    record {
      there = λ i d h. elim (cases_eq i (length xs)) [
        | inl e ↦
            subst (λ (q : ℕ). get (finite.insert m p.1 (length xs)) q ≡ Some i) (sym (number_pushed xs p d i (sym e))) (get_inserted m p.1 (length xs) ∙ ap (λ (k : ℕ). Some k) (sym e))
        | inr o ↦
            let w : i < length xs = omega arith in
            subst (λ (q : ℕ). get (finite.insert m p.1 (length xs)) q ≡ Some i) (sym (number_front xs p d i w))
            (get_inserted_other m p.1 (length xs) (number_at xs i d) (lacks i d w) ∙ at.there i d w)
      ];
      back = λ q i is. elim (cases_eq q p.1) [
        | inl e ↦
            let here : length xs ≡ i = some_same (length xs) i (get (finite.insert m p.1 (length xs)) p.1) (get_inserted m p.1 (length xs)) (subst (λ (r : ℕ). get (finite.insert m p.1 (length xs)) r ≡ Some i) e is) in
            record { within = omega arith; number_is = λ d. number_pushed xs p d i here ∙ sym e }
        | inr o ↦
            let old = at.back q i (sym (get_inserted_other m p.1 (length xs) q o) ∙ is) in
            record { within = omega (arith, old.within); number_is = λ d. number_front xs p d i old.within ∙ old.number_is d }
      ];
    }

-- another pair of the same number

number_set : (xs : List (ℕ × ℕ)) (p : ℕ × ℕ) (i : ℕ) → HasNumberAt xs p.1 i → (j : ℕ) (d : ℕ × ℕ) → number_at (set xs i p) j d ≡ number_at xs j d
number_set xs p i at j d = elim (cases_eq j i) [
  | inl e ↦ subst (λ (n : ℕ). number_at (set xs i p) n d ≡ number_at xs n d) (sym e) (ap (λ (q : ℕ × ℕ). q.1) (get_or-set_same xs i p d at.within) ∙ sym (at.number_is d))
  | inr n ↦ ap (λ (q : ℕ × ℕ). q.1) (get_or-set_other xs i j p d n)
]

pub placed_set : (xs : List (ℕ × ℕ)) (m : FinMap nat_cmp ℕ) (p : ℕ × ℕ) (i : ℕ) → IsPlaced xs m → HasNumberAt xs p.1 i → IsPlaced (set xs i p) m
placed_set xs m p i at here =
    let n : length (set xs i p) ≡ length xs = length-set xs i p in
    record {
      there = λ j d h. subst (λ (q : ℕ). get m q ≡ Some j) (sym (number_set xs p i here j d)) (at.there j d (omega arith));
      back = λ q j is. let old = at.back q j is in record { within = omega (arith, old.within); number_is = λ d. number_set xs p i here j d ∙ old.number_is d };
    }

-- two pairs that changed places

pub placed_exchanged : (xs ys : List (ℕ × ℕ)) (m : FinMap nat_cmp ℕ) (i j a b : ℕ) → IsPlaced xs m → HasNumberAt xs a i → HasNumberAt xs b j → IsExchanged xs ys i j
    → IsPlaced ys (finite.insert (finite.insert m a j) b i)
placed_exchanged xs ys m i j a b at first second x =
    let one = distinct_placed xs m at in
    let same = x.length_is in
    let new : FinMap nat_cmp ℕ = finite.insert (finite.insert m a j) b i in
    let at_i : (d : ℕ × ℕ) → number_at ys i d ≡ b = λ d. ap (λ (q : ℕ × ℕ). q.1) (x.first d) ∙ second.number_is d in
    let at_j : (d : ℕ × ℕ) → number_at ys j d ≡ a = λ d. ap (λ (q : ℕ × ℕ). q.1) (x.second d) ∙ first.number_is d in
    record {
      there = λ k d h. elim (cases_eq k i) [
        | inl e ↦
            subst (λ (n : ℕ). get new (number_at ys n d) ≡ Some n) (sym e)
            (subst (λ (q : ℕ). get new q ≡ Some i) (sym (at_i d)) (get_inserted (finite.insert m a j) b i))
        | inr n ↦ elim (cases_eq k j) [
          | inl e ↦
              let differ : a ≢ b = λ s. n (e ∙ sym (same_place xs a i j one first (subst (λ (q : ℕ). HasNumberAt xs q j) (sym s) second))) in
              subst (λ (l : ℕ). get new (number_at ys l d) ≡ Some l) (sym e)
              (subst (λ (q : ℕ). get new q ≡ Some j) (sym (at_j d)) (get_inserted_other (finite.insert m a j) b i a differ ∙ get_inserted m a j))
          | inr o ↦
              let w : k < length xs = omega arith in
              let kept : number_at ys k d ≡ number_at xs k d = ap (λ (q : ℕ × ℕ). q.1) (x.others k n o d) in
              let not_a : number_at xs k d ≢ a = λ s. n (one k i d w first.within (s ∙ sym (first.number_is d))) in
              let not_b : number_at xs k d ≢ b = λ s. o (one k j d w second.within (s ∙ sym (second.number_is d))) in
              subst (λ (q : ℕ). get new q ≡ Some k) (sym kept)
              (get_inserted_other (finite.insert m a j) b i (number_at xs k d) not_b ∙ get_inserted_other m a j (number_at xs k d) not_a ∙ at.there k d w)
        ]
      ];
      back = λ q k is. elim (cases_eq q b) [
        | inl e ↦
            let here : i ≡ k = some_same i k (get new b) (get_inserted (finite.insert m a j) b i) (subst (λ (r : ℕ). get new r ≡ Some k) e is) in
            record { within = omega (arith, first.within); number_is = λ d. ap (λ (n : ℕ). number_at ys n d) (sym here) ∙ at_i d ∙ sym e }
        | inr n ↦
            let inner : get (finite.insert m a j) q ≡ Some k = sym (get_inserted_other (finite.insert m a j) b i q n) ∙ is in
            elim (cases_eq q a) [
              | inl e ↦
                  let here : j ≡ k = some_same j k (get (finite.insert m a j) a) (get_inserted m a j) (subst (λ (r : ℕ). get (finite.insert m a j) r ≡ Some k) e inner) in
                  record { within = omega (arith, second.within); number_is = λ d. ap (λ (l : ℕ). number_at ys l d) (sym here) ∙ at_j d ∙ sym e }
              | inr o ↦
                  let old = at.back q k (sym (get_inserted_other m a j q o) ∙ inner) in
                  let not_i : k ≢ i = λ s. o (sym (old.number_is (0, 0)) ∙ ap (λ (l : ℕ). number_at xs l (0, 0)) s ∙ first.number_is (0, 0)) in
                  let not_j : k ≢ j = λ s. n (sym (old.number_is (0, 0)) ∙ ap (λ (l : ℕ). number_at xs l (0, 0)) s ∙ second.number_is (0, 0)) in
                  record { within = omega (arith, old.within); number_is = λ d. ap (λ (p : ℕ × ℕ). p.1) (x.others k not_i not_j d) ∙ old.number_is d }
            ]
      ];
    }

-- the last pair taken out

pub lacks_last : (zs : List (ℕ × ℕ)) (r : ℕ × ℕ) → HasDistinctNumbers (zs ++ r ∷ []) → LacksNumber zs r.1
lacks_last zs r one i d h is =
    let n : length (zs ++ r ∷ []) ≡ length zs + 1 = length-append zs (r ∷ []) in
    let e : i ≡ length zs = one i (length zs) d (omega arith) (omega arith) (number_front zs r d i h ∙ is ∙ sym (number_pushed zs r d (length zs) refl)) in
    omega arith

pub placed_popped : (zs : List (ℕ × ℕ)) (r : ℕ × ℕ) (m : FinMap nat_cmp ℕ) → IsPlaced (zs ++ r ∷ []) m → IsPlaced zs (finite.remove m r.1)
placed_popped zs r m at =
    let n : length (zs ++ r ∷ []) ≡ length zs + 1 = length-append zs (r ∷ []) in
    let lacks = lacks_last zs r (distinct_placed (zs ++ r ∷ []) m at) in
    record {
      there = λ i d h.
          get_removed_other m r.1 (number_at zs i d) (lacks i d h) ∙ subst (λ (q : ℕ). get m q ≡ Some i) (number_front zs r d i h) (at.there i d (omega arith));
      back = λ q i is.
          let other : q ≢ r.1 = λ e. none_some i (get (finite.remove m r.1) q) is (subst (λ (s : ℕ). get (finite.remove m r.1) s ≡ None) (sym e) (get_removed m r.1)) in
          let old = at.back q i (sym (get_removed_other m r.1 q other) ∙ is) in
          let not_last : i ≢ length zs = λ e. other (sym (old.number_is (0, 0)) ∙ number_pushed zs r (0, 0) i (sym e)) in
          let w : i < length zs = omega (arith, old.within) in
          record { within = w; number_is = λ d. sym (number_front zs r d i w) ∙ old.number_is d };
    }

pub is_some_last : (zs : List (ℕ × ℕ)) (r : ℕ × ℕ) (m : FinMap nat_cmp ℕ) → IsPlaced (zs ++ r ∷ []) m → is_some (get m r.1) ≡ true
is_some_last zs r m at =
    let n : length (zs ++ r ∷ []) ≡ length zs + 1 = length-append zs (r ∷ []) in
    is_some_there (zs ++ r ∷ []) m r.1 (length zs) at (record { within = omega arith; number_is = λ d. number_pushed zs r d (length zs) refl })
