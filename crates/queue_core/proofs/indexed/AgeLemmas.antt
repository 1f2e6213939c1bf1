-- The list of the messages that are there stays that of their slots: where room is made in it, and where one comes or goes.
use Rattle.std.proofs.Common.{◌≡◌, ◌≢◌, ℕ, zero, suc, ◌+◌, ◌-◌, ◌<◌, ◌≤◌, Bool, true, false, cond, List, length, get_or, Option, Some, None, is_some, inl, inr, sym, ap, subst, ◌∙◌, arith}
use Rattle.std.specs.Prelude.{slice_index, slice_set}
use Rattle.std.specs.Cmp.{nat_cmp_total}
use Rattle.std.specs.FinMap.{FinMap, contains_key, get, len, get-empty, get-insert, get-remove, len-empty, len-remove, nat_cmp-IsAntisymmetric, same_map}
use Rattle.std.specs.FinMap as finite
use Rattle.std.specs.Ordering.{nat_cmp}
use Rattle.std.proofs.lemmas.Bool.{cases_eq}
use Rattle.std.proofs.lemmas.Bool.Decides.{nat_tests}
use Rattle.std.proofs.lemmas.List.{get_or_default, get_or-set_same, get_or-set_other, length-set}
use Rattle.age_index.specs.Ages.{IsNumberAt, slots_without}
use Rattle.queue_core.specs.declared.ages.Ages.{Ages}
use Rattle.queue_core.specs.private.Ages.{place_if, AreAges, IsLonger, CanList, IsListed}

-- ---- how many numbers a map has

len_of_none : (m : FinMap nat_cmp ℕ) → ((n : ℕ) → get m n ≡ None) → len m ≡ 0
len_of_none m none =
    let e : m ≡ finite.empty = same_map nat_cmp_total nat_cmp-IsAntisymmetric m finite.empty (λ q. none q ∙ sym (get-empty nat_cmp q)) in
    ap (λ (x : FinMap nat_cmp ℕ). len x) e ∙ len-empty nat_cmp ℕ

one_less : (b : Bool) (all rest : ℕ) → rest ≡ cond b (all - 1) all → all ≤ rest + 1
one_less true all rest e = omega arith
one_less false all rest e = omega arith

gone_from : (m : FinMap nat_cmp ℕ) (count n : ℕ) → ((k : ℕ) → count + 1 ≤ k → get m k ≡ None) → count ≤ n → get (finite.remove m count) n ≡ None
gone_from m count n none past = elim (cases_eq n count) [
  | inl e ↦ grind (arith, nat_tests, get-remove nat_cmp_total m count n)
  | inr d ↦ let left : get (finite.remove m count) n ≡ get m n = grind (arith, nat_tests, get-remove nat_cmp_total m count n) in left ∙ none n (omega arith)
]

-- a map of numbers below a count has no more of them
pub len_below : (m : FinMap nat_cmp ℕ) (count : ℕ) → ((n : ℕ) → count ≤ n → get m n ≡ None) → len m ≤ count
len_below m zero none = let e = len_of_none m (λ n. none n (omega arith)) in omega arith
len_below m (suc count) none =
    let next : suc count ≡ count + 1 = omega arith in
    let rest = len_below (finite.remove m count) count (λ n past. gone_from m count n (λ k more. none k (omega arith)) past) in
    let less = one_less (contains_key m count) (len m) (len (finite.remove m count)) (len-remove nat_cmp_total m count) in
    omega arith

-- ---- one number

same_place : (here : Bool) (x y : Ages) (n : ℕ) → slice_index y.places.items n ≡ slice_index x.places.items n → place_if here x n ≡ place_if here y n
same_place here x y n e = ap (λ place. cond here (Some place) None) (sym e)

-- it is put in at a slot, which its place tells then
pub put_in_list : (number slot : ℕ) (x y : Ages) → CanList number false x → y.list.slots ≡ finite.insert x.list.slots number slot → y.list.spare + 1 ≡ x.list.spare
    → y.places.items ≡ slice_set x.places.items number slot → IsListed number false true x y
put_in_list number slot x y can slots spare places =
    let here : get (finite.insert x.list.slots number slot) number ≡ Some slot = grind (arith, nat_tests, get-insert nat_cmp_total x.list.slots number slot number) in
    let place : slice_index y.places.items number ≡ slot = ap (λ (items : List ℕ). slice_index items number) places ∙ get_or-set_same x.places.items number slot 0 can.within in
    record {
      found = ap (λ (m : FinMap nat_cmp ℕ). get m number) slots ∙ here ∙ ap (λ (n : ℕ). Some n) (sym place);
      others = λ n other.
          let past : get (finite.insert x.list.slots number slot) n ≡ get x.list.slots n = grind (arith, nat_tests, get-insert nat_cmp_total x.list.slots number slot n) in
          ap (λ (m : FinMap nat_cmp ℕ). get m n) slots ∙ past;
      places = λ n other. ap (λ (items : List ℕ). slice_index items n) places ∙ get_or-set_other x.places.items number n slot 0 other;
      len = ap length places ∙ length-set x.places.items number slot;
      spare = omega (arith, spare);
    }

one_more : (o : Option ℕ) (n : ℕ) → o ≡ Some n → ◌≡◌ {A = ℕ} (cond (is_some o) 1 0) 1
one_more o n e = ap (λ (r : Option ℕ). let more : ℕ = cond (is_some r) 1 0 in more) e

-- it is taken out at the slot that its place tells
pub taken_from_list : (number slot : ℕ) (x y : Ages) (result : Option ℕ) → CanList number true x → slot ≡ get_or x.places.items number slot → IsNumberAt x.list.slots slot result
    → y.list.slots ≡ slots_without x.list.slots result → y.list.spare ≡ x.list.spare + cond (is_some result) 1 0 → y.places.items ≡ x.places.items → IsListed number true false x y
taken_from_list number slot x y result can at value slots spare places =
    let place : slice_index x.places.items number ≡ slot = get_or_default x.places.items number 0 slot can.within ∙ sym at in
    let told : result ≡ Some number = (value number).0 (can.found ∙ ap (λ (n : ℕ). Some n) place) in
    let left : y.list.slots ≡ finite.remove x.list.slots number = slots ∙ ap (λ (r : Option ℕ). slots_without x.list.slots r) told in
    let gone : get (finite.remove x.list.slots number) number ≡ None = grind (arith, nat_tests, get-remove nat_cmp_total x.list.slots number number) in
    let more = one_more result number told in
    record {
      found = ap (λ (m : FinMap nat_cmp ℕ). get m number) left ∙ gone;
      others = λ n other.
          let past : get (finite.remove x.list.slots number) n ≡ get x.list.slots n = grind (arith, nat_tests, get-remove nat_cmp_total x.list.slots number n) in
          ap (λ (m : FinMap nat_cmp ℕ). get m n) left ∙ past;
      places = λ n other. ap (λ (items : List ℕ). slice_index items n) places;
      len = ap length places;
      spare = omega (arith, spare, more);
    }

-- ---- all numbers

-- there are none
pub ages_none : (x : Ages) → x.list ≡ record { slots = finite.empty; spare = 0 } → AreAges (λ n. false) 0 0 x
ages_none x list = record {
  found = λ n. ap (λ a. get a.slots n) list ∙ get-empty nat_cmp n;
  within = omega arith;
  room = omega arith;
}

-- what is so of the number and of the others is so of all
pub listed : (here here' : ℕ → Bool) (count lacking lacking' number : ℕ) (before after : Bool) (x y : Ages) → AreAges here count lacking x → IsListed number before after x y
    → here' number ≡ after → ((n : ℕ) → n ≢ number → here' n ≡ here n) → lacking' ≤ y.list.spare → AreAges here' count lacking' y
listed here here' count lacking lacking' number before after x y is to at other room = record {
  found = λ n. elim (cases_eq n number) [
    | inl e ↦ subst (λ (k : ℕ). get y.list.slots k ≡ place_if (here' k) y k) (sym e) (to.found ∙ ap (λ b. place_if b y number) (sym at))
    | inr d ↦ to.others n d ∙ is.found n ∙ same_place (here n) x y n (to.places n d) ∙ ap (λ b. place_if b y n) (sym (other n d))
  ];
  within = omega (arith, is.within, to.len);
  room = room;
}

-- a number that is there can go, and one that is not can come where there is room
pub can_list : (here : ℕ → Bool) (count lacking number : ℕ) (before : Bool) (x : Ages) → AreAges here count lacking x → here number ≡ before → number < length x.places.items
    → (before ≡ false → 1 ≤ x.list.spare) → CanList number before x
can_list here count lacking number before x is at within room = record {
  found = is.found number ∙ ap (λ b. place_if b x number) at;
  within = within;
  room = room;
}

-- where there is more room
pub ages_longer : (here : ℕ → Bool) (count lacking : ℕ) (x y : Ages) → AreAges here count lacking x → IsLonger x y → AreAges here count lacking y
ages_longer here count lacking x y is more = record {
  found = λ n. ap (λ (m : FinMap nat_cmp ℕ). get m n) more.slots ∙ is.found n ∙ same_place (here n) x y n (more.places n);
  within = omega (arith, is.within, more.len);
  room = omega (arith, is.room, more.spare);
}

-- for one number more
pub ages_more : (here : ℕ → Bool) (count lacking lacking' : ℕ) (x : Ages) → AreAges here count lacking x → count < length x.places.items → lacking' ≡ lacking → AreAges here (count + 1) lacking' x
ages_more here count lacking lacking' x is within same = record { found = is.found; within = omega arith; room = omega (arith, is.room) }
