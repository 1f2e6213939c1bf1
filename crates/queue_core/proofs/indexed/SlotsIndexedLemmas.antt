-- The indices of all numbers: that a number of them can get another slot, and what they are then.
use Rattle.std.proofs.Common.{◌≡◌, ℕ, ◌+◌, ◌<◌, ◌≤◌, ◌^◌, Bool, true, false, cond, nat_eq, [], length, Option, Some, None, is_some, inl, inr, refl, sym, ap, subst, ◌∙◌, arith, eq-eqb, ne_eqb}
use Rattle.std.specs.FinMap.{get-empty}
use Rattle.std.specs.FinMap as finite
use Rattle.std.specs.List.{range_with_len}
use Rattle.std.specs.Ordering.{nat_cmp}
use Rattle.std.proofs.lemmas.Bool.{cases_lt}
use Rattle.visible_index.specs.Pairs.{has_pair}
use Rattle.queue_core.specs.declared.slot.Slot.{Slot}
use Rattle.queue_core.specs.declared.indices.Indices.{Indices}
use Rattle.queue_core.specs.private.Slots.{is_hidden, is_shown, is_left, is_here, is_delayed, is_in_flight, has_age, is_failing, due_in, sent_in, shows, one_if, CanReplace, IsReplaced, count_slots, AreIndexed, HasRoomForOne}
use Rattle.queue_core.specs.private.Changes.{IsReserved, HasRoom}
use Rattle.queue_core.specs.private.Ages.{AreAges}
use Rattle.queue_core.proofs.indexed.AgeLemmas.{can_list, listed, ages_longer, ages_more}
use Rattle.queue_core.proofs.indexed.SlotCountLemmas.{count_changed, count_more, count_has, count_upto, count_parts}
use Rattle.queue_core.proofs.indexed.SlotLemmas.{counted}

-- ---- one number of those below a count

number_below : (slots : ℕ → Option Slot) (count : ℕ) (x : Indices) (number : ℕ) (s : Slot) → AreIndexed slots count x → slots number ≡ Some s → number < count
number_below slots count x number s is at = elim (cases_lt number count) [
  | inl h ↦ h
  | inr h ↦ let none = is.few number h in cc
]

slot_counts : (test : Option Slot → Bool) (slots : ℕ → Option Slot) (count number : ℕ) (o : Option Slot) → number < count → slots number ≡ o → one_if (test o) ≤ count_slots test slots count
slot_counts test slots count number o h at =
    let same : one_if (test (slots number)) ≡ one_if (test o) = ap (λ p. one_if (test p)) at in omega (arith, count_has (λ n. test (slots n)) number count h)

-- of the numbers below a count one has got another slot
record IsGiven (number : ℕ) (after : Option Slot) (slots slots' : ℕ → Option Slot) : Type 0 where
  each : (n : ℕ) → slots' n ≡ cond (nat_eq n number) after (slots n)

given_here : (number : ℕ) (after : Option Slot) (slots slots' : ℕ → Option Slot) → IsGiven number after slots slots' → slots' number ≡ after
given_here number after slots slots' to = to.each number ∙ ap (λ b. cond b after (slots number)) (eq-eqb number number refl)

given_other : (number : ℕ) (after : Option Slot) (slots slots' : ℕ → Option Slot) → IsGiven number after slots slots' → (n : ℕ) → (n ≡ number → ⊥) → slots' n ≡ slots n
given_other number after slots slots' to n other = to.each n ∙ ap (λ b. cond b after (slots n)) (ne_eqb n number other)

count_given : (test : Option Slot → Bool) (slots slots' : ℕ → Option Slot) (count number : ℕ) (before after : Option Slot) → number < count → slots number ≡ before
    → IsGiven number after slots slots' → count_slots test slots' count + one_if (test before) ≡ count_slots test slots count + one_if (test after)
count_given test slots slots' count number before after h at to =
    let from : one_if (test (slots number)) ≡ one_if (test before) = ap (λ o. one_if (test o)) at in
    let into : one_if (test (slots' number)) ≡ one_if (test after) = ap (λ o. one_if (test o)) (given_here number after slots slots' to) in
    let all : count_slots test slots' count + one_if (test (slots number)) ≡ count_slots test slots count + one_if (test (slots' number)) =
    count_changed (λ n. test (slots n)) (λ n. test (slots' n)) number count h (λ n other. ap test (given_other number after slots slots' to n other)) in
    omega arith

-- ---- the numbers of each kind of slot together

test_parts : (o : Option Slot) → one_if (is_delayed o) + one_if (is_in_flight o) + one_if (is_shown o) + one_if (is_left o) ≤ one_if (is_some o)
test_parts o = let c = counted o in omega (arith, c.hidden, c.one)

count_slot_parts : (slots : ℕ → Option Slot) (count : ℕ)
    → count_slots is_delayed slots count + count_slots is_in_flight slots count + count_slots is_shown slots count + count_slots is_left slots count ≤ count_slots is_some slots count
count_slot_parts slots count =
    count_parts (λ n. is_delayed (slots n)) (λ n. is_in_flight (slots n)) (λ n. is_shown (slots n)) (λ n. is_left (slots n)) (λ n. is_some (slots n)) (range_with_len 0 count) (λ n. test_parts (slots n))

-- ---- a number can get another slot

-- there is room for one where there is no slot yet
record HasSlack (slots : ℕ → Option Slot) (count : ℕ) (x : Indices) (o : Option Slot) : Type 0 where
  due : count_slots is_shown slots count + count_slots is_left slots count + 1 ≤ x.due.spare + one_if (is_some o)
  visible : x.delayed + x.in_flight + count_slots is_left slots count + 1 ≤ x.visible.spare + one_if (is_some o)
  sent : count_slots is_left slots count + 1 ≤ x.sent.spare + one_if (is_some o)
  ages : count_slots is_left slots count + x.failing + 1 ≤ x.ages.list.spare + one_if (is_some o)

slack : (slots : ℕ → Option Slot) (count : ℕ) (x : Indices) (o : Option Slot) → AreIndexed slots count x → (o ≡ None → HasRoomForOne slots count x) → HasSlack slots count x o
slack slots count x None is room =
    let r = room refl in record { due = omega (arith, r.due); visible = omega (arith, r.visible); sent = omega (arith, r.sent); ages = omega (arith, r.ages) }
slack slots count x (Some s) is room =
    record { due = omega (arith, is.due_room); visible = omega (arith, is.visible_room); sent = omega (arith, is.sent_room); ages = omega (arith, is.ages.room) }

-- a slot is counted
record HasCounted (slots : ℕ → Option Slot) (count : ℕ) (o : Option Slot) : Type 0 where
  shown : one_if (is_shown o) ≤ count_slots is_shown slots count
  left : one_if (is_left o) ≤ count_slots is_left slots count
  delayed : one_if (is_delayed o) ≤ count_slots is_delayed slots count
  in_flight : one_if (is_in_flight o) ≤ count_slots is_in_flight slots count
  failing : one_if (is_failing o) ≤ count_slots is_failing slots count

has_counted : (slots : ℕ → Option Slot) (count : ℕ) (x : Indices) (number : ℕ) (o : Option Slot) → AreIndexed slots count x → slots number ≡ o → HasCounted slots count o
has_counted slots count x number None is at = record { shown = omega arith; left = omega arith; delayed = omega arith; in_flight = omega arith; failing = omega arith }
has_counted slots count x number (Some s) is at =
    let h = number_below slots count x number s is at in
    record {
      shown = slot_counts is_shown slots count number (Some s) h at;
      left = slot_counts is_left slots count number (Some s) h at;
      delayed = slot_counts is_delayed slots count number (Some s) h at;
      in_flight = slot_counts is_in_flight slots count number (Some s) h at;
      failing = slot_counts is_failing slots count number (Some s) h at;
    }

pub can_replace : (slots : ℕ → Option Slot) (count : ℕ) (x : Indices) (number : ℕ) (before after : Option Slot) → AreIndexed slots count x → slots number ≡ before
    → (before ≡ None → HasRoomForOne slots count x) → number < length x.ages.places.items → count < 2 ^ 63 → CanReplace number before after x
can_replace slots count x number before after is at room place few =
    let parts = counted before in
    let spare = slack slots count x before is room in
    let had = has_counted slots count x number before is at in
    record {
      due = is.due number ∙ ap due_in at;
      sent = is.sent number ∙ ap sent_in at;
      shown = λ moment. is.shown moment number ∙ ap (λ o. shows o moment) at;
      strict = is.strict;
      due_room = λ e. let none = ap one_if e in omega (arith, none, parts.one, spare.due, had.shown, had.left);
      sent_room = λ e. let none = ap one_if e in omega (arith, none, parts.here, spare.sent, had.left);
      visible_room = λ e. let none = ap one_if e in omega (arith, none, parts.one, parts.hidden, spare.visible, had.left, had.delayed, had.in_flight, is.delayed, is.in_flight);
      delayed = omega (arith, had.delayed, is.delayed);
      in_flight = omega (arith, had.in_flight, is.in_flight);
      few = omega (arith, few, is.delayed, is.in_flight, count_slot_parts slots count, count_upto (λ n. is_some (slots n)) count);
      failing = omega (arith, had.failing, is.failing);
      few_failing = omega (arith, few, is.failing, count_upto (λ n. is_failing (slots n)) count);
      ages =
          can_list (λ n. has_age (slots n)) count (count_slots is_left slots count + x.failing) number (has_age before) x.ages is.ages (ap has_age at) place
          (λ e. let none = ap one_if e in omega (arith, none, parts.age, spare.ages, had.left, had.failing, is.failing));
    }

-- ---- a number has got another slot

pointwise : {A : Type 0} (f : Option Slot → A) (b : Bool) (after s s' : Option Slot) (v w : A) → v ≡ cond b (f after) w → w ≡ f s → s' ≡ cond b after s → v ≡ f s'
pointwise f true after s s' v w new old to = new ∙ ap f (sym to)
pointwise f false after s s' v w new old to = new ∙ old ∙ ap f (sym to)

-- the rooms that are left are enough

enough_due : (shown left shown' left' spare spare' : ℕ) (before after : Option Slot) → shown' + one_if (is_shown before) ≡ shown + one_if (is_shown after)
    → left' + one_if (is_left before) ≡ left + one_if (is_left after) → spare' + one_if (is_hidden after) ≡ spare + one_if (is_hidden before)
    → shown + left + 1 ≤ spare + one_if (is_some before) → shown' + left' ≤ spare'
enough_due shown left shown' left' spare spare' before after s l r h =
    let b = counted before in let a = counted after in omega (arith, s, l, r, h, b.one, a.one, a.most)

enough_visible : (delayed in_flight left delayed' in_flight' left' spare spare' : ℕ) (before after : Option Slot) → delayed' + one_if (is_delayed before) ≡ delayed + one_if (is_delayed after)
    → in_flight' + one_if (is_in_flight before) ≡ in_flight + one_if (is_in_flight after) → left' + one_if (is_left before) ≡ left + one_if (is_left after)
    → spare' + one_if (is_shown after) ≡ spare + one_if (is_shown before) → delayed + in_flight + left + 1 ≤ spare + one_if (is_some before) → delayed' + in_flight' + left' ≤ spare'
enough_visible delayed in_flight left delayed' in_flight' left' spare spare' before after d f l r h =
    let b = counted before in let a = counted after in omega (arith, d, f, l, r, h, b.one, a.one, b.hidden, a.hidden, a.most)

enough_sent : (left left' spare spare' : ℕ) (before after : Option Slot) → left' + one_if (is_left before) ≡ left + one_if (is_left after)
    → spare' + one_if (is_here after) ≡ spare + one_if (is_here before) → left + 1 ≤ spare + one_if (is_some before) → left' ≤ spare'
enough_sent left left' spare spare' before after l r h = let b = counted before in let a = counted after in omega (arith, l, r, h, b.here, a.here, a.most)

enough_ages : (left failing left' failing' spare spare' : ℕ) (before after : Option Slot) → left' + one_if (is_left before) ≡ left + one_if (is_left after)
    → failing' + one_if (is_failing before) ≡ failing + one_if (is_failing after) → spare' + one_if (has_age after) ≡ spare + one_if (has_age before)
    → left + failing + 1 ≤ spare + one_if (is_some before) → left' + failing' ≤ spare'
enough_ages left failing left' failing' spare spare' before after l f r h =
    let b = counted before in let a = counted after in omega (arith, l, f, r, h, b.age, a.age, a.most)

pub indexed_replaced : (slots slots' : ℕ → Option Slot) (count : ℕ) (x y : Indices) (number : ℕ) (before after : Option Slot) → AreIndexed slots count x → slots number ≡ before
    → number < count → (before ≡ None → HasRoomForOne slots count x) → IsReplaced number before after x y → ((n : ℕ) → slots' n ≡ cond (nat_eq n number) after (slots n))
    → AreIndexed slots' count y
indexed_replaced slots slots' count x y number before after is at h room r each =
    let to : IsGiven number after slots slots' = record { each = each } in
    let spare = slack slots count x before is room in
    let shown = count_given is_shown slots slots' count number before after h at to in
    let left = count_given is_left slots slots' count number before after h at to in
    let delayed = count_given is_delayed slots slots' count number before after h at to in
    let in_flight = count_given is_in_flight slots slots' count number before after h at to in
    let failing = count_given is_failing slots slots' count number before after h at to in
    record {
      due = λ n. pointwise due_in (nat_eq n number) after (slots n) (slots' n) (finite.get y.due.moments n) (finite.get x.due.moments n) (r.due n) (is.due n) (each n);
      sent = λ n. pointwise sent_in (nat_eq n number) after (slots n) (slots' n) (finite.get y.sent.moments n) (finite.get x.sent.moments n) (r.sent n) (is.sent n) (each n);
      shown = λ moment n. pointwise (λ o. shows o moment) (nat_eq n number) after (slots n) (slots' n) (has_pair (moment, n) y.visible.pairs) (has_pair (moment, n) x.visible.pairs) (r.shown moment n) (is.shown moment n) (each n);
      strict = r.strict;
      few = λ n past. given_other number after slots slots' to n (λ e. omega arith) ∙ is.few n past;
      delayed = omega (arith, r.delayed, is.delayed, delayed);
      in_flight = omega (arith, r.in_flight, is.in_flight, in_flight);
      due_room = enough_due _ _ _ _ x.due.spare y.due.spare before after shown left r.due_spare spare.due;
      visible_room = enough_visible x.delayed x.in_flight _ y.delayed y.in_flight _ x.visible.spare y.visible.spare before after r.delayed r.in_flight left r.visible_spare spare.visible;
      sent_room = enough_sent _ _ x.sent.spare y.sent.spare before after left r.sent_spare spare.sent;
      failing = omega (arith, r.failing, is.failing, failing);
      ages =
          listed (λ n. has_age (slots n)) (λ n. has_age (slots' n)) count (count_slots is_left slots count + x.failing) (count_slots is_left slots' count + y.failing) number (has_age before) (has_age after) x.ages y.ages is.ages r.ages
          (ap has_age (given_here number after slots slots' to))
          (λ n other. ap has_age (given_other number after slots slots' to n other))
          (enough_ages _ x.failing _ y.failing x.ages.list.spare y.ages.list.spare before after left r.failing r.ages.spare spare.ages);
    }

-- ---- one number more, which has no slot yet

count_none : (test : Option Slot → Bool) (slots : ℕ → Option Slot) (count : ℕ) → test None ≡ false → slots count ≡ None → count_slots test slots (count + 1) ≡ count_slots test slots count
count_none test slots count fails at =
    let last : one_if (test (slots count)) ≡ 0 = ap (λ o. one_if (test o)) at ∙ ap one_if fails in omega (arith, count_more (λ n. test (slots n)) count)

pub indexed_more : (slots : ℕ → Option Slot) (count : ℕ) (x : Indices) → AreIndexed slots count x → count < length x.ages.places.items → AreIndexed slots (count + 1) x
indexed_more slots count x is place =
    let at : slots count ≡ None = is.few count (omega arith) in
    let shown = count_none is_shown slots count refl at in
    let left = count_none is_left slots count refl at in
    record {
      due = is.due;
      sent = is.sent;
      shown = is.shown;
      strict = is.strict;
      few = λ n h. is.few n (omega arith);
      delayed = is.delayed ∙ sym (count_none is_delayed slots count refl at);
      in_flight = is.in_flight ∙ sym (count_none is_in_flight slots count refl at);
      due_room = omega (arith, is.due_room, shown, left);
      visible_room = omega (arith, is.visible_room, left);
      sent_room = omega (arith, is.sent_room, left);
      failing = is.failing ∙ sym (count_none is_failing slots count refl at);
      ages = ages_more (λ n. has_age (slots n)) count (count_slots is_left slots count + x.failing) (count_slots is_left slots (count + 1) + x.failing) x.ages is.ages place (omega (arith, left));
    }

pub room_more : (slots : ℕ → Option Slot) (count : ℕ) (x : Indices) → AreIndexed slots count x → HasRoomForOne slots count x → HasRoomForOne slots (count + 1) x
room_more slots count x is room =
    let at : slots count ≡ None = is.few count (omega arith) in
    let shown = count_none is_shown slots count refl at in
    let left = count_none is_left slots count refl at in
    record { due = omega (arith, room.due, shown, left); visible = omega (arith, room.visible, left); sent = omega (arith, room.sent, left); ages = omega (arith, room.ages, left) }

-- ---- the same slots

pub indexed_same : (slots slots' : ℕ → Option Slot) (count : ℕ) (x : Indices) → ((n : ℕ) → slots' n ≡ slots n) → AreIndexed slots count x → AreIndexed slots' count x
indexed_same slots slots' count x same is = let e : slots ≡ slots' = λ i. λ n. sym (same n) i in subst (λ (s : ℕ → Option Slot). AreIndexed s count x) e is

-- ---- room

pub indexed_reserved : (slots : ℕ → Option Slot) (count : ℕ) (x y : Indices) → AreIndexed slots count x → IsReserved x y → AreIndexed slots count y
indexed_reserved slots count x y is r = record {
  due = λ n. ap (λ m. finite.get m n) r.due ∙ is.due n;
  sent = λ n. ap (λ m. finite.get m n) r.sent ∙ is.sent n;
  shown = λ moment n. ap (λ ps. has_pair (moment, n) ps) r.visible ∙ is.shown moment n;
  strict = rw r.visible is.strict;
  few = is.few;
  delayed = r.delayed ∙ is.delayed;
  in_flight = r.in_flight ∙ is.in_flight;
  due_room = omega (arith, is.due_room, r.due_spare);
  visible_room = omega (arith, is.visible_room, r.visible_spare, r.delayed, r.in_flight);
  sent_room = omega (arith, is.sent_room, r.sent_spare);
  failing = r.failing ∙ is.failing;
  ages =
      subst (λ (failing : ℕ). AreAges (λ n. has_age (slots n)) count (count_slots is_left slots count + failing) y.ages) (sym r.failing)
      (ages_longer (λ n. has_age (slots n)) count (count_slots is_left slots count + x.failing) x.ages y.ages is.ages r.ages);
}

pub room_enough : (slots : ℕ → Option Slot) (count : ℕ) (x : Indices) (due sent visible : ℕ) → HasRoom due sent visible x
    → count_slots is_shown slots count + count_slots is_left slots count < due → count_slots is_left slots count < sent
    → x.delayed + x.in_flight + count_slots is_left slots count < visible → count_slots is_left slots count + x.failing < x.ages.list.spare → HasRoomForOne slots count x
room_enough slots count x due sent visible has d s v a =
    record { due = omega (arith, has.due, d); visible = omega (arith, has.visible, v); sent = omega (arith, has.sent, s); ages = omega (arith, a) }

-- as many numbers as have a slot, and one
pub room_for_one : (slots : ℕ → Option Slot) (count : ℕ) (x : Indices) (due sent visible : ℕ) → AreIndexed slots count x → HasRoom due sent visible x
    → count_slots is_some slots count < due → count_slots is_some slots count < sent → count_slots is_some slots count < visible → count_slots is_left slots count + x.failing < x.ages.list.spare
    → HasRoomForOne slots count x
room_for_one slots count x due sent visible is has d s v a =
    let all = count_slot_parts slots count in
    room_enough slots count x due sent visible has (omega (arith, all, d)) (omega (arith, all, s)) (omega (arith, all, v, is.delayed, is.in_flight)) a

-- ---- no slots

pub indexed_none : (x : Indices) → x.due ≡ record { moments = finite.empty; spare = 0 } → x.sent ≡ record { moments = finite.empty; spare = 0 } → x.visible ≡ record { pairs = []; spare = 0 }
    → x.delayed ≡ 0 → x.in_flight ≡ 0 → x.failing ≡ 0 → AreAges (λ n. false) 0 0 x.ages → AreIndexed (λ n. None) 0 x
indexed_none x due sent visible delayed in_flight failing ages = record {
  due = λ n. ap (λ d. finite.get d.moments n) due ∙ get-empty nat_cmp n;
  sent = λ n. ap (λ d. finite.get d.moments n) sent ∙ get-empty nat_cmp n;
  shown = λ moment n. ap (λ v. has_pair (moment, n) v.pairs) visible;
  strict = rw visible (λ i j d h l. absurd (omega arith));
  few = λ n h. refl;
  delayed = delayed;
  in_flight = in_flight;
  due_room = omega arith;
  visible_room = omega arith;
  sent_room = omega arith;
  failing = failing;
  ages =
      let none : count_slots is_left (λ n. None) 0 + x.failing ≡ 0 = omega (arith, failing) in
      subst (λ (lacking : ℕ). AreAges (λ n. has_age None) 0 lacking x.ages) (sym none) ages;
}
