-- What a message that is begun, changed or let go makes of the indices of the messages that are kept, and how many of these there are.
use Rattle.std.proofs.Common.{◌≡◌, ℕ, zero, suc, ◌+◌, ◌<◌, ◌≤◌, ◌^◌, inl, inr, Bool, true, false, cond, List, [], ◌∷◌, ◌++◌, length, Option, Some, None, refl, sym, ap, ◌∙◌, subst, arith, length-append}
use Rattle.std.specs.Prelude.{nat_eq, if◌then◌else◌, is_some, IsSome, option_map, filter, vec_capacity}
use Rattle.std.specs.List.{IsDistinct, AllByRecursion, list_any, range_with_len}
use Rattle.std.specs.Map.{lookup}
use Rattle.std.proofs.lemmas.Bool.{false≢true, ne_eqb, eqb-true, and_parts, cases_lt}
use Rattle.std.proofs.lemmas.Cmp.{nat_eq_equiv}
use Rattle.std.proofs.lemmas.List.Sums.{length-filter}
use Rattle.std.proofs.lemmas.Map.Made.{is_member-filter}
use Rattle.std.proofs.lemmas.Map.Steps.{length-le_from_keys}
use Rattle.indexmap.specs.IndexMap.{index_map_len, spare}
use Rattle.queue_core.specs.declared.slot.Slot.{Slot}
use Rattle.queue_core.specs.declared.record.Record.{Record}
use Rattle.queue_core.specs.declared.index.MessageIndex.{MessageIndex}
use Rattle.queue_core.specs.private.Ages.{HasPlaces}
use Rattle.queue_core.specs.private.Slots.{is_left, count_slots, CanReplace, IsReplaced, AreIndexed, HasRoomForOne}
use Rattle.queue_core.specs.private.Changes.{IsReserved, HasRoom}
use Rattle.queue_core.specs.private.Records.{records_in, slots_in, born_in, with_parts, HasIndices, IsReady}
use Rattle.queue_core.proofs.indexed.SlotsIndexedLemmas.{can_replace, indexed_replaced, indexed_more, indexed_same, indexed_reserved, room_more, room_for_one}

abbrev slot_in : Option Record → Option Slot
slot_in o = option_map (λ (r : Record). r.slot) o

some_at : (o : Option Record) → IsSome o → (r : Record) × (o ≡ Some r)
some_at None is = absurd (false≢true is)
some_at (Some r) is = (r, refl)

slot_some : (o : Option Record) (s : Slot) → Some s ≡ slot_in o → (r : Record) × (o ≡ Some r)
slot_some None s is = absurd cc
slot_some (Some r) s is = (r, refl)

-- ---- one number's record replaced

slot_replaced : (b : Bool) (after o p : Option Record) → p ≡ (if b then after else o) → slot_in p ≡ (if b then slot_in after else slot_in o)
slot_replaced true after o p is = ap slot_in is
slot_replaced false after o p is = ap slot_in is

sent_replaced : (b : Bool) (after o p : Option Record) (r : Record) → p ≡ (if b then after else o) → p ≡ Some r
    → ((r : Record) → after ≡ Some r → r.slot.sent ≡ r.first_send_time) → ((r : Record) → o ≡ Some r → r.slot.sent ≡ r.first_send_time) → r.slot.sent ≡ r.first_send_time
sent_replaced true after o p r same is new old = new r (sym same ∙ is)
sent_replaced false after o p r same is new old = old r (sym same ∙ is)

module _ (x y : MessageIndex) (number count : ℕ) (after : Option Record) where
  has_replaced : AreIndexed (slots_in x) count x.indices → ((n : ℕ) (r : Record) → records_in x n ≡ Some r → r.slot.sent ≡ r.first_send_time)
      → ((r : Record) → after ≡ Some r → r.slot.sent ≡ r.first_send_time) → number < count → (slots_in x number ≡ None → HasRoomForOne (slots_in x) count x.indices)
      → IsReplaced number (slots_in x number) (slot_in after) x.indices y.indices → ((n : ℕ) → records_in y n ≡ (if nat_eq n number then after else records_in x n))
      → born_in y ≡ count → HasIndices y
  has_replaced indexed old new below room replaced records born = record {
    indices =
        subst (λ k. AreIndexed (slots_in y) k y.indices) (sym born)
        (indexed_replaced (slots_in x) (slots_in y) count x.indices y.indices number (slots_in x number) (slot_in after) indexed refl below room replaced
        (λ n. slot_replaced (nat_eq n number) after (records_in x n) (records_in y n) (records n)));
    sent = λ n r is. sent_replaced (nat_eq n number) after (records_in x n) (records_in y n) r (records n) is new (old n);
  }

-- what is kept was begun
kept_below : (x : MessageIndex) (number : ℕ) (r : Record) → HasIndices x → records_in x number ≡ Some r → number < born_in x
kept_below x number r has is = elim (cases_lt number (born_in x)) [
  | inl below ↦ below
  | inr past ↦ absurd (let none : slots_in x number ≡ None = has.indices.few number past in let some : slots_in x number ≡ Some r.slot = ap slot_in is in cc)
]

-- there is a count of receives for each message that was begun, and no list has as many elements as that
pub born_few : (x : MessageIndex) → born_in x < 2 ^ 63
born_few x = omega (arith, x.receives.ok.0, x.receives.ok.1, x.receives.small)

-- ---- a message that is begun

pub can_begin : (x : MessageIndex) (number : ℕ) (slot : Slot) → HasIndices x → IsReady x → number ≡ born_in x → CanReplace number None (Some slot) x.indices
can_begin x number slot has ready next =
    can_replace (slots_in x) (born_in x) x.indices number None (Some slot) has.indices (has.indices.few number (omega arith)) (λ _. ready.indices)
    (omega (arith, next, ready.place)) (born_few x)

pub has_begun : (x y : MessageIndex) (number : ℕ) (kept : Record) → HasIndices x → IsReady x → number ≡ born_in x → kept.slot.sent ≡ kept.first_send_time
    → IsReplaced number None (Some kept.slot) x.indices y.indices → ((n : ℕ) → records_in y n ≡ (if nat_eq n number then Some kept else records_in x n))
    → y.receives.items ≡ x.receives.items ++ 0 ∷ [] → HasIndices y
has_begun x y number kept has ready next sent replaced records receives =
    let none : slots_in x number ≡ None = has.indices.few number (omega arith) in
    has_replaced x y number (born_in x + 1) (Some kept) (indexed_more (slots_in x) (born_in x) x.indices has.indices ready.place) has.sent
    (λ r is. let same : kept ≡ r = cc in subst (λ (k : Record). k.slot.sent ≡ k.first_send_time) same sent)
    (omega arith)
    (λ _. room_more (slots_in x) (born_in x) x.indices has.indices ready.indices)
    (subst (λ (o : Option Slot). IsReplaced number o (Some kept.slot) x.indices y.indices) (sym none) replaced)
    records
    (ap length receives ∙ length-append x.receives.items (0 ∷ []))

-- ---- a message that is there

module _ (x : MessageIndex) (number : ℕ) (has : HasIndices x) (kept : IsSome (records_in x number)) where
  slot_there : slots_in x number ≡ None → ⊥
  slot_there none = let k = some_at (records_in x number) kept in let some : slots_in x number ≡ Some k.0.slot = ap slot_in k.1 in absurd cc

  pub can_change : (after : Option Slot) → CanReplace number (slots_in x number) after x.indices
  can_change after =
      let k = some_at (records_in x number) kept in
      can_replace (slots_in x) (born_in x) x.indices number (slots_in x number) after has.indices refl (λ none. absurd (slot_there none))
      (omega (arith, kept_below x number k.0 has k.1, has.indices.ages.within)) (born_few x)

  has_changed : (y : MessageIndex) (after : Option Record) → ((r : Record) → after ≡ Some r → r.slot.sent ≡ r.first_send_time)
      → IsReplaced number (slots_in x number) (slot_in after) x.indices y.indices → ((n : ℕ) → records_in y n ≡ (if nat_eq n number then after else records_in x n))
      → y.receives.items ≡ x.receives.items → HasIndices y
  has_changed y after new replaced records receives =
      let k = some_at (records_in x number) kept in
      has_replaced x y number (born_in x) after has.indices has.sent new (kept_below x number k.0 has k.1) (λ none. absurd (slot_there none)) replaced records (ap length receives)

  -- with another slot and other times of receives
  changed : (f : Record → Record) (r : Record) → records_in x number ≡ Some r → (n : ℕ) (b : Bool) → nat_eq n number ≡ b
      → (if b then option_map f (records_in x n) else records_in x n) ≡ (if b then Some (f r) else records_in x n)
  changed f r is n true e = ap (λ k. option_map f (records_in x k)) (eqb-true n number e) ∙ ap (option_map f) is
  changed f r is n false e = refl

  pub has_rewritten : (y : MessageIndex) (first_receive : Option ℕ) (last_receive : ℕ) (slot : Slot) → ((r : Record) → records_in x number ≡ Some r → slot.sent ≡ r.slot.sent)
      → IsReplaced number (slots_in x number) (Some slot) x.indices y.indices
      → ((n : ℕ) → records_in y n ≡ (if nat_eq n number then option_map (with_parts first_receive last_receive slot) (records_in x n) else records_in x n))
      → y.receives.items ≡ x.receives.items → HasIndices y
  has_rewritten y first_receive last_receive slot sent replaced records receives =
      let k = some_at (records_in x number) kept in
      let there : slot.sent ≡ k.0.first_send_time = sent k.0 k.1 ∙ has.sent number k.0 k.1 in
      has_changed y (Some (with_parts first_receive last_receive slot k.0))
      (λ r is. let same : with_parts first_receive last_receive slot k.0 ≡ r = cc in subst (λ (q : Record). q.slot.sent ≡ q.first_send_time) same there)
      replaced
      (λ n. records n ∙ changed (with_parts first_receive last_receive slot) k.0 k.1 n (nat_eq n number) refl)
      receives

  -- and without it
  has_taken_out : (y : MessageIndex) → IsReplaced number (slots_in x number) None x.indices y.indices → ((n : ℕ) → records_in y n ≡ (if nat_eq n number then None else records_in x n))
      → y.receives.items ≡ x.receives.items → HasIndices y
  has_taken_out y replaced records receives = has_changed y None (λ r is. absurd cc) replaced records receives

-- the same by its slot
module _ (x : MessageIndex) (number : ℕ) (slot : Slot) (has : HasIndices x) (is : Some slot ≡ slots_in x number) where
  there : IsSome (records_in x number)
  there = let k = slot_some (records_in x number) slot is in ap is_some k.1

  pub can_take_out : CanReplace number (Some slot) None x.indices
  can_take_out = subst (λ (o : Option Slot). CanReplace number o None x.indices) (sym is) (can_change x number has there None)

  pub has_let_go : (y : MessageIndex) → IsReplaced number (Some slot) None x.indices y.indices → ((n : ℕ) → records_in y n ≡ (if nat_eq n number then None else records_in x n))
      → y.receives.items ≡ x.receives.items → HasIndices y
  has_let_go y replaced records receives =
      has_taken_out x number has there y (subst (λ (o : Option Slot). IsReplaced number o None x.indices y.indices) is replaced) records receives

-- ---- how many are kept

-- the numbers of a range that pass a test differ
differ_if : (k : ℕ) (b : Bool) (x : ℕ) (xs : List ℕ) → nat_eq k x ≡ false → AllByRecursion (λ y. nat_eq k y ≡ false) xs → AllByRecursion (λ y. nat_eq k y ≡ false) (cond b (x ∷ xs) xs)
differ_if k true x xs here rest = (here, rest)
differ_if k false x xs here rest = rest

distinct_if : (b : Bool) (x : ℕ) (xs : List ℕ) → AllByRecursion (λ y. nat_eq x y ≡ false) xs → IsDistinct nat_eq xs → IsDistinct nat_eq (cond b (x ∷ xs) xs)
unfolding IsDistinct
distinct_if true x xs here rest = (here, rest)
distinct_if false x xs here rest = rest

differ_range : (p : ℕ → Bool) (k a n : ℕ) → k < a → AllByRecursion (λ y. nat_eq k y ≡ false) (filter p (range_with_len a n))
differ_range p k a zero h = tt
differ_range p k a (suc n) h =
    differ_if k (p a) a (filter p (range_with_len (a + 1) n)) (ne_eqb k a (λ e. omega arith)) (differ_range p k (a + 1) n (omega arith))

distinct_range : (p : ℕ → Bool) (a n : ℕ) → IsDistinct nat_eq (filter p (range_with_len a n))
unfolding IsDistinct
distinct_range p a zero = tt
distinct_range p a (suc n) = distinct_if (p a) a (filter p (range_with_len (a + 1) n)) (differ_range p a (a + 1) n (omega arith)) (distinct_range p (a + 1) n)

-- and each passes
passes : (p : ℕ → Bool) (xs : List ℕ) (q : ℕ) → list_any (nat_eq q) (filter p xs) ≡ true → p q ≡ true
passes p xs q is = (and_parts (list_any (nat_eq q) xs) (p q) (sym (is_member-filter nat_eq_equiv p q (λ x e. ap p (eqb-true q x e)) xs) ∙ is)).1

kept_slot : (o : Option Record) → is_some (slot_in o) ≡ true → IsSome o
kept_slot None is = absurd (false≢true is)
kept_slot (Some r) is = refl

-- no more than there are records
pub kept_count : (x : MessageIndex) (count : ℕ) → count_slots is_some (slots_in x) count ≤ index_map_len x.records
kept_count x count =
    let p = λ (n : ℕ). is_some (slots_in x n) in
    let few : length (filter p (range_with_len 0 count)) ≤ index_map_len x.records =
    length-le_from_keys nat_eq_equiv (filter p (range_with_len 0 count)) x.records.entries (distinct_range p 0 count)
    (λ q is. kept_slot (records_in x q) (passes p (range_with_len 0 count) q is)) in
    let same : length (filter p (range_with_len 0 count)) ≡ count_slots is_some (slots_in x) count = length-filter p (range_with_len 0 count) in
    omega arith

-- ---- room for one message more

module _ (x y : MessageIndex) (has : HasIndices x) (entries : y.records.entries ≡ x.records.entries) (receives : y.receives.items ≡ x.receives.items)
    (reserved : IsReserved x.indices y.indices) where
  same_records : (n : ℕ) → records_in y n ≡ records_in x n
  same_records n = ap (λ es. lookup (nat_eq n) es) entries

  pub has_reserved : HasIndices y
  has_reserved = record {
    indices =
        subst (λ k. AreIndexed (slots_in y) k y.indices) (sym (ap length receives))
        (indexed_same (slots_in x) (slots_in y) (born_in x) y.indices (λ n. ap slot_in (same_records n))
        (indexed_reserved (slots_in x) (born_in x) x.indices y.indices has.indices reserved));
    sent = λ n r is. has.sent n r (sym (same_records n) ∙ is);
  }

  pub ready_reserved : (room lacking : ℕ) → index_map_len x.records < room → HasRoom room room room y.indices → lacking ≡ count_slots is_left (slots_in x) (born_in x) + x.indices.failing
      → HasPlaces (lacking + 1) (born_in x + 1) y.indices.ages → 1 ≤ spare y.records → length y.receives.items < vec_capacity y.receives → IsReady y
  ready_reserved room lacking more has_room counted places records born =
      let few = kept_count y (born_in y) in
      let same : index_map_len y.records ≡ index_map_len x.records = ap length entries in
      let less : count_slots is_some (slots_in y) (born_in y) < room = omega arith in
      let slots : slots_in x ≡ slots_in y = λ i. λ n. sym (ap slot_in (same_records n)) i in
      let length_is : born_in y ≡ born_in x = ap length receives in
      let left_is : count_slots is_left (slots_in y) (born_in y) ≡ count_slots is_left (slots_in x) (born_in x) =
      ap (λ (count : ℕ). count_slots is_left (slots_in y) count) length_is ∙ ap (λ (s : ℕ → Option Slot). count_slots is_left s (born_in x)) (sym slots) in
      record {
        indices = room_for_one (slots_in y) (born_in y) y.indices room room room has_reserved.indices has_room less less less (omega (arith, left_is, counted, reserved.failing, places.room));
        records = records;
        receives = born;
        place = omega (arith, length_is, places.within);
      }
