-- How many messages have left, and that the list of ages never has more than are kept.
use Rattle.std.proofs.Common.{◌≡◌, ℕ, ◌+◌, ◌<◌, ◌≤◌, ◌^◌, Bool, true, false, ◌&&◌, List, [], ◌∷◌, length, count_by, Option, is_some, inl, inr, refl, sym, ap, ◌∙◌, arith}
use Rattle.std.specs.List.{range_with_len}
use Rattle.std.specs.FinMap as finite
use Rattle.std.proofs.lemmas.Bool.{false≢true, cases_lt}
use Rattle.std.proofs.lemmas.List.Sums.{sum_by-cons}
use Rattle.queue_core.specs.declared.index.MessageIndex.{MessageIndex}
use Rattle.queue_core.specs.declared.indices.Indices.{Indices}
use Rattle.queue_core.specs.declared.ages.Ages.{Ages}
use Rattle.indexmap.specs.IndexMap.{index_map_len}
use Rattle.queue_core.specs.private.Ages.{place_if, IsLonger}
use Rattle.queue_core.specs.private.Changes.{IsReserved}
use Rattle.queue_core.specs.Messages.{contains_number}
use Rattle.queue_core.specs.private.Slots.{has_age, is_failing, is_left, count_slots, one_if}
use Rattle.queue_core.specs.private.Records.{slots_in, born_in, IsIndexed}
use Rattle.queue_core.proofs.indexed.SlotLemmas.{counted}
use Rattle.queue_core.proofs.indexed.SlotCountLemmas.{count_agree, count_members, count_parts, count_upto}
use Rattle.queue_core.proofs.costs.BoundLemmas.{len-counted}
use Rattle.queue_core.proofs.records.KeptRecordLemmas.{born_few, kept_count}

and_true : (b : Bool) → (b && true) ≡ b
and_true true = refl
and_true false = refl

count_all : (xs : List ℕ) → count_by (λ n. true) xs ≡ length xs
count_all [] = refl
count_all (x ∷ xs) = omega (arith, sum_by-cons (λ (n : ℕ). one_if true) x xs, count_all xs)

module _ (x : MessageIndex) (is : IsIndexed x) where
  leaving_below : (n : ℕ) → contains_number n x.leaving.items ≡ true → n < born_in x
  leaving_below n there = elim (cases_lt n (born_in x)) [
    | inl below ↦ below
    | inr past ↦ absurd (false≢true (sym (ap is_left (is.indices.indices.few n past)) ∙ sym (is.leaving n) ∙ there))
  ]

  -- as many have left as stand in the queue of those that leave
  pub left_counted : count_slots is_left (slots_in x) (born_in x) ≡ length x.leaving.items
  left_counted =
      let members = count_members (λ n. true) x.leaving.items (born_in x) is.once leaving_below in
      let same =
      count_agree (λ n. is_left (slots_in x n)) (λ n. contains_number n x.leaving.items && true) (born_in x) (λ n. and_true (contains_number n x.leaving.items) ∙ is.leaving n) in
      sym same ∙ members ∙ count_all x.leaving.items

  -- what is kept has its age looked at, keeps failing or has left
  all_parts : count_slots has_age (slots_in x) (born_in x) + x.indices.failing + length x.leaving.items ≤ count_slots is_some (slots_in x) (born_in x)
  all_parts =
      let parts =
      count_parts (λ n. has_age (slots_in x n)) (λ n. is_failing (slots_in x n)) (λ n. is_left (slots_in x n)) (λ n. false) (λ n. is_some (slots_in x n)) (range_with_len 0 (born_in x))
      (λ n. omega (arith, (counted (slots_in x n)).age)) in
      omega (arith, parts, left_counted, is.indices.indices.failing)

  -- of all that there were
  pub few_without : length x.leaving.items + x.indices.failing < 2 ^ 63
  few_without = omega (arith, all_parts, count_upto (λ n. is_some (slots_in x n)) (born_in x), born_few x)

  listed_where : (here : Bool) (n : ℕ) → is_some (place_if here x.indices.ages n) ≡ here
  listed_where true n = refl
  listed_where false n = refl

  -- the list has a slot for each number whose age is looked at
  listed_count : finite.len x.indices.ages.list.slots ≤ count_slots has_age (slots_in x) (born_in x)
  listed_count =
      let slots = x.indices.ages.list.slots in
      let found : (n : ℕ) → is_some (finite.get slots n) ≡ has_age (slots_in x n) =
      λ n. ap (λ (o : Option ℕ). is_some o) (is.indices.indices.ages.found n) ∙ listed_where (has_age (slots_in x n)) n in
      let few = len-counted slots (born_in x)
      (λ n past. is.indices.indices.ages.found n ∙ ap (λ (b : Bool). place_if b x.indices.ages n) (ap has_age (is.indices.indices.few n past))) in
      let same = count_agree (λ n. has_age (slots_in x n)) (λ n. is_some (finite.get slots n)) (born_in x) found in
      omega (arith, few, same)

  -- so it has fewer than it may, with one for each that it lacks and one more
  pub few_ages : (y : Indices) → IsReserved x.indices y → (lacking : ℕ) → lacking ≡ length x.leaving.items + x.indices.failing → index_map_len x.records < 2 ^ 31
      → finite.len y.ages.list.slots + (lacking + 1) < 2 ^ 32
  few_ages y reserved lacking same few =
      let slots : finite.len y.ages.list.slots ≡ finite.len x.indices.ages.list.slots = ap (λ m. finite.len m) reserved.ages.slots in
      omega (arith, few, same, slots, listed_count, all_parts, kept_count x (born_in x))

-- ---- room made twice

longer_still : (x y z : Ages) → IsLonger x y → IsLonger y z → IsLonger x z
longer_still x y z first second = record {
  slots = second.slots ∙ first.slots;
  places = λ n. second.places n ∙ first.places n;
  len = omega (arith, first.len, second.len);
  spare = omega (arith, first.spare, second.spare);
}

-- in the list of ages after the others
pub reserved_ages : (x y : Indices) (ages : Ages) → IsReserved x y → IsLonger y.ages ages → IsReserved x (record y { ages = ages })
reserved_ages x y ages first second = record {
  due = first.due;
  sent = first.sent;
  visible = first.visible;
  delayed = first.delayed;
  in_flight = first.in_flight;
  failing = first.failing;
  due_spare = first.due_spare;
  sent_spare = first.sent_spare;
  visible_spare = first.visible_spare;
  ages = longer_still x.ages y.ages ages first.ages second;
}
