-- What a call may cost, by what an operation counter and the weight of a queue come to together.
use Rattle.std.proofs.Common.{◌≡◌, ◌≢◌, ℕ, zero, suc, ◌+◌, ◌-◌, ◌*◌, ◌<◌, ◌≤◌, ◌^◌, Bool, true, false, not, cond, ◌&&◌, ◌||◌, ◌==◌, List, [], ◌∷◌, map, length, get_or, inl, inr, Option, Some, None, refl, sym, ap, subst, ◌∙◌, arith}
use Rattle.std.specs.Prelude.{count_by, nat_eq, filter, option_map, is_some}
use Rattle.std.specs.Option.{option_map_or}
use Rattle.std.specs.List.{sum_by, range_with_len, AllPairs, IsDistinct}
use Rattle.std.specs.Map.{keys_of}
use Rattle.std.specs.Set.{is_member}
use Rattle.std.specs.Ordering.{eq_by_cmp, nat_cmp}
use Rattle.std.specs.Int.Digits.{digits_of}
use Rattle.std.specs.FinMap as finite
use Rattle.std.proofs.Math.Nat.{mul-add, mul_assoc, mul-mul-mul_comm}
use Rattle.std.proofs.lemmas.Bool.{false≢true, cases_lt, eqb-true, eq-eqb, ne_eqb, and_parts, and_from, or_cases, or_left, or_right}
use Rattle.std.proofs.lemmas.Bool.Decides.{Decides-eqb, nat_tests}
use Rattle.std.proofs.lemmas.Cmp.{nat_eq_equiv, nat_cmp_total}
use Rattle.std.proofs.lemmas.Int.Digits.{number_lt, number_digits_of, all_below_base_digits_of}
use Rattle.std.proofs.lemmas.List.{length-map}
use Rattle.std.proofs.lemmas.List.Folds.{list_any-from_Any}
use Rattle.std.proofs.lemmas.List.FromFn.{length-range_with_len, length-map-range_with_len, get_or-range_with_len}
use Rattle.std.proofs.lemmas.List.Kept.{AllPairs-filter}
use Rattle.std.proofs.lemmas.List.Sums.{sum_by-cons, length-filter}
use Rattle.std.proofs.lemmas.Map.Keys.{IsDistinct-from_apart}
use Rattle.std.proofs.lemmas.Map.Made.{is_member-filter, is_some-lookup, length-le_from_is_member, IsDistinct-from_AllPairs}
use Rattle.std.proofs.lemmas.Map.Steps.{length-le_from_keys}
use Rattle.std.proofs.lemmas.Nat.{mul-le}
use Rattle.std.proofs.lemmas.Option.{slice_get-get_or, get_or_from_slice_get}
use Rattle.indexmap.specs.IndexMap.{IsUnique, index_map_len}
use Rattle.message.specs.Content.{ContentText}
use Rattle.journal.specs.Order.{is_before}
use Rattle.journal.specs.declared.entry.Event.{Event}
use Rattle.visible_index.specs.Pairs.{same_pair, has_pair}
use Rattle.queue_core.specs.declared.facts.Message.{Message}
use Rattle.queue_core.specs.declared.facts.MessageState.{MessageState}
use Rattle.queue_core.specs.declared.facts.MessageState.TheVariants.{Visible, Delayed, InFlight}
use Rattle.queue_core.specs.declared.slot.Slot.{Slot}
use Rattle.queue_core.specs.declared.record.Record.{Record}
use Rattle.queue_core.specs.declared.index.MessageIndex.{MessageIndex}
use Rattle.queue_core.specs.Messages.{messages, message_count, receive_count, awaits_transfer}
use Rattle.queue_core.specs.States.{is_live, state_of, same_state, is_in_state, is_numbered, message_numbered}
use Rattle.queue_core.specs.Queue.{QueueHistory, at_moment, waiting_count, with_event}
use Rattle.queue_core.specs.private.Slots.{one_if, is_shown_stay, is_left_stay, is_here, is_left, due_in, sent_in, shows, count_slots, AreIndexed}
use Rattle.queue_core.specs.private.Records.{records_in, slots_in, born_in, HasIndices}
use Rattle.queue_core.specs.private.Indexed.{IsIndexOf}
use Rattle.queue_core.proofs.Scans.{births_few}
use Rattle.queue_core.proofs.records.FactLemmas.{IsAbout, IsSound}
use Rattle.queue_core.proofs.checkpoints.StandingCountLemmas.{numbers_same}
use Rattle.queue_core.proofs.records.SummaryLemmas.{records-kept}
use Rattle.queue_core.specs.Cost.{binary_digits, touched_count, most_ticks}
use Rattle.queue_core.specs.private.Spending.{weight, AreBelow, event_adds, state_weight, queue_weight, queue_kept, HasCome, HasAdded}
use Rattle.queue_core.proofs.indexed.AgeLemmas.{len_below}
use Rattle.queue_core.proofs.entries.PairLemmas.{AllPairs-map, count_by-places}
use Rattle.queue_core.proofs.indexed.SlotCountLemmas.{count_more}
use Rattle.queue_core.proofs.indexed.IndexedLemmas.{here_is, left_is, delayed_count, in_flight_count, visible_count}
use Rattle.queue_core.proofs.costs.TouchLemmas.{later-weight, added-weight}

-- ---- numbers

-- a number is less than two to the power of how many binary digits it has
below_digits : (n : ℕ) → n < 2 ^ binary_digits n
below_digits n =
    subst (λ (k : ℕ). k < 2 ^ length (digits_of 2 n)) (number_digits_of 2 n (omega arith)) (number_lt 2 (digits_of 2 n) (all_below_base_digits_of 2 n (omega arith)))

-- the factors of the greatest cost otherwise
factors : (digits touched : ℕ) → 2 * digits * (12 * touched) ≡ 24 * digits * touched
factors digits touched = mul-mul-mul_comm 2 digits 12 touched ∙ sym (mul_assoc 24 digits touched)

times : (k a b : ℕ) → a ≤ b → k * a ≤ k * b
times k a b h = mul-le k a k b (omega arith) h

-- weights are worth k operations each
paid_later : (k ticks ticks' before after most : ℕ) → ticks' + k * after ≤ ticks + k * before → before ≤ after + most → ticks' ≤ ticks + k * most
paid_later k ticks ticks' before after most h fits =
    let more : k * before ≤ k * (after + most) = times k before (after + most) fits in
    omega (arith, mul-add k after most)

paid_added : (k ticks ticks' ticks'' before between after adds most : ℕ) → ticks' + k * between ≤ ticks + k * before → ticks'' + k * after ≤ ticks' + k * (between + adds)
    → before + adds ≤ after + most → ticks'' ≤ ticks + k * most
paid_added k ticks ticks' ticks'' before between after adds most h g fits =
    let more : k * (before + adds) ≤ k * (after + most) = times k (before + adds) (after + most) fits in
    omega (arith, mul-add k between adds, mul-add k before adds, mul-add k after most)

-- ---- what a call may cost

pub bound-later : (ticks ticks' : ℕ) (p q : QueueHistory) → HasCome ticks p ticks' q → ticks' ≤ ticks + most_ticks p q
bound-later ticks ticks' p q come =
    let digits = binary_digits (queue_kept p + 1) in
    let enough = below_digits (queue_kept p + 1) in
    let touched = touched_count p q + 1 in
    let more : message_count p.lines ≤ message_count q.lines = omega (arith, numbers_same q (at_moment p come.at) come.later) in
    subst (λ (n : ℕ). ticks' ≤ ticks + n) (factors (digits + 1) touched)
    (paid_later (2 * (digits + 1)) ticks ticks' (queue_weight p) (queue_weight q) (12 * touched) (come.spent digits (omega arith)) (later-weight p q more))

pub bound-event : (ticks ticks' ticks'' : ℕ) (p q : QueueHistory) (event : Event ContentText) → IsAbout q event → HasCome ticks p ticks' q
    → HasAdded event ticks' q ticks'' (with_event q event) → ticks'' ≤ ticks + most_ticks p (with_event q event)
bound-event ticks ticks' ticks'' p q event about come has =
    let digits = binary_digits (queue_kept p + 1) in
    let enough = below_digits (queue_kept p + 1) in
    let few = births_few event about.alone in
    let r = with_event q event in
    let touched = touched_count p r + 1 in
    let kept = come.kept in
    subst (λ (n : ℕ). ticks'' ≤ ticks + n) (factors (digits + 1) touched)
    (paid_added (2 * (digits + 1)) ticks ticks' ticks'' (queue_weight p) (queue_weight q) (queue_weight r) (event_adds (λ target. waiting_count q target) event) (12 * touched)
    (come.spent digits (omega arith)) (has digits (omega arith)) (added-weight p q come.at come.later event about))

pub bound-added : (ticks ticks' ticks'' : ℕ) (p q : QueueHistory) (event : Event ContentText) → IsSound p.lines p.clock → IsSound q.lines q.clock → IsAbout q event → HasCome ticks p ticks' q
    → HasAdded event ticks' q ticks'' (with_event q event) → ticks'' ≤ ticks + most_ticks p (with_event q event)
bound-added ticks ticks' ticks'' p q event sound other about come has = bound-event ticks ticks' ticks'' p q event about come has

-- ---- how many numbers pass a test

one_if-implied : (a b : Bool) → (a ≡ true → b ≡ true) → one_if a ≤ one_if b
one_if-implied true b h = let is : one_if b ≡ 1 = ap one_if (h refl) in omega arith
one_if-implied false b h = omega arith

count-implied : (p q : ℕ → Bool) (xs : List ℕ) → ((n : ℕ) → p n ≡ true → q n ≡ true) → count_by p xs ≤ count_by q xs
count-implied p q [] h = omega arith
count-implied p q (x ∷ xs) h =
    let first : one_if (p x) ≤ one_if (q x) = one_if-implied (p x) (q x) (h x) in
    let rest : count_by p xs ≤ count_by q xs = count-implied p q xs h in
    omega (arith, sum_by-cons (λ n. one_if (p n)) x xs, sum_by-cons (λ n. one_if (q n)) x xs)

module _ (p : ℕ → Bool) (count : ℕ) where
  -- the numbers below a count that pass
  abbrev passing : List ℕ
  passing = filter p (range_with_len 0 count)

  passing-length : length passing ≡ count_by p (range_with_len 0 count)
  passing-length = length-filter p (range_with_len 0 count)

  range-apart : AllPairs (λ a b. a ≢ b) (range_with_len 0 count)
  range-apart i j d h k e =
      let size = length-range_with_len 0 count in
      let first = get_or-range_with_len 0 count i d (omega arith) in
      let second = get_or-range_with_len 0 count j d (omega arith) in
      omega arith

  passing-distinct : IsDistinct nat_eq passing
  passing-distinct = IsDistinct-from_AllPairs Decides-eqb passing (AllPairs-filter (λ a b. a ≢ b) p (range_with_len 0 count) range-apart)

  passing-is : (n : ℕ) → is_member nat_eq passing n ≡ (is_member nat_eq (range_with_len 0 count) n && p n)
  passing-is n = is_member-filter nat_eq_equiv p n (λ x e. ap p (eqb-true n x e)) (range_with_len 0 count)

  in-range : (n : ℕ) → n < count → is_member nat_eq (range_with_len 0 count) n ≡ true
  in-range n h =
      let at : 0 + n ≡ n = omega arith in
      list_any-from_Any (nat_eq n) (range_with_len 0 count) (n, n, omega (arith, length-range_with_len 0 count), get_or-range_with_len 0 count n n h ∙ at, eq-eqb n n refl)

  -- numbers below the count that pass, of which no two are equal
  distinct-few : (xs : List ℕ) → IsDistinct nat_eq xs → ((n : ℕ) → is_member nat_eq xs n ≡ true → n < count) → ((n : ℕ) → is_member nat_eq xs n ≡ true → p n ≡ true)
      → length xs ≤ count_by p (range_with_len 0 count)
  distinct-few xs distinct below passes =
      let few = length-le_from_is_member nat_eq_equiv xs passing distinct (λ n is. passing-is n ∙ and_from (is_member nat_eq (range_with_len 0 count) n) (p n) (in-range n (below n is)) (passes n is)) in
      omega (arith, passing-length)

-- a map of numbers below a count
one-less : (b : Bool) (all rest : ℕ) → rest ≡ cond b (all - 1) all → all ≤ rest + one_if b
one-less true all rest e = omega arith
one-less false all rest e = omega arith

less-some : {X : Type 0} (b : Bool) (o p : Option X) → p ≡ cond b None o → is_some p ≡ true → is_some o ≡ true
less-some true o p e h = absurd (false≢true (sym (ap is_some e) ∙ h))
less-some false o p e h = sym (ap is_some e) ∙ h

less-none : {X : Type 0} (b : Bool) (o p : Option X) → p ≡ cond b None o → (b ≡ false → o ≡ None) → p ≡ None
less-none true o p e h = e
less-none false o p e h = e ∙ h refl

itself : (a b : ℕ) → eq_by_cmp nat_cmp a b ≡ false → a ≡ b → ⊥
itself a b h e = grind (arith, nat_tests)

module _ (m : finite.FinMap nat_cmp ℕ) (count : ℕ) where
  without_last : (n : ℕ) → finite.get (finite.remove m count) n ≡ cond (eq_by_cmp nat_cmp n count) None (finite.get m n)
  without_last n = finite.get-remove nat_cmp_total m count n

  without_last-none : ((n : ℕ) → count + 1 ≤ n → finite.get m n ≡ None) → (n : ℕ) → count ≤ n → finite.get (finite.remove m count) n ≡ None
  without_last-none none n h =
      less-none (eq_by_cmp nat_cmp n count) (finite.get m n) (finite.get (finite.remove m count) n) (without_last n)
      (λ other. none n (let apart : n ≡ count → ⊥ = itself n count other in omega arith))

pub len-counted : (m : finite.FinMap nat_cmp ℕ) (count : ℕ) → ((n : ℕ) → count ≤ n → finite.get m n ≡ None) → finite.len m ≤ count_by (λ n. is_some (finite.get m n)) (range_with_len 0 count)
len-counted m zero none = omega (arith, len_below m 0 none)
len-counted m (suc count) none =
    let next : count + 1 ≡ suc count = omega arith in
    let rest = len-counted (finite.remove m count) count (without_last-none m count (λ n h. none n (omega arith))) in
    let fewer =
    count-implied (λ n. is_some (finite.get (finite.remove m count) n)) (λ n. is_some (finite.get m n)) (range_with_len 0 count)
    (λ n h. less-some (eq_by_cmp nat_cmp n count) (finite.get m n) (finite.get (finite.remove m count) n) (without_last m count n) h) in
    let one = one-less (is_some (finite.get m count)) (finite.len m) (finite.len (finite.remove m count)) (finite.len-remove nat_cmp_total m count) in
    let all : count_by (λ n. is_some (finite.get m n)) (range_with_len 0 (suc count)) ≡ count_by (λ n. is_some (finite.get m n)) (range_with_len 0 count) + one_if (is_some (finite.get m count)) =
    ap (λ (k : ℕ). count_by (λ n. is_some (finite.get m n)) (range_with_len 0 k)) (sym next) ∙ count_more (λ n. is_some (finite.get m n)) count in
    omega arith

-- ---- how many messages are kept

some-slot : (o : Option Record) → is_some (option_map (λ (r : Record). r.slot) o) ≡ is_some o
some-slot None = refl
some-slot (Some r) = refl

module _ (x : MessageIndex) where
  -- the slots of the messages that are kept
  abbrev has_slot : ℕ → Bool
  has_slot n = is_some (slots_in x n)

  -- how many they are
  pub slots-upto : count_slots is_some (slots_in x) (born_in x) ≤ index_map_len x.records
  slots-upto =
      let few : length (passing has_slot (born_in x)) ≤ index_map_len x.records =
      length-le_from_keys nat_eq_equiv (passing has_slot (born_in x)) x.records.entries (passing-distinct has_slot (born_in x))
      (λ n is. sym (some-slot (records_in x n)) ∙ (and_parts (is_member nat_eq (range_with_len 0 (born_in x)) n) (has_slot n) (sym (passing-is has_slot (born_in x) n) ∙ is)).1) in
      omega (arith, passing-length has_slot (born_in x))

  slot-below : ((n : ℕ) → born_in x ≤ n → slots_in x n ≡ None) → (n : ℕ) → has_slot n ≡ true → n < born_in x
  slot-below few n h = elim (cases_lt n (born_in x)) [
    | inl below ↦ below
    | inr past ↦ absurd (false≢true (sym (ap is_some (few n past)) ∙ h))
  ]

  -- as many as there are records, where no two of these have one key
  pub slots-are : ((n : ℕ) → born_in x ≤ n → slots_in x n ≡ None) → IsUnique nat_eq x.records → index_map_len x.records ≡ count_slots is_some (slots_in x) (born_in x)
  slots-are few unique =
      let there : (n : ℕ) → is_member nat_eq (keys_of x.records.entries) n ≡ true → has_slot n ≡ true =
      λ n is. some-slot (records_in x n) ∙ is_some-lookup (nat_eq n) x.records.entries ∙ is in
      let most = distinct-few has_slot (born_in x) (keys_of x.records.entries) unique (λ n is. slot-below few n (there n is)) there in
      omega (arith, slots-upto, length-map x.records.entries (λ e. e.0))

-- ---- each index has a number of them

due-some : (o : Option Slot) → is_some (due_in o) ≡ true → is_some o ≡ true
due-some None h = h
due-some (Some s) h = refl

sent-some : (o : Option Slot) → is_some (sent_in o) ≡ true → is_some o ≡ true
sent-some None h = h
sent-some (Some s) h = refl

shows-some : (o : Option Slot) (moment : ℕ) → shows o moment ≡ true → is_some o ≡ true
shows-some None moment h = h
shows-some (Some s) moment h = refl

-- at one moment only
shows-once : (o : Option Slot) (a b : ℕ) → shows o a ≡ true → shows o b ≡ true → a ≡ b
shows-once None a b h k = absurd (false≢true h)
shows-once (Some s) a b h k =
    sym (eqb-true s.due a (and_parts (is_shown_stay s.stay) (s.due == a) h).1) ∙ eqb-true s.due b (and_parts (is_shown_stay s.stay) (s.due == b) k).1

not-before : (a b : ℕ × ℕ) → is_before a b ≡ true → a.0 ≡ b.0 → a.1 ≡ b.1 → ⊥
not-before a b h e f = grind (arith, nat_tests)

same-pair : (a : ℕ × ℕ) → same_pair a a ≡ true
same-pair a = and_from (a.0 == a.0) (a.1 == a.1) (eq-eqb a.0 a.0 refl) (eq-eqb a.1 a.1 refl)

has-at : (pairs : List (ℕ × ℕ)) (i : ℕ) (d : ℕ × ℕ) → i < length pairs → has_pair (get_or pairs i d) pairs ≡ true
has-at pairs i d h =
    let pair = get_or pairs i d in
    list_any-from_Any (same_pair pair) pairs (i, pair, h, get_or_from_slice_get pairs i pair pair (slice_get-get_or pairs i d h), same-pair pair)

-- a number of the pairs shows at some moment
number-shows : (slots : ℕ → Option Slot) (n : ℕ) (pairs : List (ℕ × ℕ)) → ((moment k : ℕ) → has_pair (moment, k) pairs ≡ true → shows (slots k) moment ≡ true)
    → is_member nat_eq (map (λ p. p.1) pairs) n ≡ true → is_some (slots n) ≡ true
number-shows slots n [] shown h = absurd (false≢true h)
number-shows slots n (p ∷ pairs) shown h = elim (or_cases (nat_eq n p.1) (is_member nat_eq (map (λ x. x.1) pairs) n) h) [
  | inl is ↦
      let here : shows (slots p.1) p.0 ≡ true = shown p.0 p.1 (or_left (same_pair p p) (has_pair p pairs) (same-pair p)) in
      ap (λ (k : ℕ). is_some (slots k)) (eqb-true n p.1 is) ∙ shows-some (slots p.1) p.0 here
  | inr later ↦ number-shows slots n pairs (λ moment k is. shown moment k (or_right (same_pair (moment, k) p) (has_pair (moment, k) pairs) is)) later
]

module _ (slots : ℕ → Option Slot) (pairs : List (ℕ × ℕ)) (shown : (moment n : ℕ) → has_pair (moment, n) pairs ≡ shows (slots n) moment)
    (strict : AllPairs (λ a b. is_before a b ≡ true) pairs) where
  pairs-apart : AllPairs (λ a b. nat_eq a.1 b.1 ≡ false) pairs
  pairs-apart i j d h k =
      let a = get_or pairs i d in
      let b = get_or pairs j d in
      let at_a : shows (slots a.1) a.0 ≡ true = sym (shown a.0 a.1) ∙ has-at pairs i d (omega arith) in
      let at_b : shows (slots b.1) b.0 ≡ true = sym (shown b.0 b.1) ∙ has-at pairs j d k in
      ne_eqb a.1 b.1 (λ e. not-before a b (strict i j d h k) (shows-once (slots b.1) a.0 b.0 (ap (λ (n : ℕ). shows (slots n) a.0) (sym e) ∙ at_a) at_b) e)

  pairs-few : (count : ℕ) → ((n : ℕ) → is_some (slots n) ≡ true → n < count) → length pairs ≤ count_slots is_some slots count
  pairs-few count below =
      let there : (n : ℕ) → is_member nat_eq (map (λ p. p.1) pairs) n ≡ true → is_some (slots n) ≡ true = λ n is. number-shows slots n pairs (λ moment k has. sym (shown moment k) ∙ has) is in
      let few = distinct-few (λ n. is_some (slots n)) count (map (λ p. p.1) pairs)
      (IsDistinct-from_apart nat_eq (map (λ p. p.1) pairs) (AllPairs-map (λ p. p.1) (λ a b. nat_eq a b ≡ false) pairs pairs-apart))
      (λ n is. below n (there n is)) there in
      omega (arith, length-map pairs (λ p. p.1))

pub below_slots-is : (x : MessageIndex) (c : ℕ) → HasIndices x → count_slots is_some (slots_in x) (born_in x) < 2 ^ c → AreBelow c x.indices
below_slots-is x c has few =
    let is = has.indices in
    let due = len-counted x.indices.due.moments (born_in x) (λ n past. is.due n ∙ ap due_in (is.few n past)) in
    let sent = len-counted x.indices.sent.moments (born_in x) (λ n past. is.sent n ∙ ap sent_in (is.few n past)) in
    let of_due = count-implied (λ n. is_some (finite.get x.indices.due.moments n)) (has_slot x) (range_with_len 0 (born_in x)) (λ n h. due-some (slots_in x n) (ap is_some (sym (is.due n)) ∙ h)) in
    let of_sent = count-implied (λ n. is_some (finite.get x.indices.sent.moments n)) (has_slot x) (range_with_len 0 (born_in x)) (λ n h. sent-some (slots_in x n) (ap is_some (sym (is.sent n)) ∙ h)) in
    record { due = omega arith; sent = omega arith; visible = omega (arith, pairs-few (slots_in x) x.indices.visible.pairs is.shown is.strict (born_in x) (slot-below x is.few)) }

pub below-is : (x : MessageIndex) (c : ℕ) → HasIndices x → index_map_len x.records < 2 ^ c → AreBelow c x.indices
below-is x c has few = below_slots-is x c has (omega (arith, slots-upto x))

-- ---- the weight of the indices, and the number of the records, are those of the queue

-- how many of the messages in each state there are, and what these weigh
weights : (f : Message → ℕ) (delayed in_flight visible : Message → Bool) (ms : List Message)
    → ((m : Message) → f m ≡ 6 * (one_if (delayed m) + one_if (in_flight m)) + 3 * one_if (visible m))
    → sum_by f ms ≡ 6 * (count_by delayed ms + count_by in_flight ms) + 3 * count_by visible ms
weights f delayed in_flight visible [] each = refl
weights f delayed in_flight visible (m ∷ ms) each =
    let first = each m in
    let rest = weights f delayed in_flight visible ms each in
    omega (arith, sum_by-cons f m ms, sum_by-cons (λ x. one_if (delayed x)) m ms, sum_by-cons (λ x. one_if (in_flight x)) m ms, sum_by-cons (λ x. one_if (visible x)) m ms)

abbrev stands : MessageState → Option MessageState → Bool
stands state o = option_map_or (λ s. same_state state s) o false

weight-parts : (o : Option MessageState) → state_weight o ≡ 6 * (one_if (stands Delayed o) + one_if (stands InFlight o)) + 3 * one_if (stands Visible o)
weight-parts None = refl
weight-parts (Some Visible) = refl
weight-parts (Some Delayed) = refl
weight-parts (Some InFlight) = refl

numbered-or : (p q : Message → Bool) (found : Option Message) → option_map_or (λ m. p m || q m) found false ≡ (option_map_or p found false || option_map_or q found false)
numbered-or p q None = refl
numbered-or p q (Some m) = refl

either : (b : Bool) → (not b || b) ≡ true
either true = refl
either false = refl

here-or_left : (o : Option Slot) → (is_here o || is_left o) ≡ is_some o
here-or_left None = refl
here-or_left (Some s) = either (is_left_stay s.stay)

or-same : (a b c d : Bool) → a ≡ c → b ≡ d → (a || b) ≡ (c || d)
or-same a b c d h k = rw (h, k) refl

module _ (q : QueueHistory) (x : MessageIndex) (is : IsIndexOf q.lines q.clock x) where
  born-count : born_in x ≡ message_count q.lines
  born-count = ap length is.receives ∙ length-map-range_with_len (λ n. receive_count q.lines n) 0 (message_count q.lines)

  pub weight-is : weight x.indices ≡ queue_weight q
  weight-is =
      let indices = is.indexed.indices.indices in
      let counted : AreIndexed (slots_in x) (message_count q.lines) x.indices = subst (λ (n : ℕ). AreIndexed (slots_in x) n x.indices) born-count indices in
      let delayed = delayed_count q.lines q.clock (records_in x) (records-kept q.lines q.clock x is) is.settled in
      let in_flight = in_flight_count q.lines q.clock (records_in x) (records-kept q.lines q.clock x is) is.settled in
      let visible = visible_count q.lines q.clock (records_in x) (records-kept q.lines q.clock x is) is.settled x.indices counted in
      let all = weights (λ m. state_weight (state_of q.lines q.clock m)) (λ m. is_in_state Delayed q.lines q.clock m) (λ m. is_in_state InFlight q.lines q.clock m)
      (λ m. is_in_state Visible q.lines q.clock m) (messages q.lines) (λ m. weight-parts (state_of q.lines q.clock m)) in
      omega (arith, counted.delayed, counted.in_flight)

  kept-at : (n : ℕ) → is_numbered (λ m. is_live q.lines q.clock m || awaits_transfer q.lines m) q.lines n ≡ is_some (slots_in x n)
  kept-at n =
      numbered-or (λ m. is_live q.lines q.clock m) (λ m. awaits_transfer q.lines m) (message_numbered q.lines n)
      ∙ (or-same (is_numbered (λ m. is_live q.lines q.clock m) q.lines n) (is_numbered (λ m. awaits_transfer q.lines m) q.lines n) (is_here (slots_in x n)) (is_left (slots_in x n))
      (here_is q.lines q.clock (records_in x) (records-kept q.lines q.clock x is) is.settled n) (left_is q.lines q.clock (records_in x) (records-kept q.lines q.clock x is) is.settled n)
      ∙ here-or_left (slots_in x n))

  pub kept_slots-is : count_slots is_some (slots_in x) (born_in x) ≡ queue_kept q
  kept_slots-is =
      let from_first : (k : ℕ) → k ≡ 0 + k = λ k. omega arith in
      ap (λ (count : ℕ). count_slots is_some (slots_in x) count) born-count
      ∙ sym (count_by-places (λ m. is_live q.lines q.clock m || awaits_transfer q.lines m) (λ n. is_some (slots_in x n)) 0 (messages q.lines)
      (λ k. kept-at k ∙ ap (λ (n : ℕ). is_some (slots_in x n)) (from_first k)))

  pub kept-upto : queue_kept q ≤ index_map_len x.records
  kept-upto = omega (arith, kept_slots-is, slots-upto x)

  pub kept-is : IsUnique nat_eq x.records → index_map_len x.records ≡ queue_kept q
  kept-is unique = slots-are x is.indexed.indices.indices.few unique ∙ kept_slots-is
