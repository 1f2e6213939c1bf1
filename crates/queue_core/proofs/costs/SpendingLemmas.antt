-- What a number's change of slots costs, and that changes one after another cost what they do together.
use Rattle.std.proofs.Common.{◌≡◌, ℕ, ◌+◌, ◌*◌, ◌<◌, ◌≤◌, Bool, true, false, cond, not, ◌==◌, ◌||◌, List, [], ◌∷◌, length, get_or, take, Option, Some, None, is_some, refl, sym, ap, subst, ◌∙◌, arith, eq-eqb}
use Rattle.std.specs.Prelude.{option_map, count_by}
use Rattle.std.proofs.lemmas.List.Sums.{sum_by_more, sum_by-take-le}
use Rattle.std.proofs.Math.Nat.{mul-le-mul_left}
use Rattle.indexmap.specs.IndexMap.{index_map_len}
use Rattle.visible_index.specs.Pairs.{same_pair, has_pair, insert_pair, without}
use Rattle.journal.specs.Order.{is_before}
use Rattle.queue_core.specs.declared.slot.Stay.{Stay}
use Rattle.queue_core.specs.declared.slot.Stay.TheVariants.{Hidden, Shown, Left}
use Rattle.queue_core.specs.declared.slot.Slot.{Slot}
use Rattle.queue_core.specs.declared.record.Record.{Record}
use Rattle.queue_core.specs.declared.indices.Indices.{Indices}
use Rattle.queue_core.specs.declared.index.MessageIndex.{MessageIndex}
use Rattle.queue_core.specs.private.Slots.{is_hidden_stay, is_left_stay, is_hidden, is_shown, is_here, is_delayed, is_in_flight, due_in, sent_in, is_left_for, one_if}
use Rattle.queue_core.specs.private.Changes.{shown_in, is_at}
use Rattle.queue_core.specs.Messages.{contains_number}
use Rattle.queue_core.specs.private.Records.{slots_in, HasIndices}
use Rattle.queue_core.specs.private.Applying.{HasChanged, among}
use Rattle.queue_core.specs.private.Spending.{weight, spent, AreBelow, moved, added, KeepsSent, CostsBetween}
use Rattle.queue_core.proofs.indexed.SlotLemmas.{counted}
use Rattle.queue_core.proofs.entries.NumberLemmas.{AreOnce, unseen}
use Rattle.queue_core.proofs.records.ChangeLemmas.{outside}
use Rattle.queue_core.proofs.costs.BoundLemmas.{below-is}

-- ---- pairs

length_where : (b : Bool) (p x : ℕ × ℕ) (xs ys : List (ℕ × ℕ)) → length ys ≡ length xs + 1 → length (cond b (x ∷ ys) (p ∷ x ∷ xs)) ≡ length xs + 2
length_where true p x xs ys h = omega arith
length_where false p x xs ys h = omega arith

pub length-insert_pair : (p : ℕ × ℕ) (xs : List (ℕ × ℕ)) → length (insert_pair p xs) ≡ length xs + 1
length-insert_pair p [] = refl
length-insert_pair p (x ∷ xs) = omega (arith, length_where (is_before x p) p x xs (insert_pair p xs) (length-insert_pair p xs))

length_left : (b : Bool) (x : ℕ × ℕ) (xs ys : List (ℕ × ℕ)) → (b ≡ false → length ys + 1 ≡ length xs) → length (cond b xs (x ∷ ys)) ≡ length xs
length_left true x xs ys h = refl
length_left false x xs ys h = let rest = h refl in omega arith

other_part : (a b : Bool) → (a || b) ≡ true → a ≡ false → b ≡ true
other_part true b h e = absurd (cc)
other_part false b h e = h

pub length-without : (p : ℕ × ℕ) (xs : List (ℕ × ℕ)) → has_pair p xs ≡ true → length (without p xs) + 1 ≡ length xs
length-without p [] h = absurd (cc)
length-without p (x ∷ xs) h =
    omega (arith, length_left (same_pair p x) x xs (without p xs) (λ e. length-without p xs (other_part (same_pair p x) (has_pair p xs) h e)))

pub len-removed : (number moment : ℕ) (before : Option ℕ) (xs ys : List (ℕ × ℕ)) → ((m : ℕ) → has_pair (m, number) xs ≡ is_at before m) → before ≡ Some moment
    → ys ≡ without (moment, number) xs → length ys + one_if (is_some before) ≡ length xs
len-removed number moment before xs ys at is new =
    let there : has_pair (moment, number) xs ≡ true = at moment ∙ ap (λ (o : Option ℕ). is_at o moment) is ∙ eq-eqb moment moment refl in
    let one : one_if (is_some before) ≡ 1 = ap (λ (o : Option ℕ). one_if (is_some o)) is in
    let same : length ys ≡ length (without (moment, number) xs) = ap length new in
    omega (arith, one, same, length-without (moment, number) xs there)

pub len-put : (number moment : ℕ) (before after : Option ℕ) (xs ys zs : List (ℕ × ℕ)) → length ys + one_if (is_some before) ≡ length xs → after ≡ Some moment
    → zs ≡ insert_pair (moment, number) ys → length zs + one_if (is_some before) ≡ length xs + one_if (is_some after)
len-put number moment before after xs ys zs removed is new =
    let one : one_if (is_some after) ≡ 1 = ap (λ (o : Option ℕ). one_if (is_some o)) is in
    let same : length zs ≡ length (insert_pair (moment, number) ys) = ap length new in
    omega (arith, removed, one, same, length-insert_pair (moment, number) ys)

-- ---- a number's moment, and its slot

once : (b : Bool) → cond b 0 1 ≤ 1
once true = omega arith
once false = omega arith

most_once : (m n : ℕ) → moved (Some m) (Some n) ≤ 1
most_once m n = once (m == n)

not_moved : (m n : ℕ) → m ≡ n → moved (Some m) (Some n) ≡ 0
not_moved m n e = ap (λ b. cond b 0 1) (eq-eqb m n e)

same_some : (m n : ℕ) → Some m ≡ Some n → m ≡ n
same_some m n e = cc

-- the operations for a change of slots, and the weight behind it, are within the weight before it and what it adds
abbrev IsPaid : Option Slot → Option Slot → Type 0
IsPaid before after =
    moved (due_in before) (due_in after) + moved (sent_in before) (sent_in after) + 2 * (one_if (is_some (shown_in before)) + one_if (is_some (shown_in after)))
    + 6 * one_if (is_hidden after) + 3 * one_if (is_shown after)
    ≤ 6 * one_if (is_hidden before) + 3 * one_if (is_shown before) + added before after

first_paid : (t : Slot) (b : Stay) → IsPaid None (Some (record t { stay = b }))
first_paid t Hidden = omega arith
first_paid t Shown = omega arith
first_paid t (Left target ran_out) = omega arith

last_paid : (s : Slot) (a : Stay) → IsPaid (Some (record s { stay = a })) None
last_paid s Hidden = omega arith
last_paid s Shown = omega arith
last_paid s (Left target ran_out) = omega arith

both_paid : (s t : Slot) (a b : Stay) → KeepsSent (Some (record s { stay = a })) (Some (record t { stay = b })) → IsPaid (Some (record s { stay = a })) (Some (record t { stay = b }))
both_paid s t Hidden Hidden keeps = omega (arith, most_once s.due t.due, not_moved s.sent t.sent (sym (same_some t.sent s.sent (keeps refl refl))))
both_paid s t Hidden Shown keeps = omega (arith, not_moved s.sent t.sent (sym (same_some t.sent s.sent (keeps refl refl))))
both_paid s t Hidden (Left target ran_out) keeps = omega arith
both_paid s t Shown Hidden keeps = omega (arith, not_moved s.sent t.sent (sym (same_some t.sent s.sent (keeps refl refl))))
both_paid s t Shown Shown keeps = omega (arith, not_moved s.sent t.sent (sym (same_some t.sent s.sent (keeps refl refl))))
both_paid s t Shown (Left target ran_out) keeps = omega arith
both_paid s t (Left target ran_out) Hidden keeps = omega arith
both_paid s t (Left target ran_out) Shown keeps = omega arith
both_paid s t (Left target ran_out) (Left target' ran_out') keeps = omega arith

paid : (before after : Option Slot) → KeepsSent before after → IsPaid before after
paid None None keeps = omega arith
paid None (Some t) keeps = first_paid t t.stay
paid (Some s) None keeps = last_paid s s.stay
paid (Some s) (Some t) keeps = both_paid s t s.stay t.stay keeps

-- ---- the indices

scaled : (k t0 t1 t2 t3 due sent shown wx wy more : ℕ) → t1 ≤ t0 + k * due → t2 ≤ t1 + k * sent → t3 ≤ t2 + k * shown → due + sent + shown + wy ≤ wx + more
    → t3 + k * wy ≤ t0 + k * wx + k * more
scaled k t0 t1 t2 t3 due sent shown wx wy more a b c h =
    let all : k * (due + sent + shown + wy) ≤ k * (wx + more) = mul-le-mul_left k h in
    omega (arith, a, b, c, all)

-- with what the counters and the pairs come to
pub cost-replaced : (before after : Option Slot) (x : Indices) (delayed in_flight visible c t0 t1 t2 t3 : ℕ) → delayed + one_if (is_delayed before) ≡ x.delayed + one_if (is_delayed after)
    → in_flight + one_if (is_in_flight before) ≡ x.in_flight + one_if (is_in_flight after)
    → visible + one_if (is_some (shown_in before)) ≡ length x.visible.pairs + one_if (is_some (shown_in after)) → is_some (shown_in before) ≡ is_shown before → is_some (shown_in after) ≡ is_shown after
    → KeepsSent before after → t1 ≤ t0 + 2 * (c + 1) * moved (due_in before) (due_in after) → t2 ≤ t1 + 2 * (c + 1) * moved (sent_in before) (sent_in after)
    → t3 ≤ t2 + 2 * (c + 1) * (2 * (one_if (is_some (shown_in before)) + one_if (is_some (shown_in after))))
    → t3 + 2 * (c + 1) * (6 * (delayed + in_flight) + 3 * visible) ≤ spent c t0 x + 2 * (c + 1) * added before after
cost-replaced before after x delayed in_flight visible c t0 t1 t2 t3 d f pairs shown shown' keeps first second third =
    let b = counted before in let a = counted after in
    let out : one_if (is_some (shown_in before)) ≡ one_if (is_shown before) = ap one_if shown in
    let in_ : one_if (is_some (shown_in after)) ≡ one_if (is_shown after) = ap one_if shown' in
    let covered = paid before after keeps in
    scaled (2 * (c + 1)) t0 t1 t2 t3 (moved (due_in before) (due_in after)) (moved (sent_in before) (sent_in after)) (2 * (one_if (is_some (shown_in before)) + one_if (is_some (shown_in after))))
    (weight x) (6 * (delayed + in_flight) + 3 * visible) (added before after) first second third
    (omega (arith, covered, pairs, out, in_, d, f, b.hidden, a.hidden))

-- ---- one change after another

pub costs_none : (t n : ℕ) (x : Indices) → CostsBetween 0 0 t n x t n x
costs_none t n x = record { kept = omega arith; spent = λ c h. omega arith }

pub costs_within : (begun more most t n t' n' : ℕ) (x y : Indices) → more ≤ most → CostsBetween begun more t n x t' n' y → CostsBetween begun most t n x t' n' y
costs_within begun more most t n t' n' x y h a = record {
  kept = a.kept;
  spent = λ c below. let was = a.spent c below in let all : 2 * (c + 1) * more ≤ 2 * (c + 1) * most = mul-le-mul_left (2 * (c + 1)) h in omega (arith, was, all);
}

pub costs_then : (begun more begun' more' t n t' n' t'' n'' : ℕ) (x y z : Indices) → CostsBetween begun more t n x t' n' y → CostsBetween begun' more' t' n' y t'' n'' z
    → CostsBetween (begun + begun') (more + more') t n x t'' n'' z
costs_then begun more begun' more' t n t' n' t'' n'' x y z a b = record {
  kept = omega (arith, a.kept, b.kept);
  spent = λ c below.
      let first = a.spent c (omega (arith, below)) in
      let second = b.spent c (omega (arith, below, a.kept)) in
      omega (arith, first, second);
}

-- one that adds nothing behind another
pub costs_behind : (begun more t n t' n' t'' n'' : ℕ) (x y z : Indices) → CostsBetween begun more t n x t' n' y → CostsBetween 0 0 t' n' y t'' n'' z → CostsBetween begun more t n x t'' n'' z
costs_behind begun more t n t' n' t'' n'' x y z a b = record {
  kept = omega (arith, a.kept, b.kept);
  spent = λ c below.
      let first = a.spent c below in
      let second = b.spent c (omega (arith, below, a.kept)) in
      omega (arith, first, second);
}

-- changes that add nothing
pub free_then : (t n t' n' t'' n'' : ℕ) (x y z : Indices) → CostsBetween 0 0 t n x t' n' y → CostsBetween 0 0 t' n' y t'' n'' z → CostsBetween 0 0 t n x t'' n'' z
free_then t n t' n' t'' n'' x y z a b = costs_then 0 0 0 0 t n t' n' t'' n'' x y z a b

-- ---- a message that is begun, changed or let go

most_begun : (s : Slot) (stay : Stay) → added None (Some (record s { stay = stay })) ≤ 8
most_begun s Hidden = omega arith
most_begun s Shown = omega arith
most_begun s (Left target ran_out) = omega arith

pub costs-begun : (t t' n' : ℕ) (x : MessageIndex) (y : Indices) (kept : Slot) → HasIndices x → n' ≤ index_map_len x.records + 1
    → ((c : ℕ) → AreBelow c x.indices → KeepsSent None (Some kept) → spent c t' y ≤ spent c t x.indices + 2 * (c + 1) * added None (Some kept))
    → CostsBetween 1 8 t (index_map_len x.records) x.indices t' n' y
costs-begun t t' n' x y kept has records cost = record {
  kept = records;
  spent = λ c below.
      let was = cost c (below-is x c has (omega (arith, below))) (λ none here. absurd cc) in
      let all : 2 * (c + 1) * added None (Some kept) ≤ 2 * (c + 1) * 8 = mul-le-mul_left (2 * (c + 1)) (most_begun kept kept.stay) in
      omega (arith, was, all);
}

pub costs-changed : (t t' n' : ℕ) (x : MessageIndex) (y : Indices) (before after : Option Slot) → HasIndices x → n' ≤ index_map_len x.records → KeepsSent before after
    → ((c : ℕ) → AreBelow c x.indices → KeepsSent before after → spent c t' y ≤ spent c t x.indices + 2 * (c + 1) * added before after)
    → CostsBetween 0 (added before after) t (index_map_len x.records) x.indices t' n' y
costs-changed t t' n' x y before after has records keeps cost = record {
  kept = omega (arith, records);
  spent = λ c below. cost c (below-is x c has (omega (arith, below))) keeps;
}

-- where it was sent at the same time

keeps_stays : (s t : Slot) (a b : Stay) → t.sent ≡ s.sent → KeepsSent (Some (record s { stay = a })) (Some (record t { stay = b }))
keeps_stays s t Hidden Hidden e h k = ap Some e
keeps_stays s t Hidden Shown e h k = ap Some e
keeps_stays s t Hidden (Left target ran_out) e h k = absurd (cc)
keeps_stays s t Shown Hidden e h k = ap Some e
keeps_stays s t Shown Shown e h k = ap Some e
keeps_stays s t Shown (Left target ran_out) e h k = absurd (cc)
keeps_stays s t (Left target ran_out) b e h k = absurd (cc)

pub keeps-sent : (o : Option Record) (slot : Slot) → ((r : Record) → o ≡ Some r → slot.sent ≡ r.slot.sent) → KeepsSent (option_map (λ r. r.slot) o) (Some slot)
keeps-sent None slot same here here' = absurd (cc)
keeps-sent (Some r) slot same here here' = keeps_stays r.slot slot r.slot.stay slot.stay (same r refl) here here'

pub keeps-none : (o : Option Slot) → KeepsSent o None
keeps-none o here here' = absurd (cc)

-- ---- how much a change adds

pub added-none : (o : Option Slot) → added o None ≡ 0
added-none o = refl

-- a slot of a kind: when it is due and was sent adds nothing
abbrev pub slot_of : Stay → Slot
slot_of stay = record { stay = stay; due = 0; sent = 0; is_fresh = false; is_returned = false; tries = 0 }

shown_adds : (s : Slot) (stay : Stay) → is_hidden_stay stay ≡ true → added (Some (record s { stay = stay })) (Some (slot_of Shown)) ≡ 0
shown_adds s Hidden h = refl
shown_adds s Shown h = absurd (cc)
shown_adds s (Left target ran_out) h = absurd (cc)

added_shown : (o : Option Slot) → is_hidden o ≡ true → added o (Some (slot_of Shown)) ≡ 0
added_shown None h = absurd (cc)
added_shown (Some s) h = shown_adds s s.stay h

-- what is hidden is shown for nothing
pub shown-free : (o : Option Slot) (begun at n at' n' : ℕ) (x y : Indices) → is_hidden o ≡ true → CostsBetween begun (added o (Some (slot_of Shown))) at n x at' n' y → CostsBetween begun 0 at n x at' n' y
shown-free o begun at n at' n' x y h a = subst (λ (more : ℕ). CostsBetween begun more at n x at' n' y) (added_shown o h) a

hidden_adds : (s : Slot) (stay : Stay) → not (is_left_stay stay) ≡ true → added (Some (record s { stay = stay })) (Some (slot_of Hidden)) ≤ 6
hidden_adds s Hidden h = omega arith
hidden_adds s Shown h = omega arith
hidden_adds s (Left target ran_out) h = absurd (cc)

added_hidden : (o : Option Slot) → is_here o ≡ true → added o (Some (slot_of Hidden)) ≤ 6
added_hidden None h = absurd (cc)
added_hidden (Some s) h = hidden_adds s s.stay h

-- what is there is hidden for 6
pub hidden-costs : (o : Option Slot) (begun at n at' n' : ℕ) (x y : Indices) → is_here o ≡ true → CostsBetween begun (added o (Some (slot_of Hidden))) at n x at' n' y → CostsBetween begun 6 at n x at' n' y
hidden-costs o begun at n at' n' x y h a = costs_within begun (added o (Some (slot_of Hidden))) 6 at n at' n' x y (added_hidden o h) a

stay_adds : (s : Slot) (stay : Stay) → added (Some (record s { stay = stay })) (Some (slot_of Hidden)) ≤ 8
stay_adds s Hidden = omega arith
stay_adds s Shown = omega arith
stay_adds s (Left target ran_out) = omega arith

back_adds : (o : Option Slot) → added o (Some (slot_of Hidden)) ≤ 8
back_adds None = omega arith
back_adds (Some s) = stay_adds s s.stay

-- and whatever is not there for 8
pub back-costs : (o : Option Slot) (begun at n at' n' : ℕ) (x y : Indices) → CostsBetween begun (added o (Some (slot_of Hidden))) at n x at' n' y → CostsBetween begun 8 at n x at' n' y
back-costs o begun at n at' n' x y a = costs_within begun (added o (Some (slot_of Hidden))) 8 at n at' n' x y (back_adds o) a

-- ---- what has left, number by number

pub back-counted : (lost : ℕ) (change : Record → Option Record) (xs : List ℕ) (i m : ℕ) (x y : MessageIndex) → AreOnce xs → i < length xs → m ≡ get_or xs i 0 → HasChanged (among (take i xs) change) x y
    → 8 * count_by (λ n. is_left_for lost (slots_in x n)) (take i xs) + 8 * one_if (is_left_for lost (slots_in y m)) ≤ 8 * count_by (λ n. is_left_for lost (slots_in x n)) (take (i + 1) xs)
back-counted lost change xs i m x y once h read a =
    let new : contains_number m (take i xs) ≡ false = subst (λ (k : ℕ). contains_number k (take i xs) ≡ false) (sym read) (unseen xs i once h) in
    let same : one_if (is_left_for lost (slots_in y m)) ≡ one_if (is_left_for lost (slots_in x m)) =
    ap (λ (o : Option Record). one_if (is_left_for lost (option_map (λ r. r.slot) o))) (outside change (take i xs) m x y a new) in
    let at : one_if (is_left_for lost (slots_in x m)) ≡ one_if (is_left_for lost (slots_in x (get_or xs i 0))) = ap (λ (n : ℕ). one_if (is_left_for lost (slots_in x n))) read in
    let more = sum_by_more (λ (n : ℕ). one_if (is_left_for lost (slots_in x n))) xs i 0 h in
    omega (arith, same, at, more)

pub back-all : (lost place : ℕ) (xs : List ℕ) (x : MessageIndex) → 8 * count_by (λ n. is_left_for lost (slots_in x n)) (take place xs) ≤ 8 * count_by (λ n. is_left_for lost (slots_in x n)) xs
back-all lost place xs x = omega (arith, sum_by-take-le (λ (n : ℕ). one_if (is_left_for lost (slots_in x n))) xs place)
