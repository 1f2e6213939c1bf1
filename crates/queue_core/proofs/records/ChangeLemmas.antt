-- Changes of records, one after the other.
use Rattle.std.proofs.Common.{◌≡◌, ℕ, ◌+◌, ◌<◌, ◌≤◌, Bool, true, false, cond, ◌||◌, List, [], ◌∷◌, ◌++◌, length, get_or, take, refl, sym, ap, ◌∙◌, subst, inl, inr, eqb, min, arith, slice_index, slice_set, Option, Some, None, option_map, option_and_then, get_or-set_same, get_or-set_other, length-set}
use Rattle.std.proofs.lemmas.List.{take_more, take_all}
use Rattle.std.proofs.lemmas.Bool.{eq-eqb, ne_eqb, cases_lt, cases_eq, true≢false, both_ways}
use Rattle.metric_window.specs.Flows.{greatest}
use Rattle.queue_core.specs.Messages.{contains_number}
use Rattle.queue_core.specs.declared.slot.Stay.{Stay}
use Rattle.queue_core.specs.declared.slot.Stay.TheVariants.{Hidden, Shown, Left}
use Rattle.queue_core.specs.declared.record.Record.{Record}
use Rattle.queue_core.specs.declared.index.MessageIndex.{MessageIndex}
use Rattle.queue_core.specs.private.Slots.{is_here, is_left, is_left_stay}
use Rattle.queue_core.specs.private.Records.{records_in, slots_in, born_in, HasIndices, IsIndexed}
use Rattle.queue_core.specs.private.Applying.{counted_if, HaveCounted, HasChanged, among, where_here, where_left, where_left_stay}
use Rattle.queue_core.proofs.entries.NumberLemmas.{AreOnce, or-true, or-false, contains-push, unseen}

-- ---- one record

pub and_then-some : (o : Option Record) → option_and_then (λ r. Some r) o ≡ o
and_then-some None = refl
and_then-some (Some r) = refl

and_then-and_then : (f g : Record → Option Record) (o : Option Record) → option_and_then g (option_and_then f o) ≡ option_and_then (λ r. option_and_then g (f r)) o
and_then-and_then f g None = refl
and_then-and_then f g (Some r) = refl

pub and_then-same : (f g : Record → Option Record) (o : Option Record) → ((r : Record) → o ≡ Some r → f r ≡ g r) → option_and_then f o ≡ option_and_then g o
and_then-same f g None h = refl
and_then-same f g (Some r) h = h r refl

pub left_stay-none : (change : ℕ → Bool → Record → Option Record) (stay : Stay) (r : Record) → is_left_stay stay ≡ false → where_left_stay change stay r ≡ Some r
left_stay-none change Hidden r h = refl
left_stay-none change Shown r h = refl
left_stay-none change (Left target ran_out) r h = absurd (true≢false h)

pub slot-some : (o : Option Record) (r : Record) → o ≡ Some r → option_map (λ x. x.slot) o ≡ Some r.slot
slot-some o r is = ap (λ (p : Option Record). option_map (λ x. x.slot) p) is

-- ---- one change after another

pub changed-then : (f g : ℕ → Record → Option Record) (x y z : MessageIndex) → HasChanged f x y → HasChanged g y z → HasChanged (λ n r. option_and_then (g n) (f n r)) x z
changed-then f g x y z a b = record {
  indices = b.indices;
  records = λ n. b.records n ∙ ap (λ (o : Option Record). option_and_then (g n) o) (a.records n) ∙ and_then-and_then (f n) (g n) (records_in x n);
}

pub changed-same : (f g : ℕ → Record → Option Record) (x y : MessageIndex) → ((n : ℕ) (r : Record) → records_in x n ≡ Some r → f n r ≡ g n r) → HasChanged f x y → HasChanged g x y
changed-same f g x y same a = record { indices = a.indices; records = λ n. a.records n ∙ and_then-same (f n) (g n) (records_in x n) (same n) }

among-step : (change : Record → Option Record) (seen now : Bool) (r : Record) → (seen ≡ true → now ≡ false)
    → option_and_then (λ x. cond (now || false) (change x) (Some x)) (cond seen (change r) (Some r)) ≡ cond (seen || now) (change r) (Some r)
among-step change true true r apart = absurd (true≢false (apart refl))
among-step change true false r apart = and_then-some (change r)
among-step change false true r apart = refl
among-step change false false r apart = refl

among-push : (change : Record → Option Record) (xs : List ℕ) (m n : ℕ) (r : Record) → contains_number m xs ≡ false
    → option_and_then (among (m ∷ []) change n) (among xs change n r) ≡ among (xs ++ m ∷ []) change n r
among-push change xs m n r new =
    let apart : contains_number n xs ≡ true → eqb m n ≡ false = λ h. ne_eqb m n (λ e. both_ways (contains_number m xs) new (subst (λ k. contains_number k xs ≡ true) (sym e) h)) in
    among-step change (contains_number n xs) (eqb m n) r apart ∙ ap (λ b. cond b (change r) (Some r)) (sym (contains-push n m xs))

pub changed-push : (change : Record → Option Record) (xs : List ℕ) (m : ℕ) (x y z : MessageIndex) → contains_number m xs ≡ false
    → HasChanged (among xs change) x y → HasChanged (among (m ∷ []) change) y z → HasChanged (among (xs ++ m ∷ []) change) x z
changed-push change xs m x y z new a b =
    changed-same (λ n r. option_and_then (among (m ∷ []) change n) (among xs change n r)) (among (xs ++ m ∷ []) change) x z (λ n r is. among-push change xs m n r new)
    (changed-then (among xs change) (among (m ∷ []) change) x y z a b)

-- one turn of a loop over numbers, each of which is there once
pub changed-more : (change : Record → Option Record) (xs : List ℕ) (i m : ℕ) (x y z : MessageIndex) → AreOnce xs → i < length xs → m ≡ get_or xs i 0
    → HasChanged (among (take i xs) change) x y → HasChanged (among (m ∷ []) change) y z → HasChanged (among (take (i + 1) xs) change) x z
changed-more change xs i m x y z once h read a b =
    let new : contains_number m (take i xs) ≡ false = subst (λ k. contains_number k (take i xs) ≡ false) (sym read) (unseen xs i once h) in
    let more : take (i + 1) xs ≡ take i xs ++ m ∷ [] = take_more xs i 0 h ∙ ap (λ k. take i xs ++ k ∷ []) (sym read) in
    subst (λ (ys : List ℕ). HasChanged (among ys change) x z) (sym more) (changed-push change (take i xs) m x y z new a b)

pub changed-all : (change : Record → Option Record) (xs : List ℕ) (i : ℕ) (x y : MessageIndex) → length xs ≤ i → HasChanged (among (take i xs) change) x y → HasChanged (among xs change) x y
changed-all change xs i x y h a = subst (λ (ys : List ℕ). HasChanged (among ys change) x y) (take_all i xs h) a

-- what is not among the numbers is as it was
pub outside : (change : Record → Option Record) (xs : List ℕ) (n : ℕ) (x y : MessageIndex) → HasChanged (among xs change) x y → contains_number n xs ≡ false → records_in y n ≡ records_in x n
outside change xs n x y a h =
    a.records n ∙ ap (λ b. option_and_then (λ r. cond b (change r) (Some r)) (records_in x n)) h ∙ and_then-some (records_in x n)

pub here-outside : (change : Record → Option Record) (xs : List ℕ) (n : ℕ) (x y : MessageIndex) → HasChanged (among xs change) x y → contains_number n xs ≡ false
    → is_here (slots_in x n) ≡ true → is_here (slots_in y n) ≡ true
here-outside change xs n x y a h here = ap (λ (o : Option Record). is_here (option_map (λ r. r.slot) o)) (outside change xs n x y a h) ∙ here

pub here-below : (x : MessageIndex) (n : ℕ) → HasIndices x → is_here (slots_in x n) ≡ true → n < born_in x
here-below x n is here =
    elim (cases_lt n (born_in x)) [
      | inl h ↦ h
      | inr h ↦ absurd (true≢false (sym here ∙ ap is_here (is.indices.few n h)))
    ]

-- only room or the numbers of those that have left differ
pub indices-same : (x y : MessageIndex) → y.records ≡ x.records → born_in y ≡ born_in x → y.indices ≡ x.indices → HasIndices x → HasIndices y
indices-same x y records born indices is = record { indices = rw (records, born, indices) is.indices; sent = rw records is.sent }

pub changed-beside : (f : ℕ → Record → Option Record) (x y z : MessageIndex) → z.records ≡ y.records → born_in z ≡ born_in y → z.indices ≡ y.indices → HasChanged f x y → HasChanged f x z
changed-beside f x y z records born indices a = record { indices = indices-same y z records born indices a.indices; records = rw records a.records }

-- ---- what has left

pub left-all : (change : ℕ → Bool → Record → Option Record) (x y : MessageIndex) → IsIndexed x
    → HasChanged (among x.leaving.items (where_left change)) x y → HasChanged (λ n. where_left change) x y
left-all change x y is a =
    changed-same (among x.leaving.items (where_left change)) (λ n. where_left change) x y
    (λ n r at.
    let left : contains_number n x.leaving.items ≡ is_left_stay r.slot.stay = is.leaving n ∙ ap is_left (slot-some (records_in x n) r at) in
    ap (λ b. cond b (where_left change r) (Some r)) left
    ∙ elim (is_left_stay r.slot.stay) as (λ (b : Bool). is_left_stay r.slot.stay ≡ b → cond b (where_left change r) (Some r) ≡ where_left change r) [
      | true ↦ λ e. refl
      | false ↦ λ e. sym (left_stay-none change r.slot.stay r e)
    ] refl) a

-- ---- what is there goes

-- what would be left of each record is as it was
abbrev pub LeavesSame : MessageIndex → MessageIndex → Type 0
LeavesSame x y = (n : ℕ) → option_and_then (where_here (λ r. None)) (records_in y n) ≡ option_and_then (where_here (λ r. None)) (records_in x n)

-- ---- counts

-- the counts with that of a number one higher
abbrev pub counted_at : List ℕ → ℕ → List ℕ
counted_at counts m = slice_set counts m (min (slice_index counts m + 1) greatest)

pub counted-push : (xs old mid : List ℕ) (m : ℕ) → contains_number m xs ≡ false → m < length old → HaveCounted xs old mid → HaveCounted (xs ++ m ∷ []) old (counted_at mid m)
counted-push xs old mid m new below a =
    let more = min (slice_index mid m + 1) greatest in
    let len : length (slice_set mid m more) ≡ length mid = length-set mid m more in
    record {
      len = len ∙ a.len;
      counts = λ n h. elim (cases_eq n m) [
        | inl e ↦
            let k = a.len in
            let at : slice_index (counted_at mid m) n ≡ more = ap (λ j. slice_index (slice_set mid m more) j) e ∙ get_or-set_same mid m more 0 (omega arith) in
            let none : contains_number n xs ≡ false = ap (λ j. contains_number j xs) e ∙ new in
            let one : contains_number n (xs ++ m ∷ []) ≡ true = contains-push n m xs ∙ ap (λ b. contains_number n xs || b) (eq-eqb m n (sym e)) ∙ or-true (contains_number n xs) in
            at
            ∙ ap (counted_if true) (ap (λ j. slice_index mid j) (sym e) ∙ a.counts n h ∙ ap (λ (b : Bool). counted_if b (slice_index old n)) none)
            ∙ sym (ap (λ (b : Bool). counted_if b (slice_index old n)) one)
        | inr ne ↦
            let same : contains_number n (xs ++ m ∷ []) ≡ contains_number n xs = contains-push n m xs ∙ ap (λ b. contains_number n xs || b) (ne_eqb m n (λ e. ne (sym e))) ∙ or-false (contains_number n xs) in
            get_or-set_other mid m n more 0 ne ∙ a.counts n h ∙ sym (ap (λ (b : Bool). counted_if b (slice_index old n)) same)
      ];
    }

pub counted-more : (xs old mid : List ℕ) (i m : ℕ) → AreOnce xs → i < length xs → m ≡ get_or xs i 0 → m < length old → HaveCounted (take i xs) old mid
    → HaveCounted (take (i + 1) xs) old (counted_at mid m)
counted-more xs old mid i m once h read below a =
    let new : contains_number m (take i xs) ≡ false = subst (λ k. contains_number k (take i xs) ≡ false) (sym read) (unseen xs i once h) in
    let more : take (i + 1) xs ≡ take i xs ++ m ∷ [] = take_more xs i 0 h ∙ ap (λ k. take i xs ++ k ∷ []) (sym read) in
    subst (λ (ys : List ℕ). HaveCounted ys old (counted_at mid m)) (sym more) (counted-push (take i xs) old mid m new below a)
