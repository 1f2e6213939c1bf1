-- What a queue's index answers of its messages: their states by number, their counts, the age of the first live one, and what waits for the dead-letter queue.
use Rattle.std.proofs.Common.{◌≡◌, ℕ, zero, suc, ◌+◌, ◌-◌, ◌*◌, ◌<◌, ◌≤◌, ◌/◌, Bool, true, false, cond, ◌&&◌, count_by, inl, inr, List, [], ◌∷◌, length, get_or, Option, Some, None, refl, sym, ap, subst, ◌∙◌, arith}
use Rattle.std.specs.Prelude.{nat_lt, option_map, option_and_then, slice_get}
use Rattle.std.specs.Option.{option_map_or}
use Rattle.std.specs.List.{Contains, find}
use Rattle.std.proofs.lemmas.Bool.{false≢true, cases_lt}
use Rattle.std.proofs.lemmas.List.FromFn.{length-map-range_with_len}
use Rattle.std.proofs.lemmas.Option.{none-some, same_Some, slice_get-map, slice_get-get_or, slice_get_within, get_or_from_slice_get}
use Rattle.message.specs.Content.{ContentText}
use Rattle.journal.specs.declared.entry.Origin.{Origin}
use Rattle.metric_window.specs.declared.gauges.Gauges.{Gauges}
use Rattle.queue_core.specs.declared.facts.Message.{Message}
use Rattle.queue_core.specs.declared.facts.Course.{Course}
use Rattle.queue_core.specs.declared.facts.Transfer.{Transfer}
use Rattle.queue_core.specs.declared.facts.Status.{Status}
use Rattle.queue_core.specs.declared.facts.Status.TheVariants.{Present, Waiting}
use Rattle.queue_core.specs.declared.facts.MessageState.TheVariants.{Visible, Delayed, InFlight}
use Rattle.queue_core.specs.Messages.{contains_number, message_count, messages, course_of, receive_count, last_receive_time, awaits_status, pending_transfers, content_of}
use Rattle.queue_core.specs.States.{is_live, has_age, is_in_state, is_numbered, message_numbered, count_in_state, oldest_age, gauges_of}
use Rattle.queue_core.specs.Queue.{QueueHistory, passes_twelve_hours, is_pending, waiting_count, origin_of, parcel_of, transferred_parcel, first_transfer, first_parcel_of}
use Rattle.queue_core.specs.Legal.{IsLegal}
use Rattle.queue_core.specs.declared.parcel.Parcel.{Parcel}
use Rattle.queue_core.specs.declared.slot.Stay.{Stay}
use Rattle.queue_core.specs.declared.slot.Stay.TheVariants.{Hidden, Shown, Left}
use Rattle.queue_core.specs.declared.slot.Slot.{Slot}
use Rattle.queue_core.specs.declared.record.Record.{Record}
use Rattle.queue_core.specs.declared.index.MessageIndex.{MessageIndex}
use Rattle.queue_core.specs.private.Slots.{is_left_stay, is_left_stay_for, is_here, has_age as slot_has_age, is_left, is_left_for, is_in_flight, AreIndexed}
use Rattle.queue_core.specs.private.Records.{records_in, slots_in, born_in}
use Rattle.queue_core.specs.private.Recorded.{IsStanding, IsRecordOf}
use Rattle.queue_core.specs.private.Indexed.{IsIndexOf}
use Rattle.queue_core.proofs.records.SummaryLemmas.{records-kept}
use Rattle.queue_core.proofs.records.FactLemmas.{Line, numbered-number, IsSound}
use Rattle.queue_core.proofs.LegalSoundLemmas.{sound_legal}
use Rattle.queue_core.proofs.indexed.SlotCountLemmas.{count_agree, count_members}
use Rattle.queue_core.proofs.indexed.IndexedLemmas as indexed

-- ---- lists

-- the first element that passes a test stands where none before it passes
found_at : {X : Type 0} (test : X → Bool) (xs : List X) (k : ℕ) → ((j : ℕ) → j < k → option_map_or test (slice_get xs j) false ≡ false) → option_map_or test (slice_get xs k) false ≡ true
    → (x : X) × (slice_get xs k ≡ Some x) × (find test xs ≡ Some x)
found_at test [] k below here = absurd (false≢true here)
found_at test (y ∷ ys) zero below here = (y, refl, ap (λ (b : Bool). cond b (Some y) (find test ys)) here)
found_at test (y ∷ ys) (suc k) below here =
    let later = found_at test ys k (λ j h. below (suc j) (omega arith)) here in
    (later.0, later.1, ap (λ (b : Bool). cond b (Some y) (find test ys)) (below 0 (omega arith)) ∙ later.2)

found_nowhere : {X : Type 0} (test : X → Bool) (xs : List X) → ((j : ℕ) → j < length xs → option_map_or test (slice_get xs j) false ≡ false) → find test xs ≡ None
found_nowhere test [] below = refl
found_nowhere test (y ∷ ys) below =
    ap (λ (b : Bool). cond b (Some y) (find test ys)) (below 0 (omega arith)) ∙ found_nowhere test ys (λ j h. below (suc j) (omega arith))

-- an element of a mapped list comes of one of the list
mapped_at : {X Y : Type 0} (f : X → Y) (o : Option X) (y : Y) → option_map f o ≡ Some y → (x : X) × (o ≡ Some x) × (f x ≡ y)
mapped_at f None y h = absurd (none-some y h)
mapped_at f (Some x) y h = (x, refl, same_Some (f x) y h)

-- the first number of a list
pub front_is : (xs : List ℕ) (number : ℕ) → 0 < length xs → number ≡ get_or xs 0 number → Some number ≡ slice_get xs 0
front_is xs number there same = ap (λ (n : ℕ). Some n) same ∙ sym (slice_get-get_or xs 0 number there)

-- ---- the age

age_found : (clock k : ℕ) (test : Message → Bool) (all : List Message) (age : ℕ) → ((j : ℕ) → j < k → option_map_or test (slice_get all j) false ≡ false) → option_map_or test (slice_get all k) false ≡ true
    → ((m : Message) → slice_get all k ≡ Some m → age ≡ (clock - m.enqueue_time) / 1000) → age ≡ option_map_or (λ m. (clock - m.enqueue_time) / 1000) (find test all) 0
age_found clock k test all age below here is =
    let found = found_at test all k below here in
    is found.0 found.1 ∙ ap (λ (o : Option Message). option_map_or (λ m. (clock - m.enqueue_time) / 1000) o 0) (sym found.2)

-- the age is that of the message of the first number whose age is looked at, and 0 where there is none
pub oldest_age-found : (lines : List Line) (clock k age : ℕ) → ((j : ℕ) → j < k → is_numbered (λ m. has_age lines clock m) lines j ≡ false) → is_numbered (λ m. has_age lines clock m) lines k ≡ true
    → ((m : Message) → message_numbered lines k ≡ Some m → age ≡ (clock - m.enqueue_time) / 1000) → age ≡ oldest_age lines clock
oldest_age-found lines clock k age below here is = age_found clock k (λ m. has_age lines clock m) (messages lines) age below here is

pub oldest_age-none : (lines : List Line) (clock k : ℕ) → message_count lines ≤ k → ((j : ℕ) → j < k → is_numbered (λ m. has_age lines clock m) lines j ≡ false) → 0 ≡ oldest_age lines clock
oldest_age-none lines clock k past below =
    ap (λ (o : Option Message). option_map_or (λ m. (clock - m.enqueue_time) / 1000) o 0)
    (sym (found_nowhere (λ m. has_age lines clock m) (messages lines) (λ j h. below j (omega arith))))

-- ---- where a message that waits stands

left_stay : (stay : Stay) (due : ℕ) (c : Course) (target : ℕ) → IsStanding stay due c → c.status ≡ Waiting target → (out : Bool) × (stay ≡ Left target out)
left_stay Hidden due c target h e = absurd (let clash : ◌≡◌ {A = Status} Present (Waiting target) = sym h.0 ∙ e in cc)
left_stay Shown due c target h e = absurd (let clash : ◌≡◌ {A = Status} Present (Waiting target) = sym h.0 ∙ e in cc)
left_stay (Left own out) due c target h e = (out, let both : ◌≡◌ {A = Status} (Waiting own) (Waiting target) = sym h.0 ∙ e in let same : own ≡ target = cc in ap (λ (n : ℕ). Left n out) same)

-- the message of a transfer that is not confirmed, and its record
pub record IsWaiting (lines : List Line) (x : MessageIndex) (t : Transfer) : Type 0 where
  pub message : Message
  pub numbered : message_numbered lines t.number ≡ Some message
  pub kept : Record
  pub found : records_in x t.number ≡ Some kept
  pub of : IsRecordOf lines message kept
  pub ran_out : Bool
  pub left : kept.slot.stay ≡ Left t.target ran_out

-- a transfer's number and the uid of the queue that it is for
abbrev pub ends_of : Transfer → ℕ × ℕ
ends_of t = (t.number, t.target)

-- those of the first transfer that is not confirmed
abbrev pub IsFirst : QueueHistory → ℕ → ℕ → Type 0
IsFirst q number target = ◌≡◌ {A = Option (ℕ × ℕ)} (Some (number, target)) (option_map ends_of (first_transfer q))

-- where a parcel comes from, and the uid of the queue that it is for
abbrev pub ends_in : Parcel → Origin × ℕ
ends_in p = (p.origin, p.target)

-- what has left for a dead-letter queue has left
left_part_stay : (target : ℕ) (stay : Stay) → (is_left_stay stay && is_left_stay_for target stay) ≡ is_left_stay_for target stay
left_part_stay target Hidden = refl
left_part_stay target Shown = refl
left_part_stay target (Left own ran_out) = refl

left_part : (target : ℕ) (o : Option Slot) → (is_left o && is_left_for target o) ≡ is_left_for target o
left_part target None = refl
left_part target (Some s) = left_part_stay target s.stay

-- ---- the index of a queue

-- the index is that of the queue that contracts see
pub index_of : (p q : QueueHistory) (x : MessageIndex) → p ≡ q → IsIndexOf p.lines p.clock x → IsIndexOf q.lines q.clock x
index_of p q x same is = subst (λ (q : QueueHistory). IsIndexOf q.lines q.clock x) same is

pub legal_of : (p q : QueueHistory) → p ≡ q → IsLegal p → IsLegal q
legal_of p q same is = subst (λ (q : QueueHistory). IsLegal q) same is

pub sound_of : (p q : QueueHistory) → p ≡ q → IsLegal p → IsSound q.lines q.clock
sound_of p q same is = sound_legal q (legal_of p q same is)

abbrev slot_in : Option Record → Option Slot
slot_in o = option_map (λ r. r.slot) o

gauges_same : (visible delayed in_flight age v d f a : ℕ) → visible ≡ v → delayed ≡ d → in_flight ≡ f → age ≡ a
    → ◌≡◌ {A = Gauges} (record { visible = visible; delayed = delayed; in_flight = in_flight; age = age }) (record { visible = v; delayed = d; in_flight = f; age = a })
gauges_same visible delayed in_flight age v d f a h k l m = rw (h, k, l, m) refl

parcel_same : (origin o : Origin) (target t : ℕ) (content c : ContentText) → origin ≡ o → target ≡ t → content ≡ c
    → ◌≡◌ {A = Parcel} (record { origin = origin; target = target; content = content }) (record { origin = o; target = t; content = c })
parcel_same origin o target t content c h k l = rw (h, k, l) refl

module _ (q : QueueHistory) (x : MessageIndex) (is : IsIndexOf q.lines q.clock x) where
  -- ---- one number

  pub here_at : (number : ℕ) (slot : Option Slot) → slot ≡ slots_in x number → is_here slot ≡ is_numbered (λ m. is_live q.lines q.clock m) q.lines number
  here_at number slot same = ap is_here same ∙ sym (indexed.here_is q.lines q.clock (records_in x) (records-kept q.lines q.clock x is) is.settled number)

  pub in_flight_at : (number : ℕ) (slot : Option Slot) → slot ≡ slots_in x number → is_in_flight slot ≡ is_numbered (λ m. is_in_state InFlight q.lines q.clock m) q.lines number
  in_flight_at number slot same = ap is_in_flight same ∙ sym (indexed.in_flight_is q.lines q.clock (records_in x) (records-kept q.lines q.clock x is) is.settled number)

  pub left_at : (number : ℕ) (slot : Option Slot) → slot ≡ slots_in x number → is_left slot ≡ is_pending q number
  left_at number slot same = ap is_left same ∙ sym (indexed.left_is q.lines q.clock (records_in x) (records-kept q.lines q.clock x is) is.settled number)

  -- what is live or in flight is kept
  pub in_flight_kept : (number : ℕ) → is_numbered (λ m. is_in_state InFlight q.lines q.clock m) q.lines number ≡ true → None ≡ records_in x number → ⊥
  in_flight_kept number h none = false≢true (in_flight_at number None (ap slot_in none) ∙ h)

  -- the times of a message that is kept
  pub enqueued_at : (number : ℕ) (r : Record) → Some r ≡ records_in x number → (m : Message) → message_numbered q.lines number ≡ Some m → r.enqueue_time ≡ m.enqueue_time
  enqueued_at number r same m e =
      let there = (records-kept q.lines q.clock x is).some number r (sym same) in
      there.2.enqueue_time ∙ ap (λ (m : Message). m.enqueue_time) (same_Some there.0 m (sym there.1 ∙ e))

  pub last_received_at : (number : ℕ) (r : Record) → Some r ≡ records_in x number → r.last_receive ≡ last_receive_time q.lines number
  last_received_at number r same =
      let there = (records-kept q.lines q.clock x is).some number r (sym same) in
      there.2.last_receive ∙ ap (λ (n : ℕ). last_receive_time q.lines n) (numbered-number q.lines number there.0 there.1)

  pub twelve_hours : (number timeout seconds last clock : ℕ) (r : Record) → Some r ≡ records_in x number → last ≡ r.last_receive → clock ≡ q.clock → seconds ≡ timeout
      → nat_lt (last + 43200000) (clock + 1000 * seconds) ≡ passes_twelve_hours q number timeout
  twelve_hours number timeout seconds last clock r same at now given =
      ap (λ (n : ℕ). nat_lt (n + 43200000) (clock + 1000 * seconds)) (at ∙ last_received_at number r same)
      ∙ ap (λ (n : ℕ). nat_lt (last_receive_time q.lines number + 43200000) (n + 1000 * seconds)) now
      ∙ ap (λ (n : ℕ). nat_lt (last_receive_time q.lines number + 43200000) (q.clock + 1000 * n)) given

  -- the first whose age is looked at is the oldest
  age_at : (number : ℕ) (b : Bool) → slot_has_age (slots_in x number) ≡ b → is_numbered (λ m. has_age q.lines q.clock m) q.lines number ≡ b
  age_at number b h = indexed.age_is q.lines q.clock (records_in x) (records-kept q.lines q.clock x is) is.settled number ∙ h

  kept_here : (o : Option Record) → slot_has_age (slot_in o) ≡ true → (r : Record) × (o ≡ Some r)
  kept_here None h = absurd (false≢true h)
  kept_here (Some r) h = (r, refl)

  pub oldest_by : (number age : ℕ) → slot_has_age (slots_in x number) ≡ true → ((k : ℕ) → k < number → slot_has_age (slots_in x k) ≡ false)
      → ((r : Record) → records_in x number ≡ Some r → age ≡ (q.clock - r.enqueue_time) / 1000) → age ≡ oldest_age q.lines q.clock
  oldest_by number age here first is_age =
      let kept = kept_here (records_in x number) here in
      oldest_age-found q.lines q.clock number age (λ k h. age_at k false (first k h)) (age_at number true here)
      (λ m e. is_age kept.0 kept.1 ∙ ap (λ (n : ℕ). (q.clock - n) / 1000) (enqueued_at number kept.0 (sym kept.1) m e))

  -- ---- counts

  born_is : born_in x ≡ message_count q.lines
  born_is = ap length is.receives ∙ length-map-range_with_len (λ n. receive_count q.lines n) 0 (message_count q.lines)

  pub oldest_none : ((k : ℕ) → k < born_in x → slot_has_age (slots_in x k) ≡ false) → 0 ≡ oldest_age q.lines q.clock
  oldest_none none =
      oldest_age-none q.lines q.clock (message_count q.lines) (omega arith) (λ k h. age_at k false (none k (omega (arith, h, born_is))))

  indices_are : AreIndexed (slots_in x) (message_count q.lines) x.indices
  indices_are = subst (λ (n : ℕ). AreIndexed (slots_in x) n x.indices) born_is is.indexed.indices.indices

  pub in_flight_counted : x.indices.in_flight ≡ count_in_state InFlight q.lines q.clock
  in_flight_counted = indices_are.in_flight ∙ sym (indexed.in_flight_count q.lines q.clock (records_in x) (records-kept q.lines q.clock x is) is.settled)

  pub gauged : (visible age : ℕ) → visible ≡ length x.indices.visible.pairs → age ≡ oldest_age q.lines q.clock
      → ◌≡◌ {A = Gauges} (record { visible = visible; delayed = x.indices.delayed; in_flight = x.indices.in_flight; age = age }) (gauges_of q.lines q.clock)
  gauged visible age h k =
      gauges_same visible x.indices.delayed x.indices.in_flight age (count_in_state Visible q.lines q.clock) (count_in_state Delayed q.lines q.clock) (count_in_state InFlight q.lines q.clock) (oldest_age q.lines q.clock)
      (h ∙ indexed.visible_count q.lines q.clock (records_in x) (records-kept q.lines q.clock x is) is.settled x.indices indices_are)
      (indices_are.delayed ∙ sym (indexed.delayed_count q.lines q.clock (records_in x) (records-kept q.lines q.clock x is) is.settled))
      in_flight_counted k

  -- ---- dead letters

  leaving_below : (number : ℕ) → contains_number number x.leaving.items ≡ true → number < message_count q.lines
  leaving_below number there = elim (cases_lt number (message_count q.lines)) [
    | inl below ↦ below
    | inr past ↦ absurd (false≢true (sym (ap is_left (indices_are.few number (omega arith))) ∙ sym (is.indexed.leaving number) ∙ there))
  ]

  -- those that have left for a dead-letter queue, counted among those that have left
  pub left_for_counted : (target : ℕ) → count_by (λ n. is_left_for target (slots_in x n)) x.leaving.items ≡ waiting_count q target
  left_for_counted target =
      let members =
      count_members (λ n. is_left_for target (slots_in x n)) x.leaving.items (message_count q.lines) is.indexed.once leaving_below in
      let same =
      count_agree (λ n. is_left_for target (slots_in x n)) (λ n. contains_number n x.leaving.items && is_left_for target (slots_in x n)) (message_count q.lines)
      (λ n. ap (λ (b : Bool). b && is_left_for target (slots_in x n)) (is.indexed.leaving n) ∙ left_part target (slots_in x n)) in
      sym members ∙ same ∙ sym (indexed.waiting_count q.lines q.clock (records_in x) (records-kept q.lines q.clock x is) is.settled target)

  -- the first number among those that have left is that of the first transfer
  abbrev leads : ℕ → Transfer → Type 0
  leads number t = (first_transfer q ≡ Some t) × (t.number ≡ number)

  first_leads : (number : ℕ) → Some number ≡ slice_get x.leaving.items 0 → (t : Transfer) × leads number t
  first_leads number h =
      let first = mapped_at (λ (t : Transfer). t.number) (first_transfer q) number
      (sym (slice_get-map (λ (t : Transfer). t.number) (pending_transfers q.lines) 0) ∙ ap (λ (ns : List ℕ). slice_get ns 0) (sym is.leaving) ∙ sym h) in
      (first.0, (first.1, first.2))

  module _ (sound : IsSound q.lines q.clock) where
    waiting_by : (t : Transfer) (m : Message) (kept : Option Record) → message_numbered q.lines t.number ≡ Some m → (course_of q.lines m).status ≡ Waiting t.target → records_in x t.number ≡ kept → IsWaiting q.lines x t
    waiting_by t m None e status k = absurd (false≢true (sym ((records-kept q.lines q.clock x is).none t.number m e k).1 ∙ ap awaits_status status))
    waiting_by t m (Some r) e status k =
        let there = (records-kept q.lines q.clock x is).some t.number r k in
        let same : there.0 ≡ m = same_Some there.0 m (sym there.1 ∙ e) in
        let of : IsRecordOf q.lines m r = subst (λ (m : Message). IsRecordOf q.lines m r) same there.2 in
        let left = left_stay r.slot.stay r.slot.due (course_of q.lines m) t.target of.standing status in
        record { message = m; numbered = e; kept = r; found = k; of = of; ran_out = left.0; left = left.1 }

    first_waits : (t : Transfer) → first_transfer q ≡ Some t → IsWaiting q.lines x t
    first_waits t h =
        let there : Contains (pending_transfers q.lines) t = (0, slice_get_within (pending_transfers q.lines) 0 t h, get_or_from_slice_get (pending_transfers q.lines) 0 t t h) in
        let waits = sound.pending.waiting t there in
        waiting_by t waits.0 (records_in x t.number) waits.1 waits.2 refl

    -- a message that stands first among those that have left, by its slot
    pub left_for : (number target : ℕ) (out : Bool) (slot : Slot) → Some number ≡ slice_get x.leaving.items 0 → Some slot ≡ slots_in x number → slot.stay ≡ Left target out → IsFirst q number target
    left_for number target out slot h same stay =
        let first = first_leads number h in
        let waits = first_waits first.0 first.1.0 in
        let slots : slots_in x number ≡ Some waits.kept.slot = ap (λ (n : ℕ). slots_in x n) (sym first.1.1) ∙ ap slot_in waits.found in
        let both : ◌≡◌ {A = Stay} (Left target out) (Left first.0.target waits.ran_out) = sym stay ∙ ap (λ (s : Slot). s.stay) (same_Some slot waits.kept.slot (same ∙ slots)) ∙ waits.left in
        let for : target ≡ first.0.target = cc in
        ap (λ (n : ℕ). let pair : ℕ × ℕ = (number, n) in Some pair) for
        ∙ ap (λ (n : ℕ). let pair : ℕ × ℕ = (n, first.0.target) in Some pair) (sym first.1.1)
        ∙ ap (λ (o : Option Transfer). option_map ends_of o) (sym first.1.0)

    -- what is handed over by the first transfer
    first_of : (number target : ℕ) → IsFirst q number target → (t : Transfer) × leads number t × (t.target ≡ target)
    first_of number target h =
        let first = mapped_at ends_of (first_transfer q) (number, target) (sym h) in
        (first.0, (first.1, ap (λ (p : ℕ × ℕ). p.0) first.2), ap (λ (p : ℕ × ℕ). p.1) first.2)

    handed_over : (t : Transfer) (waits : IsWaiting q.lines x t) → first_transfer q ≡ Some t → first_parcel_of q ≡ Some (parcel_of q t waits.message waits.kept.content)
    handed_over t waits h =
        ap (λ (o : Option Transfer). option_and_then (λ t. transferred_parcel q t) o) h
        ∙ ap (λ (o : Option Message). option_and_then (λ m. option_map (λ content. parcel_of q t m content) (content_of q.lines m)) o) waits.numbered
        ∙ ap (λ (o : Option ContentText). option_map (λ content. parcel_of q t waits.message content) o) waits.of.content

    pub parcel_kept : (number target : ℕ) → IsFirst q number target → None ≡ records_in x number → ⊥
    parcel_kept number target h none =
        let first = first_of number target h in
        let waits = first_waits first.0 first.1.0 in
        none-some waits.kept (none ∙ ap (λ (n : ℕ). records_in x n) (sym first.1.1) ∙ waits.found)

    pub parcel_there : (number target : ℕ) → IsFirst q number target → first_parcel_of q ≡ None → ⊥
    parcel_there number target h none =
        let first = first_of number target h in
        let waits = first_waits first.0 first.1.0 in
        none-some (parcel_of q first.0 waits.message waits.kept.content) (sym none ∙ handed_over first.0 waits first.1.0)

    pub parcel_is : (number target : ℕ) (origin : Origin) (r : Record) → IsFirst q number target → Some r ≡ records_in x number
        → ((m : Message) → m.number ≡ number → IsRecordOf q.lines m r → origin ≡ origin_of q m) → Some (record { origin = origin; target = target; content = r.content }) ≡ first_parcel_of q
    parcel_is number target origin r h same is_origin =
        let first = first_of number target h in
        let waits = first_waits first.0 first.1.0 in
        let kept : r ≡ waits.kept = same_Some r waits.kept (same ∙ ap (λ (n : ℕ). records_in x n) (sym first.1.1) ∙ waits.found) in
        let of : IsRecordOf q.lines waits.message r = subst (λ (r : Record). IsRecordOf q.lines waits.message r) (sym kept) waits.of in
        ap (λ (p : Parcel). Some p)
        (parcel_same origin (origin_of q waits.message) target first.0.target r.content waits.kept.content
        (is_origin waits.message (numbered-number q.lines first.0.number waits.message waits.numbered ∙ first.1.1) of)
        (sym first.2)
        (ap (λ (r : Record). r.content) kept))
        ∙ sym (handed_over first.0 waits first.1.0)
