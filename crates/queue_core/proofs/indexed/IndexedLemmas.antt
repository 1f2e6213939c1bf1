-- What a queue's journal says is what its indices say.
use Rattle.std.proofs.Common.{◌≡◌, ℕ, ◌+◌, ◌*◌, ◌≤◌, Bool, true, false, not, cond, ◌&&◌, ◌||◌, ◌==◌, List, [], ◌∷◌, map, length, get_or, Option, Some, None, inl, inr, refl, sym, ap, subst, ◌∙◌, arith}
use Rattle.std.specs.Prelude.{option_map, count_by, nat_le, nat_lt, min, slice_get}
use Rattle.std.specs.Option.{option_map_or}
use Rattle.std.specs.List.{Contains, list_any}
use Rattle.std.proofs.lemmas.Bool.{false≢true, le-leb, lt-ltb, le-ltb, cases_lt, eqb-true, eq-eqb, and_parts, and_from, or_left, or_right}
use Rattle.std.proofs.lemmas.Bool.Decides.{same_from_decides}
use Rattle.std.proofs.lemmas.List.{length-map}
use Rattle.std.proofs.lemmas.List.Elements.{All-contains}
use Rattle.std.proofs.lemmas.List.Folds.{Any-from_list_any, list_any-from_Any}
use Rattle.std.proofs.lemmas.Option.{none-some, same_Some, slice_get-map, slice_get_within, slice_get-get_or, get_or_from_slice_get}
use Rattle.journal.specs.Order.{is_before}
use Rattle.queue_core.specs.declared.facts.Message.{Message}
use Rattle.queue_core.specs.declared.facts.Course.{Course}
use Rattle.queue_core.specs.declared.facts.Status.{Status}
use Rattle.queue_core.specs.declared.facts.Status.TheVariants.{Present, Removed, Waiting, Transferred}
use Rattle.queue_core.specs.declared.facts.Candidate.{Candidate}
use Rattle.queue_core.specs.declared.facts.MessageState.{MessageState}
use Rattle.queue_core.specs.declared.facts.MessageState.TheVariants.{Visible, Delayed, InFlight}
use Rattle.queue_core.specs.Messages.{message_count, messages, settings_of, is_expired, is_present_status, is_returned, receive_count, course_of, due_time, awaits_status, awaits_transfer, is_waiting_status, waits_for}
use Rattle.queue_core.specs.States.{is_live, has_age, same_state, is_in_state, is_numbered, message_numbered, count_in_state, candidate_of, receive_order}
use Rattle.queue_core.specs.Turns.{ComesBefore, IsVisibleCandidate}
use Rattle.queue_core.proofs.OfferLemmas.{receive_order-in_order, visible_in_order, order_visible, length-receive_order}
use Rattle.visible_index.specs.Pairs.{same_pair, has_pair}
use Rattle.queue_core.specs.declared.slot.Stay.{Stay}
use Rattle.queue_core.specs.declared.slot.Stay.TheVariants.{Hidden, Shown, Left}
use Rattle.queue_core.specs.declared.slot.Slot.{Slot}
use Rattle.queue_core.specs.declared.record.Record.{Record}
use Rattle.queue_core.specs.declared.indices.Indices.{Indices}
use Rattle.queue_core.specs.private.Heaps.{next_time, sent_time}
use Rattle.queue_core.specs.private.Slots.{due_in, sent_in, is_hidden_stay, is_shown_stay, is_left_stay, is_left_stay_for, is_left_for, is_here, is_shown, is_left, is_delayed, is_in_flight, has_age as slot_has_age, shows, count_slots, AreIndexed}
use Rattle.queue_core.specs.private.Records.{Records, stay_at, with_stay, has_run_out, settled_record, IsSettled}
use Rattle.queue_core.specs.private.Recorded.{runs_out_by, IsStanding, IsRecordOf, notes_end, TellsExpiry, AreRecorded}
use Rattle.queue_core.proofs.records.FactLemmas.{Line, numbered-number}
use Rattle.queue_core.proofs.entries.PairLemmas.{AreAscending, ascending_same, AllPairs-map, count_by-places}

-- ---- what passing time leaves as it is

lasts_at : (left out : Bool) (after r : Record) → cond (not left && out) None (Some after) ≡ Some r → left ≡ false → out ≡ false
lasts_at true out after r h e = absurd (false≢true (sym e))
lasts_at false true after r h e = absurd (none-some r h)
lasts_at false false after r h e = refl

stays_at : (gone : Bool) (after r : Record) → cond gone None (Some after) ≡ Some r → after ≡ r
stays_at true after r h = absurd (none-some r h)
stays_at false after r h = same_Some after r h

hidden_yet : (late : Bool) → ◌≡◌ {A = Stay} (cond late Shown Hidden) Hidden → late ≡ false
hidden_yet true h = absurd cc
hidden_yet false h = refl

-- ---- what a stay tells of its message: whether that is live, and where it is, whether its due time has come

abbrev IsSeen : Stay → Bool → Bool → Type 0
IsSeen Hidden live late = (live ≡ true) × (late ≡ false)
IsSeen Shown live late = (live ≡ true) × (late ≡ true)
IsSeen (Left target ran_out) live late = live ≡ false

live_by : (stay : Stay) (live late : Bool) → IsSeen stay live late → live ≡ not (is_left_stay stay)
live_by Hidden live late h = h.0
live_by Shown live late h = h.0
live_by (Left target ran_out) live late h = h

abbrev state_by : MessageState → Bool → Bool → Bool → Bool
state_by state live late fresh = option_map_or (λ s. same_state state s) (cond live (Some (cond late Visible (cond fresh Delayed InFlight))) None) false

visible_by : (stay : Stay) (live late fresh : Bool) → IsSeen stay live late → state_by Visible live late fresh ≡ is_shown_stay stay
visible_by Hidden live late true h = rw (h.0, h.1) refl
visible_by Hidden live late false h = rw (h.0, h.1) refl
visible_by Shown live late fresh h = rw (h.0, h.1) refl
visible_by (Left target ran_out) live late fresh h = rw h refl

delayed_by : (stay : Stay) (live late fresh : Bool) → IsSeen stay live late → state_by Delayed live late fresh ≡ (is_hidden_stay stay && fresh)
delayed_by Hidden live late true h = rw (h.0, h.1) refl
delayed_by Hidden live late false h = rw (h.0, h.1) refl
delayed_by Shown live late fresh h = rw (h.0, h.1) refl
delayed_by (Left target ran_out) live late fresh h = rw h refl

in_flight_by : (stay : Stay) (live late fresh : Bool) → IsSeen stay live late → state_by InFlight live late fresh ≡ (is_hidden_stay stay && not fresh)
in_flight_by Hidden live late true h = rw (h.0, h.1) refl
in_flight_by Hidden live late false h = rw (h.0, h.1) refl
in_flight_by Shown live late fresh h = rw (h.0, h.1) refl
in_flight_by (Left target ran_out) live late fresh h = rw h refl

due_by : (stay : Stay) (due : ℕ) (c : Course) → IsStanding stay due c → is_shown_stay stay ≡ true → c.due ≡ due
due_by Hidden due c h e = h.1
due_by Shown due c h e = h.1
due_by (Left target left_ran_out) due c h e = absurd (false≢true e)

shows_by : (stay : Stay) (visible : Bool) (at due moment : ℕ) → visible ≡ is_shown_stay stay → (is_shown_stay stay ≡ true → at ≡ due) → (visible && (at == moment)) ≡ (is_shown_stay stay && (due == moment))
shows_by Hidden visible at due moment h k = rw h refl
shows_by Shown visible at due moment h k = rw (h, k refl) refl
shows_by (Left target ran_out) visible at due moment h k = rw h refl

stay_shown : (stay : Stay) → is_shown_stay stay ≡ true → stay ≡ Shown
stay_shown Hidden h = absurd (false≢true h)
stay_shown Shown h = refl
stay_shown (Left target ran_out) h = absurd (false≢true h)

awaits_by : (stay : Stay) (due : ℕ) (c : Course) → IsStanding stay due c → awaits_status c.status ≡ is_left_stay stay
awaits_by Hidden due c h = ap awaits_status h.0
awaits_by Shown due c h = ap awaits_status h.0
awaits_by (Left target left_ran_out) due c h = ap awaits_status h.0

waits_by : (target : ℕ) (stay : Stay) (due : ℕ) (c : Course) → IsStanding stay due c → is_waiting_status target c.status ≡ is_left_stay_for target stay
waits_by target Hidden due c h = ap (is_waiting_status target) h.0
waits_by target Shown due c h = ap (is_waiting_status target) h.0
waits_by target (Left own left_ran_out) due c h = ap (is_waiting_status target) h.0

lt-min : (count : ℕ) → nat_lt (min count 3) 3 ≡ nat_lt count 3
lt-min count = elim (cases_lt count 3) [
  | inl few ↦ lt-ltb (min count 3) 3 (omega (arith, few)) ∙ sym (lt-ltb count 3 few)
  | inr most ↦ le-ltb (min count 3) 3 (omega (arith, most)) ∙ sym (le-ltb count 3 most)
]

-- what is not live is in no state, and what does not wait waits for no queue
in_no_state : (state : MessageState) (live late fresh : Bool) → live ≡ false → state_by state live late fresh ≡ false
in_no_state state live late fresh h = rw h refl

waits_for_none : (target : ℕ) (status : Status) → awaits_status status ≡ false → is_waiting_status target status ≡ false
waits_for_none target Present h = refl
waits_for_none target Removed h = refl
waits_for_none target (Waiting own) h = absurd (false≢true (sym h))
waits_for_none target Transferred h = refl

-- ---- one message and its record

-- its due time has come, and it was never received nor brought back
abbrev is_late : List Line → ℕ → Message → Bool
is_late lines clock m = nat_le (due_time lines m) clock

abbrev is_unused : List Line → Message → Bool
is_unused lines m = (receive_count lines m.number == 0) && not (is_returned lines m)

in_none : (lines : List Line) (clock : ℕ) (state : MessageState) (m : Message) → is_live lines clock m ≡ false → is_in_state state lines clock m ≡ false
in_none lines clock state m h = in_no_state state (is_live lines clock m) (is_late lines clock m) (is_unused lines m) h

-- a record of a message, with what it tells of it
record HasRecord (lines : List Line) (clock : ℕ) (m : Message) (r : Record) : Type 0 where
  of : IsRecordOf lines m r
  seen : IsSeen r.slot.stay (is_live lines clock m) (is_late lines clock m)

live_at : (status : Status) (expired noted runs_out : Bool) → status ≡ Present → expired ≡ (noted || runs_out) → noted ≡ false → runs_out ≡ false → (is_present_status status && not expired) ≡ true
live_at status expired noted runs_out a b c d = rw (a, b, c, d) refl

gone_at : (target : ℕ) (status : Status) (expired : Bool) → status ≡ Waiting target → (is_present_status status && not expired) ≡ false
gone_at target status expired h = rw h refl

here-unnoted : (stay : Stay) → is_left_stay stay ≡ false → notes_end stay ≡ false
here-unnoted Hidden h = refl
here-unnoted Shown h = refl
here-unnoted (Left target ran_out) h = absurd (false≢true (sym h))

module _ (lines : List Line) (clock : ℕ) (m : Message) (r : Record) (tells : TellsExpiry lines clock m r) (of : IsRecordOf lines m r) where
  abbrev retention : ℕ
  retention = (settings_of lines).retention_seconds

  module _ (settled : settled_record retention clock r ≡ Some r) (shown : r.slot.stay ≡ Shown → r.slot.due ≤ clock) where
    lasts : is_left_stay r.slot.stay ≡ false → runs_out_by (settings_of lines) clock m ≡ false
    lasts h =
        ap (λ (sent : ℕ). nat_le (sent + 1000 * retention) clock) (sym of.first_send_time)
        ∙ lasts_at (is_left_stay r.slot.stay) (has_run_out retention clock r) (with_stay (stay_at clock r.slot.stay r.slot.due) r) r settled h

    stays : stay_at clock r.slot.stay r.slot.due ≡ r.slot.stay
    stays =
        ap (λ (x : Record). x.slot.stay)
        (stays_at (not (is_left_stay r.slot.stay) && has_run_out retention clock r) (with_stay (stay_at clock r.slot.stay r.slot.due) r) r settled)

    live : (stay : Stay) → r.slot.stay ≡ stay → is_left_stay stay ≡ false → (course_of lines m).status ≡ Present → is_live lines clock m ≡ true
    live stay e h present =
        live_at (course_of lines m).status (is_expired lines clock m) (notes_end r.slot.stay) (runs_out_by (settings_of lines) clock m) present tells (ap notes_end e ∙ here-unnoted stay h)
        (lasts (ap is_left_stay e ∙ h))

    seen_at : (stay : Stay) → r.slot.stay ≡ stay → IsStanding stay r.slot.due (course_of lines m) → IsSeen stay (is_live lines clock m) (is_late lines clock m)
    seen_at Hidden e h = (
      live Hidden e refl h.0,
      ap (λ (due : ℕ). nat_le due clock) h.1
          ∙ hidden_yet (nat_le r.slot.due clock) (subst (λ (stay : Stay). stay_at clock stay r.slot.due ≡ stay) e stays),
    )
    seen_at Shown e h = (live Shown e refl h.0, ap (λ (due : ℕ). nat_le due clock) h.1 ∙ le-leb r.slot.due clock (shown e))
    seen_at (Left target ran_out) e h = gone_at target (course_of lines m).status (is_expired lines clock m) h.0

    has_record : HasRecord lines clock m r
    has_record = record { of = of; seen = seen_at r.slot.stay refl of.standing }

module _ (lines : List Line) (clock : ℕ) (m : Message) (r : Record) (has : HasRecord lines clock m r) where
  here_by : is_live lines clock m ≡ is_here (Some r.slot)
  here_by = live_by r.slot.stay (is_live lines clock m) (is_late lines clock m) has.seen

  age_by : has_age lines clock m ≡ slot_has_age (Some r.slot)
  age_by =
      ap (λ (b : Bool). b && nat_lt (receive_count lines m.number) 3) here_by
      ∙ ap (λ (b : Bool). not (is_left_stay r.slot.stay) && b) (sym (lt-min (receive_count lines m.number)) ∙ ap (λ n. nat_lt n 3) (sym has.of.tries))

  shown_by : is_in_state Visible lines clock m ≡ is_shown (Some r.slot)
  shown_by = visible_by r.slot.stay (is_live lines clock m) (is_late lines clock m) (is_unused lines m) has.seen

  slot_delayed_by : is_in_state Delayed lines clock m ≡ is_delayed (Some r.slot)
  slot_delayed_by = delayed_by r.slot.stay (is_live lines clock m) (is_late lines clock m) (is_unused lines m) has.seen ∙ ap (λ (b : Bool). is_hidden_stay r.slot.stay && b) (sym has.of.fresh)

  slot_in_flight_by : is_in_state InFlight lines clock m ≡ is_in_flight (Some r.slot)
  slot_in_flight_by = in_flight_by r.slot.stay (is_live lines clock m) (is_late lines clock m) (is_unused lines m) has.seen ∙ ap (λ (b : Bool). is_hidden_stay r.slot.stay && not b) (sym has.of.fresh)

  left_by : awaits_transfer lines m ≡ is_left (Some r.slot)
  left_by = awaits_by r.slot.stay r.slot.due (course_of lines m) has.of.standing

  left_for_by : (target : ℕ) → waits_for lines target m ≡ is_left_for target (Some r.slot)
  left_for_by target = waits_by target r.slot.stay r.slot.due (course_of lines m) has.of.standing

  due_is : is_shown_stay r.slot.stay ≡ true → due_time lines m ≡ r.slot.due
  due_is = due_by r.slot.stay r.slot.due (course_of lines m) has.of.standing

  shows_at : (moment : ℕ) → (is_in_state Visible lines clock m && (due_time lines m == moment)) ≡ shows (Some r.slot) moment
  shows_at moment = shows_by r.slot.stay (is_in_state Visible lines clock m) (due_time lines m) r.slot.due moment shown_by due_is

-- ---- the order of receives as pairs

abbrev pub pair_of : Candidate → ℕ × ℕ
pair_of c = (c.due, c.message.number)

before_by : (a b : Candidate) → ComesBefore a b → is_before (pair_of a) (pair_of b) ≡ true
before_by a b (inl h) = or_left _ _ (lt-ltb a.due b.due h)
before_by a b (inr h) = or_right _ _ (and_from _ _ (eq-eqb a.due b.due h.0) (lt-ltb a.message.number b.message.number h.1))

has_pair-map : (pair : ℕ × ℕ) (cs : List Candidate) → has_pair pair (map pair_of cs) ≡ list_any (λ c. same_pair pair (pair_of c)) cs
has_pair-map pair [] = refl
has_pair-map pair (c ∷ cs) = ap (λ (b : Bool). same_pair pair (pair_of c) || b) (has_pair-map pair cs)

pub Contains-at : {X : Type 0} (xs : List X) (k : ℕ) (x : X) → slice_get xs k ≡ Some x → Contains xs x
Contains-at xs k x h = (k, slice_get_within xs k x h, get_or_from_slice_get xs k x x h)

module _ (lines : List Line) (clock : ℕ) where
  abbrev order : List Candidate
  order = receive_order lines clock

  pub order_ascending : AreAscending (map pair_of order)
  order_ascending = AllPairs-map pair_of (λ a b. is_before a b ≡ true) order (λ i j d h k. before_by (get_or order i d) (get_or order j d) (receive_order-in_order lines clock i j d h k))

  -- a message of the journal has its own number there
  pub numbered_there : (m : Message) → Contains (messages lines) m → message_numbered lines m.number ≡ Some m
  numbered_there m there =
      let found : message_numbered lines there.0 ≡ Some m = slice_get-get_or (messages lines) there.0 m there.1 ∙ ap (λ (x : Message). Some x) there.2 in
      subst (λ (n : ℕ). message_numbered lines n ≡ Some m) (sym (numbered-number lines there.0 m found)) found

  abbrev pub is_visible_at : ℕ → Message → Bool
  is_visible_at moment m = is_in_state Visible lines clock m && (due_time lines m == moment)

  number_from_pair : (moment n : ℕ) (c : Candidate) → IsVisibleCandidate lines clock c → same_pair (moment, n) (pair_of c) ≡ true → is_numbered (is_visible_at moment) lines n ≡ true
  number_from_pair moment n c visible same =
      let both = and_parts (moment == c.due) (n == c.message.number) same in
      let number : n ≡ c.message.number = eqb-true n c.message.number both.1 in
      let due : due_time lines c.message ≡ moment = sym (eqb-true moment c.due both.0 ∙ visible.due) in
      ap (λ (k : ℕ). is_numbered (is_visible_at moment) lines k) number
      ∙ ap (λ (found : Option Message). option_map_or (is_visible_at moment) found false) (numbered_there c.message visible.message)
      ∙ and_from (is_in_state Visible lines clock c.message) (due_time lines c.message == moment) visible.visible (eq-eqb (due_time lines c.message) moment due)

  numbers_from_pairs : (moment n : ℕ) → has_pair (moment, n) (map pair_of order) ≡ true → is_numbered (is_visible_at moment) lines n ≡ true
  numbers_from_pairs moment n h =
      let there = Any-from_list_any (λ c. same_pair (moment, n) (pair_of c)) order (sym (has_pair-map (moment, n) order) ∙ h) in
      number_from_pair moment n there.1 (All-contains (λ c. IsVisibleCandidate lines clock c) order there.1 (order_visible lines clock) (there.0, there.2, there.3)) there.4

  pair_from_number : (moment n : ℕ) (found : Option Message) → message_numbered lines n ≡ found → option_map_or (is_visible_at moment) found false ≡ true
      → list_any (λ c. same_pair (moment, n) (pair_of c)) order ≡ true
  pair_from_number moment n None e h = absurd (false≢true h)
  pair_from_number moment n (Some m) e h =
      let both = and_parts (is_in_state Visible lines clock m) (due_time lines m == moment) h in
      let there = visible_in_order lines clock m (Contains-at (messages lines) n m e) both.0 in
      let due : moment ≡ due_time lines m = sym (eqb-true (due_time lines m) moment both.1) in
      list_any-from_Any (λ c. same_pair (moment, n) (pair_of c)) order
      (there.0, candidate_of lines m, there.1, there.2, and_from _ _ (eq-eqb moment (due_time lines m) due) (eq-eqb n m.number (sym (numbered-number lines n m e))))

  pub pairs_are : (moment n : ℕ) → has_pair (moment, n) (map pair_of order) ≡ is_numbered (is_visible_at moment) lines n
  pairs_are moment n =
      same_from_decides {P = is_numbered (is_visible_at moment) lines n ≡ true} (has_pair (moment, n) (map pair_of order)) (is_numbered (is_visible_at moment) lines n)
      (numbers_from_pairs moment n, λ h. has_pair-map (moment, n) order ∙ pair_from_number moment n (message_numbered lines n) refl h)
      (λ h. h, λ h. h)

-- a visible message in its turn is that of its number, and has a record that is shown
pub record IsOffered (lines : List Line) (records : Records) (c : Candidate) : Type 0 where
  pub message : message_numbered lines c.message.number ≡ Some c.message
  pub kept : Record
  pub found : records c.message.number ≡ Some kept
  pub of : IsRecordOf lines c.message kept
  pub shown : kept.slot.stay ≡ Shown
  pub due : kept.slot.due ≡ c.due

-- the message of the pair at a place of the order
pub record IsTurn (lines : List Line) (clock : ℕ) (records : Records) (place : ℕ) (pair : ℕ × ℕ) : Type 0 where
  pub candidate : Candidate
  pub turn : slice_get (receive_order lines clock) place ≡ Some candidate
  pub pair_is : pair_of candidate ≡ pair
  pub offered : IsOffered lines records candidate

-- the slot of each number
abbrev pub slots_of : Records → ℕ → Option Slot
slots_of records n = option_map (λ r. r.slot) (records n)

-- ---- all messages

module _ (lines : List Line) (clock : ℕ) (records : Records) (is : AreRecorded lines clock records) (settled : IsSettled (settings_of lines).retention_seconds clock records) where
  kept_by : (n : ℕ) (m : Message) (r : Record) → message_numbered lines n ≡ Some m → records n ≡ Some r → HasRecord lines clock m r
  kept_by n m r e k =
      let there = is.some n r k in
      let same : there.0 ≡ m = same_Some there.0 m (sym there.1 ∙ e) in
      has_record lines clock m r (subst (λ (x : Message). TellsExpiry lines clock x r) same there.3) (subst (λ (x : Message). IsRecordOf lines x r) same there.2) (settled.settled n r k) (settled.shown n r k)

  -- a test of messages is one of slots, where it is so of each message with its record, and no message without one passes
  told_at : {X : Type 0} (nothing : X) (p : Message → X) (test : Option Slot → X) → test None ≡ nothing → ((m : Message) → is_live lines clock m ≡ false → awaits_transfer lines m ≡ false → p m ≡ nothing)
      → (n : ℕ) → ((m : Message) (r : Record) → HasRecord lines clock m r → records n ≡ Some r → p m ≡ test (Some r.slot)) → (found : Option Message) (kept : Option Record) → message_numbered lines n ≡ found
      → records n ≡ kept → option_map_or p found nothing ≡ test (option_map (λ r. r.slot) kept)
  told_at nothing p test none absent n with None None e k = sym none
  told_at nothing p test none absent n with None (Some r) e k = let there = is.some n r k in absurd (none-some there.0 (sym e ∙ there.1))
  told_at nothing p test none absent n with (Some m) None e k = let gone = is.none n m e k in absent m gone.0 gone.1 ∙ sym none
  told_at nothing p test none absent n with (Some m) (Some r) e k = with m r (kept_by n m r e k) k

  numbered : (p : Message → Bool) (test : Option Slot → Bool) → test None ≡ false → ((m : Message) → is_live lines clock m ≡ false → awaits_transfer lines m ≡ false → p m ≡ false)
      → ((m : Message) (r : Record) → HasRecord lines clock m r → p m ≡ test (Some r.slot)) → (n : ℕ) → is_numbered p lines n ≡ test (slots_of records n)
  numbered p test none absent with n = told_at false p test none absent n (λ m r has at. with m r has) (message_numbered lines n) (records n) refl refl

  -- ---- the indices

  next_by : (stay : Stay) (due : ℕ) (c : Course) (live late fresh : Bool) → IsStanding stay due c → IsSeen stay live late
      → cond (live && not (state_by Visible live late fresh)) (Some c.due) None ≡ cond (is_hidden_stay stay) (Some due) None
  next_by Hidden due c live late true stands seen = rw (seen.0, seen.1, stands.1) refl
  next_by Hidden due c live late false stands seen = rw (seen.0, seen.1, stands.1) refl
  next_by Shown due c live late fresh stands seen = rw (seen.0, seen.1) refl
  next_by (Left target ran_out) due c live late fresh stands seen = rw seen refl

  sent_by : (stay : Stay) (live late : Bool) (at sent : ℕ) → IsSeen stay live late → at ≡ sent → cond live (Some sent) None ≡ cond (is_left_stay stay) None (Some at)
  sent_by Hidden live late at sent seen same = rw (seen.0, same) refl
  sent_by Shown live late at sent seen same = rw (seen.0, same) refl
  sent_by (Left target ran_out) live late at sent seen same = rw seen refl

  gone_next : (live : Bool) (m : Message) → is_live lines clock m ≡ live → live ≡ false → cond (is_live lines clock m && not (is_in_state Visible lines clock m)) (Some (due_time lines m)) None ≡ None
  gone_next live m e h = ap (λ (b : Bool). cond (b && not (is_in_state Visible lines clock m)) (Some (due_time lines m)) None) (e ∙ h)

  pub next_is : (n : ℕ) → next_time lines clock n ≡ due_in (slots_of records n)
  next_is n =
      told_at None (λ m. cond (is_live lines clock m && not (is_in_state Visible lines clock m)) (Some (due_time lines m)) None) due_in refl
      (λ m dead none. gone_next (is_live lines clock m) m refl dead) n
      (λ m r has at. next_by r.slot.stay r.slot.due (course_of lines m) (is_live lines clock m) (is_late lines clock m) (is_unused lines m) has.of.standing has.seen)
      (message_numbered lines n) (records n) refl refl

  pub sent_is : ((n : ℕ) (r : Record) → records n ≡ Some r → r.slot.sent ≡ r.first_send_time) → (n : ℕ) → sent_time lines clock n ≡ sent_in (slots_of records n)
  sent_is sent n =
      told_at None (λ m. cond (is_live lines clock m) (Some m.first_send_time) None) sent_in refl (λ m dead none. ap (λ (b : Bool). cond b (Some m.first_send_time) None) dead) n
      (λ m r has at. sent_by r.slot.stay (is_live lines clock m) (is_late lines clock m) r.slot.sent m.first_send_time has.seen (sent n r at ∙ has.of.first_send_time))
      (message_numbered lines n) (records n) refl refl

  pub here_is : (n : ℕ) → is_numbered (λ m. is_live lines clock m) lines n ≡ is_here (slots_of records n)
  here_is n = numbered (λ m. is_live lines clock m) is_here refl (λ m h k. h) (λ m r has. here_by lines clock m r has) n

  pub age_is : (n : ℕ) → is_numbered (λ m. has_age lines clock m) lines n ≡ slot_has_age (slots_of records n)
  age_is n =
      numbered (λ m. has_age lines clock m) slot_has_age refl (λ m h k. ap (λ (b : Bool). b && nat_lt (receive_count lines m.number) 3) h) (λ m r has. age_by lines clock m r has) n

  pub shown_is : (n : ℕ) → is_numbered (λ m. is_in_state Visible lines clock m) lines n ≡ is_shown (slots_of records n)
  shown_is n = numbered (λ m. is_in_state Visible lines clock m) is_shown refl (λ m h k. in_none lines clock Visible m h) (λ m r has. shown_by lines clock m r has) n

  pub delayed_is : (n : ℕ) → is_numbered (λ m. is_in_state Delayed lines clock m) lines n ≡ is_delayed (slots_of records n)
  delayed_is n = numbered (λ m. is_in_state Delayed lines clock m) is_delayed refl (λ m h k. in_none lines clock Delayed m h) (λ m r has. slot_delayed_by lines clock m r has) n

  pub in_flight_is : (n : ℕ) → is_numbered (λ m. is_in_state InFlight lines clock m) lines n ≡ is_in_flight (slots_of records n)
  in_flight_is n = numbered (λ m. is_in_state InFlight lines clock m) is_in_flight refl (λ m h k. in_none lines clock InFlight m h) (λ m r has. slot_in_flight_by lines clock m r has) n

  pub left_is : (n : ℕ) → is_numbered (λ m. awaits_transfer lines m) lines n ≡ is_left (slots_of records n)
  left_is n = numbered (λ m. awaits_transfer lines m) is_left refl (λ m h k. k) (λ m r has. left_by lines clock m r has) n

  pub left_for_is : (target n : ℕ) → is_numbered (λ m. waits_for lines target m) lines n ≡ is_left_for target (slots_of records n)
  left_for_is target n =
      numbered (λ m. waits_for lines target m) (is_left_for target) refl (λ m h k. waits_for_none target (course_of lines m).status k) (λ m r has. left_for_by lines clock m r has target) n

  -- a test that agrees with one of slots at each number counts as many
  counted : (p : Message → Bool) (test : Option Slot → Bool) → ((n : ℕ) → is_numbered p lines n ≡ test (slots_of records n)) → count_by p (messages lines) ≡ count_slots test (slots_of records) (message_count lines)
  counted p test h =
      let from_first : (k : ℕ) → k ≡ 0 + k = λ k. omega arith in
      count_by-places p (λ n. test (slots_of records n)) 0 (messages lines) (λ k. h k ∙ ap (λ (n : ℕ). test (slots_of records n)) (from_first k))

  pub delayed_count : count_in_state Delayed lines clock ≡ count_slots is_delayed (slots_of records) (message_count lines)
  delayed_count = counted (λ m. is_in_state Delayed lines clock m) is_delayed delayed_is

  pub in_flight_count : count_in_state InFlight lines clock ≡ count_slots is_in_flight (slots_of records) (message_count lines)
  in_flight_count = counted (λ m. is_in_state InFlight lines clock m) is_in_flight in_flight_is

  pub waiting_count : (target : ℕ) → count_by (λ m. waits_for lines target m) (messages lines) ≡ count_slots (is_left_for target) (slots_of records) (message_count lines)
  waiting_count target = counted (λ m. waits_for lines target m) (is_left_for target) (left_for_is target)

  shows_is : (moment n : ℕ) → is_numbered (is_visible_at lines clock moment) lines n ≡ shows (slots_of records n) moment
  shows_is moment n =
      numbered (is_visible_at lines clock moment) (λ o. shows o moment) refl (λ m h k. ap (λ (b : Bool). b && (due_time lines m == moment)) (in_none lines clock Visible m h))
      (λ m r has. shows_at lines clock m r has moment) n

  pub order_is : (x : Indices) → AreIndexed (slots_of records) (message_count lines) x → x.visible.pairs ≡ map pair_of (receive_order lines clock)
  order_is x indexed =
      ascending_same x.visible.pairs (map pair_of (receive_order lines clock)) indexed.strict (order_ascending lines clock)
      (λ moment n. indexed.shown moment n ∙ sym (shows_is moment n) ∙ sym (pairs_are lines clock moment n))

  pub visible_count : (x : Indices) → AreIndexed (slots_of records) (message_count lines) x → length x.visible.pairs ≡ count_in_state Visible lines clock
  visible_count x indexed = ap length (order_is x indexed) ∙ length-map (receive_order lines clock) pair_of ∙ length-receive_order lines clock

  -- ---- a message in its turn

  offered_by : (c : Candidate) (kept : Option Record) → IsVisibleCandidate lines clock c → message_numbered lines c.message.number ≡ Some c.message → records c.message.number ≡ kept → IsOffered lines records c
  offered_by c None visible e k = absurd (false≢true (sym (in_none lines clock Visible c.message (is.none c.message.number c.message e k).0) ∙ visible.visible))
  offered_by c (Some r) visible e k =
      let has = kept_by c.message.number c.message r e k in
      let shown : is_shown_stay r.slot.stay ≡ true = sym (shown_by lines clock c.message r has) ∙ visible.visible in
      record {
        message = e;
        kept = r;
        found = k;
        of = has.of;
        shown = stay_shown r.slot.stay shown;
        due = sym (visible.due ∙ due_is lines clock c.message r has shown);
      }

  pub offered : (c : Candidate) → Contains (receive_order lines clock) c → IsOffered lines records c
  offered c there =
      let visible = All-contains (λ x. IsVisibleCandidate lines clock x) (receive_order lines clock) c (order_visible lines clock) there in
      offered_by c (records c.message.number) visible (numbered_there lines clock c.message visible.message) refl

  pub offered_at : (place : ℕ) (c : Candidate) → slice_get (receive_order lines clock) place ≡ Some c → IsOffered lines records c
  offered_at place c h = offered c (Contains-at (receive_order lines clock) place c h)

  turn_by : (place : ℕ) (pair : ℕ × ℕ) (at : Option Candidate) → slice_get (receive_order lines clock) place ≡ at → option_map pair_of at ≡ Some pair → IsTurn lines clock records place pair
  turn_by place pair None e h = absurd (none-some pair h)
  turn_by place pair (Some c) e h = record { candidate = c; turn = e; pair_is = same_Some (pair_of c) pair h; offered = offered_at place c e }

  pub turn_at : (x : Indices) → AreIndexed (slots_of records) (message_count lines) x → (place : ℕ) (pair : ℕ × ℕ) → slice_get x.visible.pairs place ≡ Some pair → IsTurn lines clock records place pair
  turn_at x indexed place pair h =
      turn_by place pair (slice_get (receive_order lines clock) place) refl
      (sym (slice_get-map pair_of (receive_order lines clock) place) ∙ ap (λ (pairs : List (ℕ × ℕ)). slice_get pairs place) (sym (order_is x indexed)) ∙ h)
