-- The records of messages stay those of the journal, whatever event comes and however much time passes.
use Rattle.std.proofs.Common.{◌≡◌, ℕ, ◌+◌, ◌*◌, ◌≤◌, ◌<◌, Bool, true, false, not, cond, ◌&&◌, ◌||◌, List, [], ◌∷◌, ◌++◌, length, Option, Some, None, inl, inr, refl, sym, ap, subst, ◌∙◌, eqb, arith}
use Rattle.std.specs.Prelude.{◌⊎◌, ◌-◌, nat_le, nat_lt, min, slice_get, option_map, option_and_then, unwrap_or}
use Rattle.std.specs.Option.{option_map_or}
use Rattle.std.proofs.Math.Bool.{and-false}
use Rattle.std.proofs.Math.Nat.{add-zero}
use Rattle.std.proofs.lemmas.Bool.{false≢true, and_parts, or_right, leb-true, le-leb, lt-ltb, le-ltb, ltb-false, cases_lt, ne_eqb, false_from_ne_true}
use Rattle.std.proofs.lemmas.List.{length-append}
use Rattle.std.proofs.lemmas.Option.{none-some, same_Some}
use Rattle.message.specs.Content.{ContentText}
use Rattle.queue_config.specs.Settings.{QueueSettings, default_settings}
use Rattle.journal.specs.declared.entry.Event.{Event}
use Rattle.journal.specs.declared.entry.Event.TheVariants.{Opened, Set, Base}
use Rattle.metric_window.specs.Flows.{greatest}
use Rattle.queue_core.specs.declared.facts.Message.{Message}
use Rattle.queue_core.specs.declared.facts.Course.{Course}
use Rattle.queue_core.specs.declared.facts.Status.{Status}
use Rattle.queue_core.specs.declared.facts.Status.TheVariants.{Present, Waiting}
use Rattle.queue_core.specs.declared.facts.MessageState.{MessageState}
use Rattle.queue_core.specs.declared.facts.MessageState.TheVariants.{Visible}
use Rattle.queue_core.specs.Messages.{Birth, Past, effect_of, contains_number, no_past, message_since, message_in, message_count, content_of, settings_after, settings_of, opens, closes_period, is_expired, offers_number, receive_count, first_receive_time, last_receive_time, returns, course_of, is_present_status, is_present, is_returned, awaits_status, awaits_transfer}
use Rattle.queue_core.specs.States.{is_live, waiting_state, same_state, is_in_state, message_numbered, is_numbered}
use Rattle.queue_core.specs.Queue.{QueueHistory, with_event}
use Rattle.queue_core.proofs.CauseLemmas.{IsAbout}
use Rattle.queue_core.specs.declared.slot.Stay.{Stay}
use Rattle.queue_core.specs.declared.slot.Stay.TheVariants.{Hidden, Shown, Left}
use Rattle.queue_core.specs.declared.record.Record.{Record}
use Rattle.queue_core.specs.private.Slots.{is_left_stay}
use Rattle.queue_core.specs.private.Records.{with_stay, has_run_out, tried, stay_at, is_left_record, settled_record, record_after, Records, IsSettled, born_record, record_of_birth, record_begun, records_after, records_settled}
use Rattle.queue_core.specs.private.Recorded.{ran_out_before, runs_out_by, IsStanding, IsRecordOf, notes_end, TellsExpiry, AreRecorded}
use Rattle.queue_core.proofs.records.FactLemmas.{Line, settings_from-push, course-push, ran_out-push, expired-split, receives-push, first-push, last-push, content-push, numbered-push, numbered-number, numbered-place, numbered-past, IsNewborn, newborn, IsSound}
use Rattle.std.proofs.lemmas.Bool.Decides.{nat_tests}
use Rattle.queue_core.proofs.Scans.{StandsAlone}
use Rattle.queue_core.proofs.PushLemmas.{or_false, mapped_some, begun_at, fresh}
use Rattle.queue_core.proofs.records.ToldLemmas.{Told, IsTold, told-with, told_after, there_unless, gone_if, told-next, told-gone, expired-next, untold}

-- ---- what is there behind a step

pub then_some : {A B : Type 0} (f : A → Option B) (o : Option A) (y : B) → option_and_then f o ≡ Some y → (x : A) × (o ≡ Some x) × (f x ≡ Some y)
then_some f None y h = absurd (none-some y h)
then_some f (Some x) y h = (x, refl, h)

then_none : {A B : Type 0} (f : A → Option B) (o : Option A) → option_and_then f o ≡ None → (o ≡ None) ⊎ ((x : A) × (o ≡ Some x) × (f x ≡ None))
then_none f None h = inl refl
then_none f (Some x) h = inr (x, refl, h)

module _ (lines : List Line) (clock : ℕ) (records : Records) (is : AreRecorded lines clock records) where
  -- the record of a number is that of the message of the number
  record_numbered : (n : ℕ) (m : Message) (r : Record) → message_numbered lines n ≡ Some m → records n ≡ Some r → IsRecordOf lines m r
  record_numbered n m r numbered at =
      let x = is.some n r at in
      subst (λ (y : Message). IsRecordOf lines y r) (same_Some x.0 m (sym x.1 ∙ numbered)) x.2

  pub tells_numbered : (n : ℕ) (m : Message) (r : Record) → message_numbered lines n ≡ Some m → records n ≡ Some r → TellsExpiry lines clock m r
  tells_numbered n m r numbered at =
      let x = is.some n r at in
      subst (λ (y : Message). TellsExpiry lines clock y r) (same_Some x.0 m (sym x.1 ∙ numbered)) x.3

-- ---- a clock that rises

dead-later : (present expired later : Bool) → (expired ≡ true → later ≡ true) → (present && not expired) ≡ false → (present && not later) ≡ false
dead-later true true later lasts h = ap not (lasts refl)
dead-later true false later lasts h = absurd (false≢true (sym h))
dead-later false expired later lasts h = refl

either-later : (before by later : Bool) → (by ≡ true → later ≡ true) → (before || by) ≡ true → (before || later) ≡ true
either-later true by later lasts h = refl
either-later false by later lasts h = lasts h

runs_out-later : (s : QueueSettings) (clock later : ℕ) (m : Message) → clock ≤ later → runs_out_by s clock m ≡ true → runs_out_by s later m ≡ true
runs_out-later s clock later m h by =
    let end : m.first_send_time + 1000 * s.retention_seconds ≤ clock = leb-true (m.first_send_time + 1000 * s.retention_seconds) clock by in
    le-leb (m.first_send_time + 1000 * s.retention_seconds) later (omega arith)

pub expired-later : (lines : List Line) (clock later : ℕ) (m : Message) → m.place < length lines → clock ≤ later → is_expired lines clock m ≡ true → is_expired lines later m ≡ true
expired-later lines clock later m placed h expired =
    expired-split lines later m placed
    ∙ either-later (ran_out_before lines m) (runs_out_by (settings_of lines) clock m) (runs_out_by (settings_of lines) later m) (runs_out-later (settings_of lines) clock later m h)
    (sym (expired-split lines clock m placed) ∙ expired)

-- what holds of whether it has expired holds later too
tells-by : (before noted by later : Bool) → (by ≡ true → later ≡ true) → (before || by) ≡ (noted || by) → (before || later) ≡ (noted || later)
tells-by before noted true later lasts h = or_right before later (lasts refl) ∙ sym (or_right noted later (lasts refl))
tells-by before noted false later lasts h = ap (λ (b : Bool). b || later) (sym (or_false before) ∙ h ∙ or_false noted)

tells-later : (lines : List Line) (clock later : ℕ) (m : Message) (r : Record) → m.place < length lines → clock ≤ later → TellsExpiry lines clock m r → TellsExpiry lines later m r
tells-later lines clock later m r placed h tells =
    expired-split lines later m placed
    ∙ tells-by (ran_out_before lines m) (notes_end r.slot.stay) (runs_out_by (settings_of lines) clock m) (runs_out_by (settings_of lines) later m) (runs_out-later (settings_of lines) clock later m h)
    (sym (expired-split lines clock m placed) ∙ tells)

pub recorded-later : (lines : List Line) (clock later : ℕ) (records : Records) → clock ≤ later → AreRecorded lines clock records → AreRecorded lines later records
recorded-later lines clock later records h is = record {
  some = λ n r at. let m = is.some n r at in (m.0, m.1, m.2, tells-later lines clock later m.0 r (numbered-place lines n m.0 m.1) h m.3);
  none = λ n m numbered gone.
      let dead = is.none n m numbered gone in
      (dead-later (is_present lines m) (is_expired lines clock m) (is_expired lines later m) (expired-later lines clock later m (numbered-place lines n m numbered) h) dead.0, dead.1);
}

-- ---- what a journal tells

-- what a journal tells of a message
abbrev told_of : List Line → Message → Told
told_of lines m = record {
  content = content_of lines m;
  first_receive = first_receive_time lines m.number;
  last_receive = last_receive_time lines m.number;
  fresh = eqb (receive_count lines m.number) 0 && not (is_returned lines m);
  tries = min (receive_count lines m.number) 3;
  course = course_of lines m;
}

told_from : (lines : List Line) (m : Message) (r : Record) → IsRecordOf lines m r → IsTold m (told_of lines m) r
told_from lines m r is = record {
  content = is.content;
  enqueue_time = is.enqueue_time;
  first_send_time = is.first_send_time;
  origin = is.origin;
  first_receive = is.first_receive;
  last_receive = is.last_receive;
  fresh = is.fresh;
  tries = is.tries;
  returned = is.returned;
  standing = is.standing;
}

record_from : (lines : List Line) (m : Message) (r : Record) → IsTold m (told_of lines m) r → IsRecordOf lines m r
record_from lines m r is = record {
  content = is.content;
  enqueue_time = is.enqueue_time;
  first_send_time = is.first_send_time;
  origin = is.origin;
  first_receive = is.first_receive;
  last_receive = is.last_receive;
  fresh = is.fresh;
  tries = is.tries;
  returned = is.returned;
  standing = is.standing;
}

-- ---- records settled at a time

standing_at : (clock : ℕ) (stay : Stay) (due : ℕ) (c : Course) → IsStanding stay due c → IsStanding (stay_at clock stay due) due c
standing_at clock Hidden due c stands = by_test (nat_le due clock)
  where
    by_test : (b : Bool) → IsStanding (cond b Shown Hidden) due c
    by_test true = stands
    by_test false = stands
standing_at clock Shown due c stands = stands
standing_at clock (Left target ran_out) due c stands = stands

notes_at : (clock : ℕ) (stay : Stay) (due : ℕ) → notes_end (stay_at clock stay due) ≡ notes_end stay
notes_at clock Hidden due = by_test (nat_le due clock)
  where
    by_test : (b : Bool) → notes_end (cond b Shown Hidden) ≡ false
    by_test true = refl
    by_test false = refl
notes_at clock Shown due = refl
notes_at clock (Left target ran_out) due = refl

present-here : (stay : Stay) (due : ℕ) (c : Course) → not (is_left_stay stay) ≡ true → IsStanding stay due c → c.status ≡ Present
present-here Hidden due c h stands = stands.0
present-here Shown due c h stands = stands.0
present-here (Left target ran_out) due c h stands = absurd (false≢true h)

abbrev pub settled_stay : ℕ → Record → Record
settled_stay clock r = with_stay (stay_at clock r.slot.stay r.slot.due) r

module _ (lines : List Line) (clock : ℕ) (m : Message) (r : Record) (is : IsRecordOf lines m r) where
  IsRecordOf-settled : IsRecordOf lines m (settled_stay clock r)
  IsRecordOf-settled =
      record_from lines m (settled_stay clock r)
      (told-with m (told_of lines m) r (told_from lines m r is) (told_of lines m) (settled_stay clock r) refl is.first_receive is.last_receive is.fresh is.tries is.returned
      (standing_at clock r.slot.stay r.slot.due (course_of lines m) is.standing))

  -- a record that is let go is of a message that is there and has expired
  gone-settled : TellsExpiry lines clock m r → settled_record (settings_of lines).retention_seconds clock r ≡ None → (is_live lines clock m ≡ false) × (awaits_transfer lines m ≡ false)
  gone-settled tells h =
      let test = and_parts (not (is_left_record r)) (has_run_out (settings_of lines).retention_seconds clock r) (gone_if _ (settled_stay clock r) h) in
      let present = present-here r.slot.stay r.slot.due (course_of lines m) test.0 is.standing in
      let by : runs_out_by (settings_of lines) clock m ≡ true = ap (λ sent. nat_le (sent + 1000 * (settings_of lines).retention_seconds) clock) (sym is.first_send_time) ∙ test.1 in
      let expired : is_expired lines clock m ≡ true = tells ∙ or_right (notes_end r.slot.stay) (runs_out_by (settings_of lines) clock m) by in
      (rw expired (and-false (is_present lines m)), ap awaits_status present)

pub recorded-settled : (lines : List Line) (clock : ℕ) (records after : Records) → AreRecorded lines clock records
    → ((n : ℕ) → after n ≡ records_settled (settings_of lines).retention_seconds clock records n) → AreRecorded lines clock after
recorded-settled lines clock records after is same = record {
  some = λ n r at.
      let x = then_some (λ r. settled_record (settings_of lines).retention_seconds clock r) (records n) r (sym (same n) ∙ at) in
      let m = is.some n x.0 x.1 in
      let after = (there_unless _ (settled_stay clock x.0) r x.2).1 in
      let tells : TellsExpiry lines clock m.0 (settled_stay clock x.0) =
      m.3 ∙ ap (λ (b : Bool). b || runs_out_by (settings_of lines) clock m.0) (sym (notes_at clock x.0.slot.stay x.0.slot.due)) in
      (m.0, m.1, subst (IsRecordOf lines m.0) after (IsRecordOf-settled lines clock m.0 x.0 m.2), subst (TellsExpiry lines clock m.0) after tells);
  none = λ n m numbered at. by_cases n m numbered (then_none (λ r. settled_record (settings_of lines).retention_seconds clock r) (records n) (sym (same n) ∙ at));
}
  where
    by_cases : (n : ℕ) (m : Message) → message_numbered lines n ≡ Some m
        → (records n ≡ None) ⊎ ((r : Record) × (records n ≡ Some r) × (settled_record (settings_of lines).retention_seconds clock r ≡ None))
        → (is_live lines clock m ≡ false) × (awaits_transfer lines m ≡ false)
    by_cases n m numbered (inl gone) = is.none n m numbered gone
    by_cases n m numbered (inr x) = gone-settled lines clock m x.0 (record_numbered lines clock records is n m x.0 numbered x.1) (tells_numbered lines clock records is n m x.0 numbered x.1) x.2

pub left_at : (clock : ℕ) (stay : Stay) (due : ℕ) → is_left_stay (stay_at clock stay due) ≡ is_left_stay stay
left_at clock Hidden due = by_test (nat_le due clock)
  where
    by_test : (b : Bool) → is_left_stay (cond b Shown Hidden) ≡ false
    by_test true = refl
    by_test false = refl
left_at clock Shown due = refl
left_at clock (Left target ran_out) due = refl

stay_twice : (clock : ℕ) (stay : Stay) (due : ℕ) → stay_at clock (stay_at clock stay due) due ≡ stay_at clock stay due
stay_twice clock Hidden due = by_test (nat_le due clock) refl
  where
    by_test : (b : Bool) → nat_le due clock ≡ b → stay_at clock (cond b Shown Hidden) due ≡ cond b Shown Hidden
    by_test true e = refl
    by_test false e = rw e refl
stay_twice clock Shown due = refl
stay_twice clock (Left target ran_out) due = refl

pub shown_at : (clock : ℕ) (stay : Stay) (due : ℕ) → (stay ≡ Shown → due ≤ clock) → stay_at clock stay due ≡ Shown → due ≤ clock
shown_at clock Hidden due shown h = by_test (nat_le due clock) refl h
  where
    by_test : (b : Bool) → nat_le due clock ≡ b → cond b Shown Hidden ≡ Shown → due ≤ clock
    by_test true e k = leb-true due clock e
    by_test false e k = absurd cc
shown_at clock Shown due shown h = shown refl
shown_at clock (Left target ran_out) due shown h = absurd cc

pub settled_twice : (retention clock : ℕ) (r : Record) → (not (is_left_record r) && has_run_out retention clock r) ≡ false
    → settled_record retention clock (settled_stay clock r) ≡ Some (settled_stay clock r)
settled_twice retention clock r h = rw (left_at clock r.slot.stay r.slot.due, h, stay_twice clock r.slot.stay r.slot.due) refl

pub settled_is : (retention clock : ℕ) (records after : Records) → ((n : ℕ) (r : Record) → records n ≡ Some r → r.slot.stay ≡ Shown → r.slot.due ≤ clock)
    → ((n : ℕ) → after n ≡ records_settled retention clock records n) → IsSettled retention clock after
settled_is retention clock records after shown same = record {
  settled = λ n r at.
      let x = found n r at in
      subst (λ (y : Record). settled_record retention clock y ≡ Some y) x.2.1 (settled_twice retention clock x.0 x.2.0);
  shown = λ n r at.
      let x = found n r at in
      subst (λ (y : Record). y.slot.stay ≡ Shown → y.slot.due ≤ clock) x.2.1 (shown_at clock x.0.slot.stay x.0.slot.due (shown n x.0 x.1));
}
  where
    found : (n : ℕ) (r : Record) → after n ≡ Some r
        → (x : Record) × (records n ≡ Some x) × (((not (is_left_record x) && has_run_out retention clock x) ≡ false) × (settled_stay clock x ≡ r))
    found n r at =
        let x = then_some (λ r. settled_record retention clock r) (records n) r (sym (same n) ∙ at) in
        (x.0, x.1, there_unless _ (settled_stay clock x.0) r x.2)

-- ---- an event

fresh-back : (never returned back : Bool) → (never && not (back || returned)) ≡ (((never && not returned) && true) && not back)
fresh-back false returned back = refl
fresh-back true true true = refl
fresh-back true true false = refl
fresh-back true false true = refl
fresh-back true false false = refl

fresh-more : (count : ℕ) (returned offered back : Bool) → (eqb (count + cond offered 1 0) 0 && not (back || returned)) ≡ (((eqb count 0 && not returned) && not offered) && not back)
fresh-more count returned true back =
    let received : eqb (count + 1) 0 ≡ false = ne_eqb (count + 1) 0 (λ e. omega arith) in
    rw (received, and-false (eqb count 0 && not returned)) refl
fresh-more count returned false back = rw add-zero (fresh-back (eqb count 0) returned back)

-- a sum that stops at a number of at least three
capped-never : (most k : ℕ) → 1 ≤ most → eqb (min k most) 0 ≡ eqb k 0
capped-never most k h = grind (arith, nat_tests)

capped-tries : (most k : ℕ) → 3 ≤ most → min (min k most) 3 ≡ min k 3
capped-tries most k h = omega arith

tried-more : (count : ℕ) (offered : Bool) → min (count + cond offered 1 0) 3 ≡ cond offered (tried (min count 3)) (min count 3)
tried-more count true = elim (cases_lt (min count 3) 3) [
  | inl few ↦ let test : nat_lt (min count 3) 3 ≡ true = lt-ltb (min count 3) 3 few in rw test (omega (arith, few))
  | inr most ↦ let test : nat_lt (min count 3) 3 ≡ false = le-ltb (min count 3) 3 most in rw test (omega (arith, most))
]
tried-more count false = ap (λ n. min n 3) (add-zero count)

retention-kept : (s : QueueSettings) (event : Event ContentText) → StandsAlone event → opens event ≡ false → closes_period event ≡ false → (settings_after s event).retention_seconds ≡ s.retention_seconds
retention-kept s (Opened uid settings) alone h k = absurd cc
retention-kept s (Set settings) alone h k = absurd cc
retention-kept s (Base base) alone h k = absurd cc
retention-kept s event alone h k = refl

module _ (lines : List Line) (at : ℕ) (event : Event ContentText) (m : Message) (placed : m.place < length lines) (alone : StandsAlone event) where
  abbrev line : Line
  line = record { at = at; event = event }

  told-push : (content : ContentText) → content_of lines m ≡ Some content → told_of (lines ++ line ∷ []) m ≡ told_after at event m (told_of lines m)
  told-push content h =
      let text : content_of (lines ++ line ∷ []) m ≡ content_of lines m = content-push lines line m content h ∙ sym h in
      let more : ℕ = receive_count lines m.number + cond (offers_number m.number event) 1 0 in
      let first = first-push lines line m.number alone in
      let last = last-push lines line m.number alone in
      let course = course-push lines line m placed in
      let fresh : (told_of (lines ++ line ∷ []) m).fresh ≡ (told_after at event m (told_of lines m)).fresh =
      ap (λ (c : Course). eqb (receive_count (lines ++ line ∷ []) m.number) 0 && not c.returned) course
      ∙ (ap (λ n. eqb n 0 && not (returns (course_of lines m).status event || is_returned lines m)) (receives-push lines line m.number alone)
      ∙ ap (λ (b : Bool). b && not (returns (course_of lines m).status event || is_returned lines m)) (capped-never greatest more (omega arith))
      ∙ fresh-more (receive_count lines m.number) (is_returned lines m) (offers_number m.number event) (returns (course_of lines m).status event)) in
      let tries : (told_of (lines ++ line ∷ []) m).tries ≡ (told_after at event m (told_of lines m)).tries =
      ap (λ n. min n 3) (receives-push lines line m.number alone) ∙ capped-tries greatest more (omega arith) ∙ tried-more (receive_count lines m.number) (offers_number m.number event) in
      λ i. record { content = text i; first_receive = first i; last_receive = last i; fresh = fresh i; tries = tries i; course = course i }

  placed_more : m.place < length (lines ++ line ∷ [])
  placed_more = omega (arith, length-append lines (line ∷ []))

  -- by the retention in force, unless the event ends the period
  runs_out-kept : opens event ≡ false → closes_period event ≡ false → runs_out_by (settings_of (lines ++ line ∷ [])) at m ≡ runs_out_by (settings_of lines) at m
  runs_out-kept unopened unclosed =
      ap (λ (seconds : ℕ). nat_le (m.first_send_time + 1000 * seconds) at)
      (ap (λ (s : QueueSettings). s.retention_seconds) (settings_from-push default_settings lines line) ∙ retention-kept (settings_of lines) event alone unopened unclosed)

  ends-push : (before closed by behind : Bool) → (closed ≡ false → behind ≡ by) → ((before || (closed && by)) || behind) ≡ ((before || by) || (closed && behind))
  ends-push before true by behind k = refl
  ends-push true false by behind k = refl
  ends-push false false by behind k = k refl ∙ sym (or_false by)

  -- whether it has expired behind an event
  expired-behind : opens event ≡ false → is_expired (lines ++ line ∷ []) at m ≡ (is_expired lines at m || (closes_period event && runs_out_by (settings_of (lines ++ line ∷ [])) at m))
  expired-behind unopened =
      expired-split (lines ++ line ∷ []) at m placed_more
      ∙ (ap (λ b. b || runs_out_by (settings_of (lines ++ line ∷ [])) at m) (ran_out-push lines line m placed)
      ∙ (ends-push (ran_out_before lines m) (closes_period event) (runs_out_by (settings_of lines) at m) (runs_out_by (settings_of (lines ++ line ∷ [])) at m) (runs_out-kept unopened)
      ∙ ap (λ b. b || (closes_period event && runs_out_by (settings_of (lines ++ line ∷ [])) at m)) (sym (expired-split lines at m placed))))

  -- what has expired stays so behind an event
  pub expired-push : opens event ≡ false → is_expired lines at m ≡ true → is_expired (lines ++ line ∷ []) at m ≡ true
  expired-push unopened h = expired-behind unopened ∙ ap (λ b. b || (closes_period event && runs_out_by (settings_of (lines ++ line ∷ [])) at m)) h

live_in_state : (live : Bool) (state : MessageState) → option_map_or (λ s. same_state Visible s) (cond live (Some state) None) false ≡ true → live ≡ true
live_in_state true state h = refl
live_in_state false state h = absurd (false≢true h)

-- what an event offers, or what leaves by it, is live
module _ (lines : List Line) (clock n : ℕ) (seen : is_numbered (λ m. is_in_state Visible lines clock m) lines n ≡ true) where
  live_numbered : (m : Message) → message_numbered lines n ≡ Some m → is_live lines clock m ≡ true
  live_numbered m numbered =
      live_in_state (is_live lines clock m) (waiting_state lines clock m)
      (sym (ap (λ (o : Option Message). option_map_or (λ m. is_in_state Visible lines clock m) o false) numbered) ∙ seen)

  none_numbered : message_numbered lines n ≡ None → ⊥
  none_numbered none = false≢true (sym (ap (λ (o : Option Message). option_map_or (λ m. is_in_state Visible lines clock m) o false) none) ∙ seen)

module _ (q : QueueHistory) (event : Event ContentText) (of : IsAbout q event) where
  abbrev entry : Line
  entry = record { at = q.clock; event = event }

  abbrev more : List Line
  more = q.lines ++ entry ∷ []

  -- ---- a message that was there before

  module _ (n : ℕ) (m : Message) (numbered : message_numbered q.lines n ≡ Some m) where
    placed : m.place < length q.lines
    placed = numbered-place q.lines n m numbered

    own_number : message_numbered q.lines m.number ≡ Some m
    own_number = subst (λ k. message_numbered q.lines k ≡ Some m) (sym (numbered-number q.lines n m numbered)) numbered

    unoffered : (target : ℕ) → (course_of q.lines m).status ≡ Waiting target → offers_number m.number event ≡ false
    unoffered target waiting =
        let dead : is_live q.lines q.clock m ≡ false = ap (λ (s : Status). is_present_status s && not (is_expired q.lines q.clock m)) waiting in
        false_from_ne_true (offers_number m.number event)
        (λ offered. false≢true (sym dead ∙ live_numbered q.lines q.clock m.number (of.offered m.number offered) m own_number))

    unmoved : (target : ℕ) → (course_of q.lines m).status ≡ Waiting target → contains_number m.number (effect_of event).rescheduled ≡ false
    unmoved target waiting =
        let dead : is_live q.lines q.clock m ≡ false = ap (λ (s : Status). is_present_status s && not (is_expired q.lines q.clock m)) waiting in
        false_from_ne_true (contains_number m.number (effect_of event).rescheduled)
        (λ moved.
        false≢true
        (sym dead ∙ sym (ap (λ (o : Option Message). option_map_or (λ m. is_live q.lines q.clock m) o false) own_number) ∙ of.rescheduled m.number moved))

    undeparting : is_live q.lines q.clock m ≡ false → contains_number m.number (effect_of event).departures ≡ false
    undeparting dead =
        false_from_ne_true (contains_number m.number (effect_of event).departures)
        (λ departing. false≢true (sym dead ∙ live_numbered q.lines q.clock m.number (of.departing m.number departing) m own_number))

    record-next : (r after : Record) → IsRecordOf q.lines m r → TellsExpiry q.lines q.clock m r → settled_record (settings_of q.lines).retention_seconds q.clock r ≡ Some r
        → record_after (settings_of q.lines) q.clock event n r ≡ Some after → IsRecordOf more m after × TellsExpiry more q.clock m after
    record-next r after is tells settled h =
        let by_number = subst (λ k. record_after (settings_of q.lines) q.clock event k r ≡ Some after) (sym (numbered-number q.lines n m numbered)) h in
        let test = there_unless (not (is_left_record r) && has_run_out (settings_of q.lines).retention_seconds q.clock r) (settled_stay q.clock r) r settled in
        let told = told_from q.lines m r is in
        let next = told-next (settings_of q.lines) q.clock event m (told_of q.lines m) r told after unoffered unmoved by_number in
        let unopened = of.unopened in
        let alone = of.alone in (
          record_from more m after (subst (λ (t : Told). IsTold m t after) (sym (told-push q.lines q.clock event m placed alone r.content is.content)) next),
          expired-behind q.lines q.clock event m placed alone unopened
              ∙ expired-next (settings_of q.lines) q.clock event m (told_of q.lines m) r told (is_expired q.lines q.clock m) (runs_out_by (settings_of more) q.clock m) tells test.0
              (runs_out-kept q.lines q.clock event m placed alone unopened) after by_number,
        )

    record-gone : (r : Record) → IsRecordOf q.lines m r → TellsExpiry q.lines q.clock m r → record_after (settings_of q.lines) q.clock event n r ≡ None
        → (is_live more q.clock m ≡ false) × (awaits_transfer more m ≡ false)
    record-gone r is tells h =
        let by_number = subst (λ k. record_after (settings_of q.lines) q.clock event k r ≡ None) (sym (numbered-number q.lines n m numbered)) h in
        let ended : notes_end r.slot.stay ≡ true → is_expired more q.clock m ≡ true =
        λ noted. expired-push q.lines q.clock event m placed of.alone of.unopened (tells ∙ ap (λ b. b || runs_out_by (settings_of q.lines) q.clock m) noted) in
        let gone = told-gone (settings_of q.lines) q.clock event m (told_of q.lines m) r (told_from q.lines m r is) (is_expired more q.clock m) ended by_number in
        let push = told-push q.lines q.clock event m placed of.alone r.content is.content in
        (ap (λ (t : Told). is_present_status t.course.status && not (is_expired more q.clock m)) push ∙ gone.0, ap (λ (t : Told). awaits_status t.course.status) push ∙ gone.1)

    none-next : (is_live q.lines q.clock m ≡ false) × (awaits_transfer q.lines m ≡ false) → (is_live more q.clock m ≡ false) × (awaits_transfer more m ≡ false)
    none-next dead =
        let push = course-push q.lines entry m placed in
        let next = untold m.number event (course_of q.lines m).status (is_expired q.lines q.clock m) (is_expired more q.clock m) dead
        (expired-push q.lines q.clock event m placed of.alone of.unopened) (undeparting dead.0) in
        (ap (λ (c : Course). is_present_status c.status && not (is_expired more q.clock m)) push ∙ next.0, ap (λ (c : Course). awaits_status c.status) push ∙ next.1)

  -- ---- a message that the event begins

  module _ (sound : IsSound q.lines q.clock) (n : ℕ) (past : message_count q.lines ≤ n) (birth : Birth ContentText) (begins : slice_get (effect_of event).births (n - message_count q.lines) ≡ Some birth) where
    -- it was not there before
    first : birth.past ≡ None
    first = (fresh event of.alone (n - message_count q.lines) birth begins).past

    abbrev new_message : Message
    new_message = message_since (length q.lines) n birth (no_past q.clock birth)

    born_message : message_in (length q.lines) n q.clock birth ≡ new_message
    born_message = ap (λ (o : Option Past). message_since (length q.lines) n birth (unwrap_or o (no_past q.clock birth))) first

    new : IsNewborn q.lines entry birth.content new_message
    new = subst (IsNewborn q.lines entry birth.content) born_message (newborn q.lines entry n birth past begins)

    born_tells : (content : ContentText) → TellsExpiry more q.clock new_message (born_record q.clock birth content)
    born_tells content =
        expired-split more q.clock new_message (omega (arith, length-append q.lines (entry ∷ [])))
        ∙ ap (λ (b : Bool). b || runs_out_by (settings_of more) q.clock new_message) new.ran_out

    born_is : (content : ContentText) → birth.content ≡ Some content → IsRecordOf more new_message (born_record q.clock birth content)
    born_is content has =
        let alone = of.alone in
        let un = sound.unborn n past in
        let none = numbered-past q.lines n past in
        let unoffered_yet : offers_number n event ≡ false =
        false_from_ne_true (offers_number n event) (λ offered. none_numbered q.lines q.clock n (of.offered n offered) none) in
        let receives : receive_count more n ≡ 0 = receives-push q.lines entry n alone ∙ rw (un.receives, unoffered_yet) refl in
        record {
          content = new.content ∙ has;
          enqueue_time = refl;
          first_send_time = refl;
          origin = refl;
          first_receive = sym (first-push q.lines entry n alone ∙ rw (un.first, unoffered_yet) refl);
          last_receive = sym (last-push q.lines entry n alone ∙ rw (unoffered_yet, un.last) refl);
          fresh = sym (ap (λ k. eqb k 0 && not (is_returned more new_message)) receives ∙ ap (λ (c : Course). not c.returned) new.course);
          tries = sym (ap (λ k. min k 3) receives);
          returned = sym (ap (λ (c : Course). c.returned) new.course);
          standing = (ap (λ (c : Course). c.status) new.course, ap (λ (c : Course). c.due) new.course);
        }

  record-born : IsSound q.lines q.clock → (n : ℕ) → message_count q.lines ≤ n → (after : Record) → record_begun q.clock event (message_count q.lines) n ≡ Some after
      → (m : Message) × (begun_at q.lines entry n ≡ Some m) × IsRecordOf more m after × TellsExpiry more q.clock m after
  record-born sound n past after h =
      let b = then_some (record_of_birth q.clock) (slice_get (effect_of event).births (n - message_count q.lines)) after h in
      let content = mapped_some (born_record q.clock b.0) b.0.content after b.2 in
      let m = new_message sound n past b.0 b.1 in (
        m,
        ap (option_map (message_in (length q.lines) n q.clock)) b.1 ∙ ap (λ (x : Message). Some x) (born_message sound n past b.0 b.1),
        subst (IsRecordOf more m) content.2 (born_is sound n past b.0 b.1 content.0 content.1),
        subst (TellsExpiry more q.clock m) content.2 (born_tells sound n past b.0 b.1 content.0),
      )

  -- a message that begins has a record
  born-none : (n : ℕ) (m : Message) → begun_at q.lines entry n ≡ Some m → record_begun q.clock event (message_count q.lines) n ≡ None → ⊥
  born-none n m h none =
      let b = mapped_some (message_in (length q.lines) n q.clock) (slice_get (effect_of event).births (n - message_count q.lines)) m h in
      let text = fresh event of.alone (n - message_count q.lines) b.0 b.1 in
      none-some (born_record q.clock b.0 text.text) (sym none ∙ ap (option_and_then (record_of_birth q.clock)) b.1 ∙ ap (option_map (born_record q.clock b.0)) text.contained)

pub recorded-event : (q : QueueHistory) (event : Event ContentText) (records after : Records) → IsSound q.lines q.clock → IsAbout q event → AreRecorded q.lines q.clock records
    → IsSettled (settings_of q.lines).retention_seconds q.clock records → ((n : ℕ) → after n ≡ records_after (settings_of q.lines) q.clock event (message_count q.lines) records n)
    → AreRecorded (with_event q event).lines q.clock after
recorded-event q event records after sound of is settled same = record {
  some = λ n r at. some_by n r (nat_lt n (message_count q.lines)) refl (sym (same n) ∙ at) (numbered-push q.lines (entry q event of) n);
  none = λ n m numbered at. none_by n m (nat_lt n (message_count q.lines)) refl (sym (same n) ∙ at) (sym (numbered-push q.lines (entry q event of) n) ∙ numbered);
}
  where
    some_by : (n : ℕ) (r : Record) (b : Bool) → nat_lt n (message_count q.lines) ≡ b
        → cond b (option_and_then (λ r. record_after (settings_of q.lines) q.clock event n r) (records n)) (record_begun q.clock event (message_count q.lines) n) ≡ Some r
        → message_numbered (with_event q event).lines n ≡ cond b (message_numbered q.lines n) (begun_at q.lines (entry q event of) n)
        → (m : Message) × (message_numbered (with_event q event).lines n ≡ Some m) × IsRecordOf (with_event q event).lines m r × TellsExpiry (with_event q event).lines q.clock m r
    some_by n r true e at numbered =
        let x = then_some (λ r. record_after (settings_of q.lines) q.clock event n r) (records n) r at in
        let m = is.some n x.0 x.1 in
        let next = record-next q event of n m.0 m.1 x.0 r m.2 m.3 (settled.settled n x.0 x.1) x.2 in
        (m.0, numbered ∙ m.1, next.0, next.1)
    some_by n r false e at numbered =
        let x = record-born q event of sound n (ltb-false n (message_count q.lines) e) r at in
        (x.0, numbered ∙ x.1, x.2, x.3)

    gone_by : (n : ℕ) (m : Message) → message_numbered q.lines n ≡ Some m → (records n ≡ None) ⊎ ((r : Record) × (records n ≡ Some r) × (record_after (settings_of q.lines) q.clock event n r ≡ None))
        → (is_live (with_event q event).lines q.clock m ≡ false) × (awaits_transfer (with_event q event).lines m ≡ false)
    gone_by n m numbered (inl gone) = none-next q event of n m numbered (is.none n m numbered gone)
    gone_by n m numbered (inr x) = record-gone q event of n m numbered x.0 (record_numbered q.lines q.clock records is n m x.0 numbered x.1) (tells_numbered q.lines q.clock records is n m x.0 numbered x.1) x.2

    none_by : (n : ℕ) (m : Message) (b : Bool) → nat_lt n (message_count q.lines) ≡ b
        → cond b (option_and_then (λ r. record_after (settings_of q.lines) q.clock event n r) (records n)) (record_begun q.clock event (message_count q.lines) n) ≡ None
        → cond b (message_numbered q.lines n) (begun_at q.lines (entry q event of) n) ≡ Some m
        → (is_live (with_event q event).lines q.clock m ≡ false) × (awaits_transfer (with_event q event).lines m ≡ false)
    none_by n m true e at numbered = gone_by n m numbered (then_none (λ r. record_after (settings_of q.lines) q.clock event n r) (records n) at)
    none_by n m false e at numbered = absurd (born-none q event of n m numbered at)
