-- What a summary tells of messages is what records of them tell, and the other way round.
use Rattle.std.proofs.Common.{◌≡◌, ℕ, ◌+◌, ◌*◌, ◌<◌, Bool, true, false, not, cond, ◌&&◌, ◌||◌, List, Option, Some, None, inl, inr, refl, sym, ap, subst, ◌∙◌, arith}
use Rattle.std.specs.Prelude.{◌==◌, nat_le, min, slice_index, option_map, option_and_then}
use Rattle.std.proofs.lemmas.Bool.{false≢true, cases_lt}
use Rattle.std.proofs.lemmas.List.FromFn.{get_or-map-range_with_len}
use Rattle.std.proofs.lemmas.Option.{none-some, same_Some}
use Rattle.queue_core.specs.declared.facts.Message.{Message}
use Rattle.queue_core.specs.declared.facts.Course.{Course}
use Rattle.queue_core.specs.declared.facts.Status.{Status}
use Rattle.queue_core.specs.declared.facts.Status.TheVariants.{Present, Removed, Waiting, Transferred}
use Rattle.queue_core.specs.Messages.{message_count, settings_of, is_expired, receive_count, course_of, is_present_status, is_returned, due_time, awaits_status, awaits_transfer}
use Rattle.queue_core.specs.States.{is_live, failing_receives, message_numbered}
use Rattle.queue_core.specs.declared.slot.Stay.{Stay}
use Rattle.queue_core.specs.declared.slot.Stay.TheVariants.{Hidden, Shown, Left}
use Rattle.queue_core.specs.declared.record.Record.{Record}
use Rattle.queue_core.specs.declared.index.MessageIndex.{MessageIndex}
use Rattle.queue_core.specs.private.Slots.{is_left_stay}
use Rattle.queue_core.specs.private.Records.{Records, records_in, with_stay, stay_at, has_run_out, is_left_record, settled_record, IsIndexed, IsSettled}
use Rattle.queue_core.specs.private.Recorded.{runs_out_by, IsStanding, IsRecordOf, notes_end, TellsExpiry, AreRecorded}
use Rattle.queue_core.specs.Summary.{KnownMessage, known_message, known_where, known_at, summary_of}
use Rattle.queue_core.specs.private.Indexed.{waits_in, has_ended, known_record, IsCounted, Keeps}
use Rattle.queue_core.proofs.records.FactLemmas.{Line, numbered-number, numbered-past}
use Rattle.queue_core.proofs.records.RecordLemmas.{then_some}
use Rattle.queue_core.proofs.records.ToldLemmas.{there_unless}

-- ---- whether it has expired

module _ (lines : List Line) (clock : ℕ) where
  abbrev retention : ℕ
  retention = (settings_of lines).retention_seconds

  -- what is there by a settled record has not run out
  unended : (r : Record) → settled_record retention clock r ≡ Some r → is_left_stay r.slot.stay ≡ false → has_run_out retention clock r ≡ false
  unended r settled here =
      ap (λ (left : Bool). not left && has_run_out retention clock r) (sym here)
      ∙ (there_unless (not (is_left_record r) && has_run_out retention clock r) (with_stay (stay_at clock r.slot.stay r.slot.due) r) r settled).0

  noted_by : (m : Message) (r : Record) → r.first_send_time ≡ m.first_send_time → (stay : Stay) → r.slot.stay ≡ stay → settled_record retention clock r ≡ Some r
      → (notes_end stay || runs_out_by (settings_of lines) clock m) ≡ has_ended retention clock stay r
  noted_by m r sent Hidden e settled = ap (λ (at : ℕ). nat_le (at + 1000 * retention) clock) (sym sent) ∙ unended r settled (ap is_left_stay e)
  noted_by m r sent Shown e settled = ap (λ (at : ℕ). nat_le (at + 1000 * retention) clock) (sym sent) ∙ unended r settled (ap is_left_stay e)
  noted_by m r sent (Left target ran_out) e settled = ap (λ (at : ℕ). ran_out || nat_le (at + 1000 * retention) clock) (sym sent)

  -- ---- from a record

  module _ (m : Message) (r : Record) (is : IsRecordOf lines m r) (tells : TellsExpiry lines clock m r) (settled : settled_record retention clock r ≡ Some r) where
    ended : is_expired lines clock m ≡ has_ended retention clock r.slot.stay r
    ended = tells ∙ noted_by m r is.first_send_time r.slot.stay refl settled

    same_message : (target : Option ℕ) → target ≡ waits_in r.slot.stay → due_time lines m ≡ r.slot.due → known_message lines clock target m ≡ known_record retention clock m.number r
    same_message target waits due =
        λ i.
        record {
          number = m.number;
          came = sym is.enqueue_time i;
          sent = sym is.first_send_time i;
          due = due i;
          is_expired = ended i;
          is_returned = sym is.returned i;
          first_receive = sym is.first_receive i;
          last_receive = sym is.last_receive i;
          origin = sym is.origin i;
          content = is.content i;
          target = waits i;
        }

    known_here : (stay : Stay) → r.slot.stay ≡ stay → is_left_stay stay ≡ false → None ≡ waits_in stay → has_ended retention clock stay r ≡ false → (course_of lines m).status ≡ Present → (course_of lines m).due ≡ r.slot.due
        → known_where lines clock (course_of lines m).status m ≡ Some (known_record retention clock m.number r)
    known_here stay e here waits unended present due =
        let lasts : is_expired lines clock m ≡ false = ended ∙ ap (λ (s : Stay). has_ended retention clock s r) e ∙ unended in
        let live : is_live lines clock m ≡ true = ap (λ (s : Status). is_present_status s && not (is_expired lines clock m)) present ∙ ap not lasts in
        ap (λ (s : Status). known_where lines clock s m) present
        ∙ ap (λ (b : Bool). cond b (Some (known_message lines clock None m)) None) live
        ∙ ap (λ (k : KnownMessage). Some k) (same_message None (waits ∙ sym (ap waits_in e)) due)

    known_by : (stay : Stay) → r.slot.stay ≡ stay → IsStanding stay r.slot.due (course_of lines m) → known_where lines clock (course_of lines m).status m ≡ Some (known_record retention clock m.number r)
    known_by Hidden e stands = known_here Hidden e refl refl refl stands.0 stands.1
    known_by Shown e stands = known_here Shown e refl refl refl stands.0 stands.1
    known_by (Left target ran_out) e stands = ap (λ (s : Status). known_where lines clock s m) stands.0 ∙ ap (λ (k : KnownMessage). Some k) (same_message (Some target) (sym (ap waits_in e)) stands.1)

    pub known_by_record : known_where lines clock (course_of lines m).status m ≡ Some (known_record retention clock m.number r)
    known_by_record = known_by r.slot.stay refl is.standing

  -- ---- what has none

  unknown_by : (status : Status) (m : Message) → (course_of lines m).status ≡ status → is_live lines clock m ≡ false → awaits_status status ≡ false → known_where lines clock status m ≡ None
  unknown_by Present m e dead none = ap (λ (b : Bool). cond b (Some (known_message lines clock None m)) None) dead
  unknown_by Removed m e dead none = refl
  unknown_by (Waiting target) m e dead none = absurd (false≢true (sym none))
  unknown_by Transferred m e dead none = refl

  module _ (records : Records) (are : AreRecorded lines clock records) (settled : IsSettled retention clock records) where
    known_numbered : (n : ℕ) (m : Option Message) (o : Option Record) → message_numbered lines n ≡ m → records n ≡ o
        → option_and_then (λ m. known_where lines clock (course_of lines m).status m) m ≡ option_map (known_record retention clock n) o
    known_numbered n m (Some r) numbered at =
        let there = are.some n r at in
        let number : there.0.number ≡ n = numbered-number lines n there.0 there.1 in
        ap (option_and_then (λ m. known_where lines clock (course_of lines m).status m)) (sym numbered ∙ there.1)
        ∙ known_by_record there.0 r there.2 there.3 (settled.settled n r at)
        ∙ ap (λ (k : ℕ). Some (known_record retention clock k r)) number
    known_numbered n None None numbered at = refl
    known_numbered n (Some m) None numbered at =
        let dead = are.none n m numbered at in
        unknown_by (course_of lines m).status m refl dead.0 dead.1

    pub known_by_records : (n : ℕ) → known_at lines clock n ≡ option_map (known_record retention clock n) (records n)
    known_by_records n = known_numbered n (message_numbered lines n) (records n) refl refl

    pub counted_by_records : (n : ℕ) (r : Record) → records n ≡ Some r → IsCounted (receive_count lines n) r
    counted_by_records n r at =
        let there = are.some n r at in
        let number : there.0.number ≡ n = numbered-number lines n there.0 there.1 in
        record {
          fresh = there.2.fresh ∙ ap (λ (k : ℕ). (receive_count lines k == 0) && not (is_returned lines there.0)) number ∙ ap (λ (b : Bool). (receive_count lines n == 0) && not b) (sym there.2.returned);
          tries = there.2.tries ∙ ap (λ (k : ℕ). min (receive_count lines k) failing_receives) number;
        }

  -- ---- from a summary

  stands_here : (stay : Stay) (due : ℕ) (c : Course) → c.status ≡ Present → c.due ≡ due → None ≡ waits_in stay → IsStanding stay due c
  stands_here Hidden due c present same waits = (present, same)
  stands_here Shown due c present same waits = (present, same)
  stands_here (Left target ran_out) due c present same waits = absurd (none-some target waits)

  stands_left : (target : ℕ) (stay : Stay) (due : ℕ) (c : Course) → c.status ≡ Waiting target → c.due ≡ due → Some target ≡ waits_in stay → IsStanding stay due c
  stands_left target Hidden due c waiting same waits = absurd (none-some target (sym waits))
  stands_left target Shown due c waiting same waits = absurd (none-some target (sym waits))
  stands_left target (Left own ran_out) due c waiting same waits = (waiting ∙ ap (λ (t : ℕ). Waiting t) (same_Some target own waits), same)

  module _ (n : ℕ) (m : Message) (r : Record) (numbered : message_numbered lines n ≡ Some m) (counted : IsCounted (receive_count lines n) r) (settled : settled_record retention clock r ≡ Some r) where
    module _ (target : Option ℕ) (same : known_message lines clock target m ≡ known_record retention clock n r) where
      number : n ≡ m.number
      number = sym (numbered-number lines n m numbered)

      returned : r.slot.is_returned ≡ is_returned lines m
      returned = sym (ap (λ (k : KnownMessage). k.is_returned) same)

      record_from : IsStanding r.slot.stay r.slot.due (course_of lines m) → IsRecordOf lines m r
      record_from standing = record {
        content = ap (λ (k : KnownMessage). k.content) same;
        enqueue_time = sym (ap (λ (k : KnownMessage). k.came) same);
        first_send_time = sym (ap (λ (k : KnownMessage). k.sent) same);
        origin = sym (ap (λ (k : KnownMessage). k.origin) same);
        first_receive = sym (ap (λ (k : KnownMessage). k.first_receive) same);
        last_receive = sym (ap (λ (k : KnownMessage). k.last_receive) same);
        fresh = counted.fresh ∙ ap (λ (b : Bool). (receive_count lines n == 0) && not b) returned ∙ ap (λ (k : ℕ). (receive_count lines k == 0) && not (is_returned lines m)) number;
        returned = returned;
        tries = counted.tries ∙ ap (λ (k : ℕ). min (receive_count lines k) failing_receives) number;
        standing = standing;
      }

      tells_from : TellsExpiry lines clock m r
      tells_from = ap (λ (k : KnownMessage). k.is_expired) same ∙ sym (noted_by m r (sym (ap (λ (k : KnownMessage). k.sent) same)) r.slot.stay refl settled)

    there_from : (target : Option ℕ) → Some (known_message lines clock target m) ≡ Some (known_record retention clock n r)
        → ((target ≡ waits_in r.slot.stay) → (course_of lines m).due ≡ r.slot.due → IsStanding r.slot.stay r.slot.due (course_of lines m)) → IsRecordOf lines m r × TellsExpiry lines clock m r
    there_from target h stands =
        let same = same_Some (known_message lines clock target m) (known_record retention clock n r) h in (
          record_from target same (stands (ap (λ (k : KnownMessage). k.target) same) (ap (λ (k : KnownMessage). k.due) same)),
          tells_from target same,
        )

    where_from : (status : Status) → (course_of lines m).status ≡ status → known_where lines clock status m ≡ Some (known_record retention clock n r) → IsRecordOf lines m r × TellsExpiry lines clock m r
    where_from Present e h = by_live (is_live lines clock m) h
      where
        by_live : (live : Bool) → cond live (Some (known_message lines clock None m)) None ≡ Some (known_record retention clock n r) → IsRecordOf lines m r × TellsExpiry lines clock m r
        by_live true h = there_from None h (λ waits due. stands_here r.slot.stay r.slot.due (course_of lines m) e due waits)
        by_live false h = absurd (none-some (known_record retention clock n r) h)
    where_from Removed e h = absurd (none-some (known_record retention clock n r) h)
    where_from (Waiting target) e h = there_from (Some target) h (λ waits due. stands_left target r.slot.stay r.slot.due (course_of lines m) e due waits)
    where_from Transferred e h = absurd (none-some (known_record retention clock n r) h)

  -- a message of which a summary has nothing is not live and does not wait
  dead_from : (status : Status) (m : Message) → (course_of lines m).status ≡ status → known_where lines clock status m ≡ None → (is_live lines clock m ≡ false) × (awaits_transfer lines m ≡ false)
  dead_from Present m e none = (by_live (is_live lines clock m) none, ap awaits_status e)
    where
      by_live : (live : Bool) → cond live (Some (known_message lines clock None m)) None ≡ None → live ≡ false
      by_live true none = absurd (none-some (known_message lines clock None m) (sym none))
      by_live false none = refl
  dead_from Removed m e none = (ap (λ (s : Status). is_present_status s && not (is_expired lines clock m)) e, ap awaits_status e)
  dead_from (Waiting target) m e none = absurd (none-some (known_message lines clock (Some target) m) (sym none))
  dead_from Transferred m e none = (ap (λ (s : Status). is_present_status s && not (is_expired lines clock m)) e, ap awaits_status e)

  module _ (records : Records) (known : (n : ℕ) → known_at lines clock n ≡ option_map (known_record retention clock n) (records n))
      (counted : (n : ℕ) (r : Record) → records n ≡ Some r → IsCounted (receive_count lines n) r) (settled : IsSettled retention clock records) where
    pub records_by_known : AreRecorded lines clock records
    records_by_known = record {
      some = λ n r at.
          let there = then_some (λ m. known_where lines clock (course_of lines m).status m) (message_numbered lines n) (known_record retention clock n r) (known n ∙ ap (option_map (known_record retention clock n)) at) in
          let is = where_from n there.0 r there.1 (counted n r at) (settled.settled n r at) (course_of lines there.0).status refl there.2 in
          (there.0, there.1, is.0, is.1);
      none = λ n m numbered at.
          dead_from (course_of lines m).status m refl
          (sym (ap (option_and_then (λ m. known_where lines clock (course_of lines m).status m)) numbered) ∙ known n ∙ ap (option_map (known_record retention clock n)) at);
    }

  -- ---- an index

  pub receives_within : (n : ℕ) → n < message_count lines → slice_index (summary_of lines clock).receives n ≡ receive_count lines n
  receives_within n below = get_or-map-range_with_len (λ n. receive_count lines n) 0 (message_count lines) n n 0 (omega arith) (omega arith)

  pub receives_numbered : (n : ℕ) (m : Message) → message_numbered lines n ≡ Some m → slice_index (summary_of lines clock).receives n ≡ receive_count lines n
  receives_numbered n m numbered = elim (cases_lt n (message_count lines)) [
    | inl below ↦ receives_within n below
    | inr past ↦ absurd (none-some m (sym (numbered-past lines n (omega arith)) ∙ numbered))
  ]

  module _ (x : MessageIndex) where
    -- it keeps what the journal comes to, where its records are those of the journal
    pub keeps-records : IsIndexed x → AreRecorded lines clock (records_in x) → IsSettled retention clock (records_in x) → x.receives.items ≡ (summary_of lines clock).receives
        → x.leaving.items ≡ (summary_of lines clock).leaving → Keeps x (summary_of lines clock) clock
    keeps-records indexed are settled receives leaving = record {
      indexed = indexed;
      known = known_by_records (records_in x) are settled;
      counted = λ n r at.
          let there = are.some n r at in
          subst (λ (count : ℕ). IsCounted count r) (sym (receives_numbered n there.0 there.1)) (counted_by_records (records_in x) are settled n r at);
      settled = settled;
      receives = receives;
      leaving = leaving;
    }

    -- and only there
    pub records-kept : Keeps x (summary_of lines clock) clock → AreRecorded lines clock (records_in x)
    records-kept is =
        records_by_known (records_in x) is.known
        (λ n r at.
        let there = then_some (λ m. known_where lines clock (course_of lines m).status m) (message_numbered lines n) (known_record retention clock n r) (is.known n ∙ ap (option_map (known_record retention clock n)) at) in
        subst (λ (count : ℕ). IsCounted count r) (receives_numbered n there.0 there.1) (is.counted n r at))
        is.settled
