-- Two queues of which the same is known stay so, however much time passes and whatever event comes to both.
use Rattle.std.proofs.Common.{◌≡◌, ℕ, ◌+◌, ◌-◌, ◌*◌, ◌≤◌, ◌<◌, Bool, true, false, not, cond, ◌&&◌, ◌||◌, List, [], ◌∷◌, ◌++◌, map, Option, Some, None, inl, inr, refl, sym, ap, subst, ◌∙◌, eqb, arith}
use Rattle.std.specs.Prelude.{◌==◌, ◌⊎◌, max, min, nat_le, nat_lt, filter, slice_index, option_map, option_and_then}
use Rattle.std.specs.List.{range_with_len}
use Rattle.std.proofs.lemmas.Bool.{cases_lt}
use Rattle.std.proofs.lemmas.Option.{none-some, same_Some}
use Rattle.std.proofs.lemmas.Bool.Decides.{nat_tests}
use Rattle.message.specs.Content.{ContentText, content_size}
use Rattle.journal.specs.declared.entry.Event.{Event}
use Rattle.queue_config.specs.AlarmRules.{Rule}
use Rattle.alarm.specs.KeptAlarm.{kept_state}
use Rattle.metric_window.specs.Flows.{greatest, minute_of, minute_flows, flows_of, added, capped}
use Rattle.metric_window.specs.KeptRows.{row_in}
use Rattle.metric_window.specs.Window.{longest_window, window_start}
use Rattle.metric_window.proofs.KeptLemmas.{row_in-from}
use Rattle.metric_window.proofs.MinuteLemmas.{minute_flows-push}
use Rattle.queue_core.specs.declared.facts.Message.{Message}
use Rattle.queue_core.specs.declared.facts.Status.{Status}
use Rattle.queue_core.specs.declared.facts.Status.TheVariants.{Present, Removed, Waiting, Transferred}
use Rattle.queue_core.specs.declared.facts.Transfer.{Transfer}
use Rattle.queue_core.specs.declared.slot.Stay.{Stay}
use Rattle.queue_core.specs.declared.slot.Stay.TheVariants.{Hidden, Shown, Left}
use Rattle.queue_core.specs.declared.record.Record.{Record}
use Rattle.queue_core.specs.Messages.{message_count, content_of, settings_of, settings_after, effect_of, gives_settings, created_time, is_expired, offers_number, receive_count, course_of, is_present_status, is_present, is_removed_status, closes, departures, ends_transfer, pending_transfers}
use Rattle.queue_core.specs.States.{is_live, failing_receives, gauges_of, message_numbered}
use Rattle.queue_core.specs.Metrics.{minute_end, minute_gauges, metric_row, current_flows, window_rows, alarm_state_in}
use Rattle.queue_core.specs.private.Watched.{told_alarm}
use Rattle.queue_core.specs.Queue.{QueueHistory, at_moment, with_event}
use Rattle.queue_core.proofs.CauseLemmas.{IsAbout}
use Rattle.queue_core.specs.private.Tally.{births}
use Rattle.queue_core.specs.private.Records.{Records, settled_record, record_after, record_begun, records_after, records_settled, IsSettled}
use Rattle.queue_core.specs.private.Recorded.{runs_out_by, AreRecorded}
use Rattle.queue_core.specs.Summary.{KnownMessage, Summary, known_message, known_at, summary_of}
use Rattle.queue_core.specs.private.Indexed.{waits_in, has_ended, known_record, IsCounted}
use Rattle.queue_core.specs.Standing.{StandsFor}
use Rattle.queue_core.proofs.records.FactLemmas.{Line, settings_from-push, expired-split, receives-push, numbered-number, numbered-place, pending-push}
use Rattle.queue_core.proofs.PushLemmas.{closed-push, count-push, content_numbered}
use Rattle.queue_core.proofs.entries.TallyLemmas.{modified_from-push}
use Rattle.queue_core.proofs.SoundLemmas.{IsSound, row-told_now, created_time-push}
use Rattle.queue_core.proofs.entries.AcceptedLemmas.{accepted_keys-push}
use Rattle.queue_core.proofs.Scans.{StandsAlone}
use Rattle.queue_core.proofs.minutes.RowLemmas.{metric_row-minute}
use Rattle.queue_core.proofs.records.RecordLemmas.{then_some, shown_at, settled_stay, settled_twice, recorded-later, recorded-settled, settled_is, recorded-event}
use Rattle.queue_core.proofs.indexed.IndexLemmas.{IsDueBy, due-all, due-behind}
use Rattle.queue_core.proofs.minutes.WatchLemmas.{range-alike, all-before, flows-none, rows-same, state-told}
use Rattle.queue_core.proofs.records.SummaryLemmas.{known_by_records, records_by_known, receives_numbered}
use Rattle.queue_core.proofs.checkpoints.StandingLemmas.{each_is, known_so, gauges_alike, settings_same, created_same, modified_same, closed_same, count_same, receives_same, known_same, received_same, transfers_same}

-- ---- records that tell what a summary tells

abbrev stay_before : Bool → Option ℕ → Stay
stay_before expired None = Hidden
stay_before expired (Some target) = Left target expired

-- before what is hidden and due is shown
abbrev unsettled : List ℕ → KnownMessage → ContentText → Record
unsettled receives k content = record {
  content = content;
  enqueue_time = k.came;
  first_send_time = k.sent;
  origin = k.origin;
  first_receive = k.first_receive;
  last_receive = k.last_receive;
  slot = record {
    stay = stay_before k.is_expired k.target;
    due = k.due;
    sent = k.sent;
    is_fresh = (slice_index receives k.number == 0) && not k.is_returned;
    is_returned = k.is_returned;
    tries = min (slice_index receives k.number) failing_receives;
  };
}

abbrev records_told : List ℕ → (ℕ → Option KnownMessage) → ℕ → Records
records_told receives known clock n = option_and_then (λ k. option_map (λ content. settled_stay clock (unsettled receives k content)) k.content) (known n)

pub unexpired : (present expired : Bool) → (present && not expired) ≡ true → expired ≡ false
unexpired true false h = refl
unexpired true true h = sym h
unexpired false expired h = absurd (let e : false ≡ true = h in cc)

-- what is live is not removed
pub kept_there : (status : Status) (expired : Bool) → (is_present_status status && not expired) ≡ true → is_removed_status status ≡ false
kept_there Present expired h = refl
kept_there Removed expired h = absurd (let e : false ≡ true = h in cc)
kept_there (Waiting target) expired h = refl
kept_there Transferred expired h = refl

second-part : (before by : Bool) → (before || by) ≡ false → by ≡ false
second-part false by h = h
second-part true by h = absurd (let e : true ≡ false = h in cc)

pub or-twice : (before by : Bool) → ((before || by) || by) ≡ (before || by)
or-twice true by = refl
or-twice false true = refl
or-twice false false = refl

ended_here : (late : Bool) (retention clock : ℕ) (r : Record) → has_ended retention clock (cond late Shown Hidden) r ≡ false
ended_here true retention clock r = refl
ended_here false retention clock r = refl

waits_here : (late : Bool) → waits_in (cond late Shown Hidden) ≡ None
waits_here true = refl
waits_here false = refl

unshown : (expired : Bool) (target : Option ℕ) → stay_before expired target ≡ Shown → ⊥
unshown expired None h = cc
unshown expired (Some target) h = cc

module _ (lines : List Line) (clock : ℕ) where
  abbrev told : Summary
  told = summary_of lines clock

  abbrev retention : ℕ
  retention = (settings_of lines).retention_seconds

  abbrev record_told : KnownMessage → ContentText → Record
  record_told k content = settled_stay clock (unsettled told.receives k content)

  -- such a record is settled, and tells what was told
  record IsTold (n : ℕ) (k : KnownMessage) : Type 0 where
    content : ContentText
    contained : k.content ≡ Some content
    settled : settled_record retention clock (record_told k content) ≡ Some (record_told k content)
    back : known_record retention clock n (record_told k content) ≡ k
    counted : slice_index told.receives k.number ≡ receive_count lines n

  module _ (n : ℕ) (m : Message) (numbered : message_numbered lines n ≡ Some m) where
    number : n ≡ m.number
    number = sym (numbered-number lines n m numbered)

    split : is_expired lines clock m ≡ (is_expired lines clock m || runs_out_by (settings_of lines) clock m)
    split =
        let parts = expired-split lines clock m (numbered-place lines n m numbered) in
        parts ∙ sym (or-twice _ (runs_out_by (settings_of lines) clock m)) ∙ ap (λ (b : Bool). b || runs_out_by (settings_of lines) clock m) (sym parts)

    counted_so : slice_index told.receives m.number ≡ receive_count lines n
    counted_so =
        receives_numbered lines clock m.number m (subst (λ (k : ℕ). message_numbered lines k ≡ Some m) number numbered) ∙ ap (λ (k : ℕ). receive_count lines k) (sym number)

    told_there : (content : ContentText) → content_of lines m ≡ Some content → is_live lines clock m ≡ true → IsTold n (known_message lines clock None m)
    told_there content at live =
        let k : KnownMessage = known_message lines clock None m in
        let lasts : is_expired lines clock m ≡ false = unexpired (is_present lines m) (is_expired lines clock m) live in
        let within : runs_out_by (settings_of lines) clock m ≡ false = second-part (is_expired lines clock m) (runs_out_by (settings_of lines) clock m) (sym split ∙ lasts) in
        record {
          content = content;
          contained = at;
          settled = settled_twice retention clock (unsettled told.receives k content) within;
          back = λ i.
              record {
                number = number i;
                came = k.came;
                sent = k.sent;
                due = k.due;
                is_expired = (ended_here (nat_le k.due clock) retention clock (record_told k content) ∙ sym lasts) i;
                is_returned = k.is_returned;
                first_receive = k.first_receive;
                last_receive = k.last_receive;
                origin = k.origin;
                content = sym at i;
                target = waits_here (nat_le k.due clock) i;
              };
          counted = counted_so;
        }

    told_away : (target : ℕ) (content : ContentText) → content_of lines m ≡ Some content → IsTold n (known_message lines clock (Some target) m)
    told_away target content at =
        let k : KnownMessage = known_message lines clock (Some target) m in
        record {
          content = content;
          contained = at;
          settled = settled_twice retention clock (unsettled told.receives k content) refl;
          back = λ i.
              record {
                number = number i;
                came = k.came;
                sent = k.sent;
                due = k.due;
                is_expired = sym split i;
                is_returned = k.is_returned;
                first_receive = k.first_receive;
                last_receive = k.last_receive;
                origin = k.origin;
                content = sym at i;
                target = Some target;
              };
          counted = counted_so;
        }

  telling : (n : ℕ) (k : KnownMessage) → told.known n ≡ Some k → (m : Message) × (message_numbered lines n ≡ Some m) × IsTold n k
  telling n k h =
      let there = then_some (λ m. known_so lines clock m) (message_numbered lines n) k h in (
        there.0,
        there.1,
        elim (each_is lines clock there.0) [
          | inl x ↦
              let content = content_numbered lines n there.0 there.1 (kept_there (course_of lines there.0).status (is_expired lines clock there.0) x.0) in
              subst (λ (k : KnownMessage). IsTold n k) (same_Some _ k (sym x.1 ∙ there.2)) (told_there n there.0 there.1 content.0 content.1 x.0)
          | inr other ↦ elim other [
            | inl x ↦
                let content = content_numbered lines n there.0 there.1 (ap is_removed_status x.1) in
                subst (λ (k : KnownMessage). IsTold n k) (same_Some _ k (sym x.2 ∙ there.2)) (told_away n there.0 there.1 x.0 content.0 content.1)
            | inr x ↦ absurd (none-some k (sym x.2 ∙ there.2))
          ]
        ],
      )

  abbrev records : Records
  records = records_told told.receives told.known clock

  -- the record of what is known under a number
  record_known : (n : ℕ) (k : KnownMessage) (h : told.known n ≡ Some k) → records n ≡ Some (record_told k (telling n k h).2.content)
  record_known n k h =
      ap (option_and_then (λ k. option_map (λ content. record_told k content) k.content)) h ∙ ap (option_map (λ content. record_told k content)) (telling n k h).2.contained

  known_back : (n : ℕ) → known_at lines clock n ≡ option_map (known_record retention clock n) (records n)
  known_back n = by_known (told.known n) refl
    where
      by_known : (o : Option KnownMessage) → told.known n ≡ o → o ≡ option_map (known_record retention clock n) (records n)
      by_known None e = sym (ap (λ (o : Option KnownMessage). option_map (known_record retention clock n) (option_and_then (λ k. option_map (λ content. record_told k content) k.content) o)) e)
      by_known (Some k) e = ap (λ (x : KnownMessage). Some x) (sym (telling n k e).2.back) ∙ sym (ap (option_map (known_record retention clock n)) (record_known n k e))

  -- and the other way round
  known_of : (n : ℕ) (r : Record) → records n ≡ Some r → (k : KnownMessage) × (h : told.known n ≡ Some k) × (record_told k (telling n k h).2.content ≡ r)
  known_of n r at = by_known (told.known n) refl
    where
      by_known : (o : Option KnownMessage) → told.known n ≡ o → (k : KnownMessage) × (h : told.known n ≡ Some k) × (record_told k (telling n k h).2.content ≡ r)
      by_known None e = absurd (none-some r (sym (ap (option_and_then (λ k. option_map (λ content. record_told k content) k.content)) e) ∙ at))
      by_known (Some k) e = (k, e, same_Some (record_told k (telling n k e).2.content) r (sym (record_known n k e) ∙ at))

  settled_told : IsSettled retention clock records
  settled_told = record {
    settled = λ n r at.
        let x = known_of n r at in
        subst (λ (y : Record). settled_record retention clock y ≡ Some y) x.2 (telling n x.0 x.1).2.settled;
    shown = λ n r at.
        let x = known_of n r at in
        subst (λ (y : Record). y.slot.stay ≡ Shown → y.slot.due ≤ clock) x.2
        (shown_at clock (stay_before x.0.is_expired x.0.target) x.0.due (λ h. absurd (unshown x.0.is_expired x.0.target h)));
  }

  counted_told : (n : ℕ) (r : Record) → records n ≡ Some r → IsCounted (receive_count lines n) r
  counted_told n r at =
      let x = known_of n r at in
      let count = (telling n x.0 x.1).2.counted in
      subst (λ (y : Record). IsCounted (receive_count lines n) y) x.2
      (record { fresh = ap (λ (c : ℕ). (c == 0) && not x.0.is_returned) count; tries = ap (λ (c : ℕ). min c failing_receives) count })

  recorded_told : AreRecorded lines clock records
  recorded_told = records_by_known lines clock records known_back counted_told settled_told

  -- ---- later

  known_later : (later : ℕ) → clock ≤ later → (n : ℕ) → known_at lines later n ≡ option_map (known_record retention later n) (records_settled retention later records n)
  known_later later rises n =
      let after : Records = records_settled retention later records in
      known_by_records lines later after
      (recorded-settled lines later records after (recorded-later lines clock later records rises recorded_told) (λ n. refl))
      (settled_is retention later records after (λ n r at shown. let due = settled_told.shown n r at shown in omega arith) (λ n. refl))
      n

  -- what is not known is not known later
  pub unknown_later : (later : ℕ) → clock ≤ later → (n : ℕ) → told.known n ≡ None → known_at lines later n ≡ None
  unknown_later later rises n none =
      known_later later rises n
      ∙ ap
      (λ (o : Option KnownMessage).
      option_map (known_record retention later n) (option_and_then (λ r. settled_record retention later r) (option_and_then (λ k. option_map (λ content. record_told k content) k.content) o)))
      none

-- ---- behind an event

module _ (q : QueueHistory) (event : Event ContentText) (sound : IsSound q.lines q.clock) (about : IsAbout q event) where
  abbrev more : List Line
  more = q.lines ++ record { at = q.clock; event = event } ∷ []

  known_behind : (n : ℕ) → known_at more q.clock n
      ≡ option_map (known_record (settings_of more).retention_seconds q.clock n)
      (records_settled (settings_of more).retention_seconds q.clock
      (records_after (settings_of q.lines) q.clock event (message_count q.lines) (records_told (summary_of q.lines q.clock).receives (summary_of q.lines q.clock).known q.clock)) n)
  known_behind n =
      let before : Records = records_told (summary_of q.lines q.clock).receives (summary_of q.lines q.clock).known q.clock in
      let settled = settled_told q.lines q.clock in
      let behind : Records = records_after (settings_of q.lines) q.clock event (message_count q.lines) before in
      let after : Records = records_settled (settings_of more).retention_seconds q.clock behind in
      known_by_records more q.clock after
      (recorded-settled more q.clock behind after (recorded-event q event before behind sound about (recorded_told q.lines q.clock) settled (λ n. refl)) (λ n. refl))
      (settled_is (settings_of more).retention_seconds q.clock behind after
      (λ n r at.
      subst (λ (o : Option Record). IsDueBy q.clock o) at
      (due-behind (settings_of q.lines) q.clock q.clock event (nat_lt n (message_count q.lines)) n (message_count q.lines) (before n) (due-all q.clock (before n) (settled.shown n))))
      (λ n. refl))
      n

  -- nor behind an event, where it was there before
  pub unknown_behind : (n : ℕ) → nat_lt n (message_count q.lines) ≡ true → (summary_of q.lines q.clock).known n ≡ None → known_at more q.clock n ≡ None
  unknown_behind n below none =
      let before : Records = records_told (summary_of q.lines q.clock).receives (summary_of q.lines q.clock).known q.clock in
      let gone : before n ≡ None = ap (option_and_then (λ k. option_map (λ content. record_told q.lines q.clock k content) k.content)) none in
      known_behind n
      ∙ (λ i.
      option_map (known_record (settings_of more).retention_seconds q.clock n)
      (option_and_then (λ r. settled_record (settings_of more).retention_seconds q.clock r)
      (cond (below i) (option_and_then (λ r. record_after (settings_of q.lines) q.clock event n r) (gone i)) (record_begun q.clock event (message_count q.lines) n))))

  flows_behind : current_flows content_size more q.clock ≡ capped (added (current_flows content_size q.lines q.clock) (flows_of content_size event))
  flows_behind =
      let here : eqb (minute_of q.clock) (minute_of q.clock) ≡ true = grind (arith, nat_tests) in
      minute_flows-push content_size q.lines (record { at = q.clock; event = event }) (minute_of q.clock) ∙ rw here refl

-- ---- the rows of a journal

shown_row : (lines : List Line) (clock minute : ℕ) → window_start (created_time lines) clock ≤ minute → minute < minute_of clock
    → row_in (window_rows content_size lines clock) minute ≡ Some (metric_row content_size lines minute)
shown_row lines clock minute low high =
    let first : ℕ = window_start (created_time lines) clock in
    let among : (nat_le first minute && nat_lt minute (first + (minute_of clock - first))) ≡ true = grind (arith, nat_tests) in
    row_in-from (λ m. metric_row content_size lines m) (λ m. metric_row-minute content_size lines m) first (minute_of clock - first) minute
    ∙ ap (λ (b : Bool). cond b (Some (metric_row content_size lines minute)) None) among

-- ---- two queues

module _ (q w : QueueHistory) (sound : IsSound q.lines q.clock) (other : IsSound w.lines w.clock) (same : StandsFor q w) where
  abbrev settings_are : settings_of q.lines ≡ settings_of w.lines
  settings_are = settings_same q w sound other same

  -- ---- later

  known_then : (later : ℕ) → q.clock ≤ later → (summary_of q.lines later).known ≡ (summary_of w.lines later).known
  known_then later rises = λ i n. at n i
    where
      rises_too : w.clock ≤ later
      rises_too = let clock = same.clock in omega arith

      at : (n : ℕ) → known_at q.lines later n ≡ known_at w.lines later n
      at n =
          known_later q.lines q.clock later rises n
          ∙ (λ i.
          option_map (known_record (settings_are i).retention_seconds later n)
          (records_settled (settings_are i).retention_seconds later (records_told (receives_same q w sound other same i) (known_same q w sound other same i) (same.clock i)) n))
          ∙ sym (known_later w.lines w.clock later rises_too n)

  -- what flows in a minute that is not over
  flows_at : (minute : ℕ) → minute_of q.clock ≤ minute → minute_flows content_size q.lines minute ≡ minute_flows content_size w.lines minute
  flows_at minute present =
      let clock = same.clock in
      elim (cases_lt (minute_of q.clock) minute) [
        | inl after ↦ flows-none q minute sound (omega arith) ∙ sym (flows-none w minute other (omega arith))
        | inr before ↦
            let here : minute ≡ minute_of q.clock = omega arith in
            let there : minute_of w.clock ≡ minute = omega arith in
            ap (λ (m : ℕ). minute_flows content_size q.lines m) here
            ∙ ap (λ (x : Summary). x.flows) same.summary
            ∙ ap (λ (m : ℕ). minute_flows content_size w.lines m) there
      ]

  -- and what stands there at its end
  gauges_at : (minute : ℕ) → minute_of q.clock ≤ minute → minute_gauges q.lines minute ≡ minute_gauges w.lines minute
  gauges_at minute present =
      let clock = same.clock in
      let last : ℕ = minute_end minute - 1 in
      let before : q.clock < minute_end minute = omega arith in
      let before_too : w.clock < minute_end minute = omega arith in
      ap (λ (es : List Line). gauges_of es last) (all-before 0 q.clock (minute_end minute) q.lines sound.ordered before)
      ∙ gauges_alike q.lines w.lines last last refl (receives_same q w sound other same) (known_then last (omega arith))
      ∙ sym (ap (λ (es : List Line). gauges_of es last) (all-before 0 w.clock (minute_end minute) w.lines other.ordered before_too))

  row_at : (minute : ℕ) → minute_of q.clock ≤ minute → metric_row content_size q.lines minute ≡ metric_row content_size w.lines minute
  row_at minute present =
      row-told_now q.lines q.clock minute sound present
      ∙ (λ i. record { minute = minute; flows = flows_at minute present i; gauges = gauges_at minute present i })
      ∙ sym (row-told_now w.lines w.clock minute other (omega (arith, present, same.clock)))

  row_before : (minute : ℕ) → window_start (created_time q.lines) q.clock ≤ minute → minute < minute_of q.clock → metric_row content_size q.lines minute ≡ metric_row content_size w.lines minute
  row_before minute low high =
      let created = created_same q w sound other same in
      let clock = same.clock in
      same_Some (metric_row content_size q.lines minute) (metric_row content_size w.lines minute)
      (sym (shown_row q.lines q.clock minute low high)
      ∙ ap (λ (x : Summary). row_in x.rows minute) same.summary
      ∙ shown_row w.lines w.clock minute (subst (λ (c : ℕ). window_start c w.clock ≤ minute) created (subst (λ (t : ℕ). window_start (created_time q.lines) t ≤ minute) clock low)) (omega arith))

  rows_then : (later : ℕ) → q.clock ≤ later → window_rows content_size q.lines later ≡ window_rows content_size w.lines later
  rows_then later rises =
      range-alike (λ m. metric_row content_size q.lines m) (λ m. metric_row content_size w.lines m) (window_start (created_time q.lines) later) (minute_of later - window_start (created_time q.lines) later) each
      ∙ ap (λ (created : ℕ). map (λ m. metric_row content_size w.lines m) (range_with_len (window_start created later) (minute_of later - window_start created later))) (created_same q w sound other same)
    where
      each : (m : ℕ) → window_start (created_time q.lines) later ≤ m → m < window_start (created_time q.lines) later + (minute_of later - window_start (created_time q.lines) later)
          → metric_row content_size q.lines m ≡ metric_row content_size w.lines m
      each m low high = elim (cases_lt m (minute_of q.clock)) [
        | inl below ↦ row_before m (omega (arith, low, rises)) below
        | inr present ↦ row_at m (omega (arith, present))
      ]

  summary_then : (later : ℕ) → q.clock ≤ later → summary_of q.lines later ≡ summary_of w.lines later
  summary_then later rises =
      λ i.
      record {
        settings = settings_are i;
        created = created_same q w sound other same i;
        modified = modified_same q w sound other same i;
        closed = closed_same q w sound other same i;
        receives = receives_same q w sound other same i;
        accepted = (same.summary i).accepted;
        known = known_then later rises i;
        leaving = (same.summary i).leaving;
        rows = rows_then later rises i;
        flows = flows_at (minute_of later) (omega (arith, rises)) i;
      }

  pub stands_later : (at : ℕ) → StandsFor (at_moment q at) (at_moment w at)
  stands_later at =
      let clocks : max q.clock at ≡ max w.clock at = ap (λ (clock : ℕ). max clock at) same.clock in
      record {
        uid = same.uid;
        name = same.name;
        in_flight = same.in_flight;
        clock = clocks;
        summary = summary_then (max q.clock at) (omega arith) ∙ ap (summary_of w.lines) clocks;
      }

  -- the state of the alarm of a rule
  pub alarms_same : (rule : Rule) → rule.minutes ≤ longest_window → alarm_state_in content_size q.lines q.clock rule ≡ alarm_state_in content_size w.lines w.clock rule
  alarms_same rule few =
      sym (state-told q.lines q.clock sound.early rule few)
      ∙ ap (λ (x : Summary). kept_state (told_alarm x.rows rule)) same.summary
      ∙ state-told w.lines w.clock other.early rule few

  -- ---- behind an event

  module _ (event : Event ContentText) (about : IsAbout q event) (also : IsAbout w event) where
    abbrev alone : StandsAlone event
    alone = about.alone

    abbrev behind : QueueHistory → List Line
    behind v = v.lines ++ record { at = v.clock; event = event } ∷ []

    entry_same : ◌≡◌ {A = Line} (record { at = q.clock; event = event }) (record { at = w.clock; event = event })
    entry_same = λ i. record { at = same.clock i; event = event }

    settings_behind : settings_of (behind q) ≡ settings_of (behind w)
    settings_behind =
        settings_from-push _ q.lines (record { at = q.clock; event = event })
        ∙ ap (λ s. settings_after s event) settings_are
        ∙ sym (settings_from-push _ w.lines (record { at = w.clock; event = event }))

    created_behind : created_time (behind q) ≡ created_time (behind w)
    created_behind =
        created_time-push q.lines (record { at = q.clock; event = event }) sound.begun
        ∙ created_same q w sound other same
        ∙ sym (created_time-push w.lines (record { at = w.clock; event = event }) other.begun)

    modified_behind : (summary_of (behind q) q.clock).modified ≡ (summary_of (behind w) w.clock).modified
    modified_behind =
        modified_from-push 0 q.lines (record { at = q.clock; event = event }) alone
        ∙ (λ i. cond (gives_settings event) (same.clock i) (modified_same q w sound other same i))
        ∙ sym (modified_from-push 0 w.lines (record { at = w.clock; event = event }) alone)

    closed_behind : (summary_of (behind q) q.clock).closed ≡ (summary_of (behind w) w.clock).closed
    closed_behind =
        closed-push q.lines (record { at = q.clock; event = event })
        ∙ ap (λ (b : Bool). b || closes event) (closed_same q w sound other same)
        ∙ sym (closed-push w.lines (record { at = w.clock; event = event }))

    received_behind : (n : ℕ) → receive_count (behind q) n ≡ receive_count (behind w) n
    received_behind n =
        receives-push q.lines (record { at = q.clock; event = event }) n alone
        ∙ ap (λ (k : ℕ). min (k + cond (offers_number n event) 1 0) greatest) (received_same q w sound other same n)
        ∙ sym (receives-push w.lines (record { at = w.clock; event = event }) n alone)

    count_behind : message_count (behind q) ≡ message_count (behind w)
    count_behind =
        count-push q.lines (record { at = q.clock; event = event })
        ∙ ap (λ (k : ℕ). k + births event) (count_same q w sound other same)
        ∙ sym (count-push w.lines (record { at = w.clock; event = event }))

    accepted_behind : (summary_of (behind q) q.clock).accepted ≡ (summary_of (behind w) w.clock).accepted
    accepted_behind =
        accepted_keys-push q.lines (record { at = q.clock; event = event })
        ∙ ap (λ (x : Summary). x.accepted ++ (effect_of event).accepted) same.summary
        ∙ sym (accepted_keys-push w.lines (record { at = w.clock; event = event }))

    transfers_behind : pending_transfers (behind q) ≡ pending_transfers (behind w)
    transfers_behind =
        pending-push q.lines (record { at = q.clock; event = event })
        ∙ ap (λ (ts : List Transfer). filter (λ t. not (ends_transfer t event)) ts ++ departures event) (transfers_same q w sound other same)
        ∙ sym (pending-push w.lines (record { at = w.clock; event = event }))

    known_then_behind : (summary_of (behind q) q.clock).known ≡ (summary_of (behind w) w.clock).known
    known_then_behind = λ i n. at n i
      where
        at : (n : ℕ) → known_at (behind q) q.clock n ≡ known_at (behind w) w.clock n
        at n =
            known_behind q event sound about n
            ∙ (λ i.
            option_map (known_record (settings_behind i).retention_seconds (same.clock i) n)
            (records_settled (settings_behind i).retention_seconds (same.clock i)
            (records_after (settings_are i) (same.clock i) event (count_same q w sound other same i) (records_told (receives_same q w sound other same i) (known_same q w sound other same i) (same.clock i))) n))
            ∙ sym (known_behind w event other also n)

    rows_behind : window_rows content_size (behind q) q.clock ≡ window_rows content_size (behind w) w.clock
    rows_behind = rows-same q event sound alone ∙ ap (λ (x : Summary). x.rows) same.summary ∙ sym (rows-same w event other alone)

    flows_then : current_flows content_size (behind q) q.clock ≡ current_flows content_size (behind w) w.clock
    flows_then =
        flows_behind q event sound about
        ∙ ap (λ (x : Summary). capped (added x.flows (flows_of content_size event))) same.summary
        ∙ sym (flows_behind w event other also)

    pub stands_behind : StandsFor (with_event q event) (with_event w event)
    stands_behind = record {
      uid = same.uid;
      name = same.name;
      in_flight = same.in_flight;
      clock = same.clock;
      summary = λ i.
          record {
            settings = settings_behind i;
            created = created_behind i;
            modified = modified_behind i;
            closed = closed_behind i;
            receives = map (λ n. received_behind n i) (range_with_len 0 (count_behind i));
            accepted = accepted_behind i;
            known = known_then_behind i;
            leaving = map (λ t. t.number) (transfers_behind i);
            rows = rows_behind i;
            flows = flows_then i;
          };
    }
