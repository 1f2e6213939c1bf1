-- A queue's index is that of its journal, and stays so: where room is made in it, as time passes, and behind an event.
use Rattle.std.proofs.Common.{◌≡◌, ℕ, ◌+◌, ◌*◌, ◌≤◌, ◌<◌, ◌^◌, Bool, true, false, not, cond, ◌&&◌, ◌||◌, ◌++◌, List, [], ◌∷◌, map, length, Option, Some, None, inl, inr, refl, sym, ap, subst, ◌∙◌, arith}
use Rattle.std.specs.Prelude.{◌-◌, min, nat_eq, nat_lt, nat_le, filter, slice_index, slice_get, option_map, option_and_then, is_some}
use Rattle.std.specs.Option.{option_map_or}
use Rattle.std.specs.List.{AllPairs, Contains, range_with_len}
use Rattle.std.specs.FinMap as finite
use Rattle.std.specs.VecDeque.{deque_capacity}
use Rattle.std.proofs.lemmas.Bool.{false≢true, false_from_ne_true, cases_lt}
use Rattle.std.proofs.lemmas.List.{map-append}
use Rattle.std.proofs.lemmas.List.Elements.{Contains-append_left, Contains-append_right, Contains-push}
use Rattle.std.proofs.lemmas.List.FromFn.{length-map-range_with_len, get_or-map-range_with_len, fill_by_all}
use Rattle.std.proofs.lemmas.Option.{none-some}
use Rattle.message.specs.Content.{ContentText}
use Rattle.queue_config.specs.Settings.{QueueSettings}
use Rattle.journal.specs.declared.entry.Event.{Event}
use Rattle.journal.specs.declared.entry.Event.TheVariants.{Opened}
use Rattle.queue_core.specs.declared.facts.Message.{Message}
use Rattle.queue_core.specs.declared.facts.Course.{Course}
use Rattle.queue_core.specs.declared.facts.Status.{Status}
use Rattle.queue_core.specs.declared.facts.Status.TheVariants.{Present, Removed, Waiting, Transferred}
use Rattle.queue_core.specs.declared.facts.Transfer.{Transfer}
use Rattle.queue_core.specs.declared.facts.MessageState.TheVariants.{Visible, Delayed, InFlight}
use Rattle.queue_core.specs.declared.slot.Stay.{Stay}
use Rattle.queue_core.specs.declared.slot.Stay.TheVariants.{Hidden, Shown, Left}
use Rattle.queue_core.specs.declared.slot.Slot.{Slot}
use Rattle.queue_core.specs.declared.record.Record.{Record}
use Rattle.queue_core.specs.declared.index.MessageIndex.{MessageIndex}
use Rattle.queue_core.specs.Messages.{Birth, effect_of, contains_number, message_count, settings_of, offers_number, receive_count, loses, closes, closes_period, status_after, awaits_status, awaits_transfer, departing, ends_transfer, pending_transfers}
use Rattle.queue_core.specs.States.{has_age, is_in_state, count_in_state, is_numbered}
use Rattle.queue_core.specs.Queue.{QueueHistory, with_event}
use Rattle.queue_core.specs.Legal.{IsCausedIn}
use Rattle.queue_core.specs.private.Ages.{place_if}
use Rattle.queue_core.specs.private.Heaps.{next_time, sent_time, visible_pairs}
use Rattle.queue_core.specs.private.Slots.{is_here, is_shown, is_left, is_left_stay, has_age as slot_has_age, AreIndexed}
use Rattle.queue_core.specs.private.Records.{records_in, slots_in, born_in, with_stay, hidden_until, received_at, back_at, has_run_out, stay_at, is_left_record, settled_record, offered_after, rescheduled_after, here_after, record_after, record_after_stay, born_record, record_of_birth, record_begun, records_after, records_settled, HasIndices, IsIndexed, HasSame, IsSettled}
use Rattle.queue_core.specs.private.Recorded.{AreRecorded}
use Rattle.queue_core.specs.private.Applying.{CanApply, counted_if}
use Rattle.queue_core.specs.private.Indexed.{known_record, IsIndexOf}
use Rattle.metric_window.specs.Flows.{greatest}
use Rattle.queue_core.proofs.Scans.{StandsAlone}
use Rattle.queue_core.proofs.AloneLemmas.{departures-alone}
use Rattle.queue_core.proofs.SoundLemmas.{IsSound}
use Rattle.queue_core.proofs.PushLemmas.{count-push, numbered-kept}
use Rattle.queue_core.proofs.records.FactLemmas.{Line, course-push, receives-push, numbered-number, numbered-place, numbered-past, about, pending-push}
use Rattle.queue_core.proofs.records.RecordLemmas.{left_at, recorded-later, recorded-settled, settled_is, recorded-event}
use Rattle.queue_core.proofs.indexed.IndexedLemmas.{age_is, shown_is, left_is, delayed_count, in_flight_count, order_is, visible_count, next_is, sent_is}
use Rattle.queue_core.proofs.records.SummaryLemmas.{keeps-records, records-kept}
use Rattle.queue_core.proofs.records.AppliedLemmas.{IsApplied}

-- ---- a queue as it is opened

pub opened-index : (at uid : ℕ) (settings : QueueSettings) (x : MessageIndex) → HasIndices x → ((n : ℕ) → records_in x n ≡ None) → x.receives.items ≡ [] → x.leaving.items ≡ []
    → IsIndexOf (record { at = at; event = Opened uid settings } ∷ []) at x
opened-index at uid settings x indices records receives leaving =
    keeps-records (record { at = at; event = Opened uid settings } ∷ []) at x
    (record {
      indices = indices;
      leaving = λ n. ap (contains_number n) leaving ∙ sym (ap (λ (o : Option Record). is_left (option_map (λ r. r.slot) o)) (records n));
      once = subst (λ (numbers : List ℕ). AllPairs (λ a b. nat_eq a b ≡ false) numbers) (sym leaving) (λ i j d lt below. absurd (omega arith));
    })
    (record { some = λ n r is. absurd (none-some r (sym (records n) ∙ is)); none = λ n m numbered is. absurd cc })
    (record { settled = λ n r is. absurd (none-some r (sym (records n) ∙ is)); shown = λ n r is. absurd (none-some r (sym (records n) ∙ is)) })
    receives leaving

-- ---- room

module _ (lines : List Line) (clock : ℕ) (x : MessageIndex) (is : IsIndexOf lines clock x) where
  pub born_is : born_in x ≡ message_count lines
  born_is = ap length is.receives ∙ length-map-range_with_len (λ n. receive_count lines n) 0 (message_count lines)

  receives_at : (n : ℕ) → n < born_in x → slice_index x.receives.items n ≡ receive_count lines n
  receives_at n h =
      ap (λ (counts : List ℕ). slice_index counts n) is.receives
      ∙ get_or-map-range_with_len (λ n. receive_count lines n) 0 (message_count lines) n n 0 (omega (arith, born_is)) (omega arith)

  -- ---- what each index is of the journal

  abbrev own_records : AreRecorded lines clock (records_in x)
  own_records = records-kept lines clock x is

  indices_are : AreIndexed (slots_in x) (message_count lines) x.indices
  indices_are = subst (λ (count : ℕ). AreIndexed (slots_in x) count x.indices) born_is is.indexed.indices.indices

  pub index_due : (n : ℕ) → finite.get x.indices.due.moments n ≡ next_time lines clock n
  index_due n = indices_are.due n ∙ sym (next_is lines clock (records_in x) own_records is.settled n)

  pub index_sent : (n : ℕ) → finite.get x.indices.sent.moments n ≡ sent_time lines clock n
  index_sent n = indices_are.sent n ∙ sym (sent_is lines clock (records_in x) own_records is.settled is.indexed.indices.sent n)

  pub index_visible : x.indices.visible.pairs ≡ visible_pairs lines clock
  index_visible = order_is lines clock (records_in x) own_records is.settled x.indices indices_are

  listed : (here : Bool) (n : ℕ) → is_some (place_if here x.indices.ages n) ≡ here
  listed true n = refl
  listed false n = refl

  pub index_ages : (n : ℕ) → is_some (finite.get x.indices.ages.list.slots n) ≡ is_numbered (λ m. has_age lines clock m) lines n
  index_ages n =
      ap (λ (o : Option ℕ). is_some o) (indices_are.ages.found n)
      ∙ listed (slot_has_age (slots_in x n)) n
      ∙ sym (age_is lines clock (records_in x) own_records is.settled n)

  pub index_shown : length x.indices.visible.pairs ≡ count_in_state Visible lines clock
  index_shown = visible_count lines clock (records_in x) own_records is.settled x.indices indices_are

  pub index_delayed : x.indices.delayed ≡ count_in_state Delayed lines clock
  index_delayed = indices_are.delayed ∙ sym (delayed_count lines clock (records_in x) own_records is.settled)

  pub index_in_flight : x.indices.in_flight ≡ count_in_state InFlight lines clock
  index_in_flight = indices_are.in_flight ∙ sym (in_flight_count lines clock (records_in x) own_records is.settled)

  pub same-index : (y : MessageIndex) → HasSame x y → IsIndexed y → IsIndexOf lines clock y
  same-index y same indexed = record {
    indexed = indexed;
    known = λ n. is.known n ∙ ap (option_map (known_record (settings_of lines).retention_seconds clock n)) (sym (same.records n));
    counted = λ n r at. is.counted n r (sym (same.records n) ∙ at);
    receives = same.receives ∙ is.receives;
    leaving = same.leaving ∙ is.leaving;
    settled = record {
      settled = λ n r at. is.settled.settled n r (sym (same.records n) ∙ at);
      shown = λ n r at. is.settled.shown n r (sym (same.records n) ∙ at);
    };
  }

-- ---- the passing of time

-- what is there at a time by a retention in seconds, and shown where it is due
pub record IsSettling (retention at : ℕ) (x y : MessageIndex) : Type 0 where
  pub indices : HasIndices y
  pub records : (n : ℕ) → records_in y n ≡ records_settled retention at (records_in x) n
  pub receives : y.receives.items ≡ x.receives.items
  pub leaving : y.leaving.items ≡ x.leaving.items

-- what is shown was due by a time
abbrev IsShownBy : ℕ → MessageIndex → Type 0
IsShownBy clock x = (n : ℕ) (r : Record) → records_in x n ≡ Some r → r.slot.stay ≡ Shown → r.slot.due ≤ clock

left_if : (stay : Stay) (out : Bool) (after : Record) → is_left_record after ≡ is_left_stay stay
    → is_left (option_map (λ r. r.slot) (cond (not (is_left_stay stay) && out) None (Some after))) ≡ is_left_stay stay
left_if Hidden true after h = refl
left_if Hidden false after h = h
left_if Shown true after h = refl
left_if Shown false after h = h
left_if (Left target ran_out) out after h = h

-- what has left stays, and nothing leaves
left-settled : (retention clock : ℕ) (o : Option Record)
    → is_left (option_map (λ r. r.slot) (option_and_then (λ r. settled_record retention clock r) o)) ≡ is_left (option_map (λ r. r.slot) o)
left-settled retention clock None = refl
left-settled retention clock (Some r) =
    left_if r.slot.stay (nat_le (r.first_send_time + 1000 * retention) clock) (with_stay (stay_at clock r.slot.stay r.slot.due) r) (left_at clock r.slot.stay r.slot.due)

module _ (retention clock : ℕ) (x y : MessageIndex) (settling : IsSettling retention clock x y) where
  left_alike : (n : ℕ) → is_left (slots_in y n) ≡ is_left (slots_in x n)
  left_alike n = ap (λ (o : Option Record). is_left (option_map (λ r. r.slot) o)) (settling.records n) ∙ left-settled retention clock (records_in x n)

  indexed-settled : IsIndexed x → IsIndexed y
  indexed-settled is = record {
    indices = settling.indices;
    leaving = λ n. ap (contains_number n) settling.leaving ∙ is.leaving n ∙ sym (left_alike n);
    once = subst (λ (numbers : List ℕ). AllPairs (λ a b. nat_eq a b ≡ false) numbers) (sym settling.leaving) is.once;
  }

pub later-index : (lines : List Line) (clock later retention : ℕ) (x y : MessageIndex) → clock ≤ later → IsIndexOf lines clock x → retention ≡ (settings_of lines).retention_seconds
    → IsSettling retention later x y → IsIndexOf lines later y
later-index lines clock later retention x y rises is same settling =
    let own : IsSettling (settings_of lines).retention_seconds later x y = subst (λ (seconds : ℕ). IsSettling seconds later x y) same settling in
    keeps-records lines later y (indexed-settled retention later x y settling is.indexed)
    (recorded-settled lines later (records_in x) (records_in y) (recorded-later lines clock later (records_in x) rises (records-kept lines clock x is)) own.records)
    (settled_is (settings_of lines).retention_seconds later (records_in x) (records_in y) (λ n r at shown. let due = is.settled.shown n r at shown in omega arith) own.records)
    (settling.receives ∙ is.receives) (settling.leaving ∙ is.leaving)

-- ---- an event

shown-here : (o : Option Slot) → is_shown o ≡ true → is_here o ≡ true
shown-here None h = absurd (false≢true h)
shown-here (Some s) h = by_stay s.stay h
  where
    by_stay : (stay : Stay) → is_shown (Some (record s { stay = stay })) ≡ true → not (is_left_stay stay) ≡ true
    by_stay Hidden h = refl
    by_stay Shown h = refl
    by_stay (Left target ran_out) h = absurd (false≢true h)

module _ (q : QueueHistory) (event : Event ContentText) (caused : IsCausedIn q event) (x : MessageIndex) (is : IsIndexOf q.lines q.clock x) where
  visible_here : (n : ℕ) → is_numbered (λ m. is_in_state Visible q.lines q.clock m) q.lines n ≡ true → is_here (slots_in x n) ≡ true
  visible_here n h = shown-here (slots_in x n) (sym (shown_is q.lines q.clock (records_in x) (records-kept q.lines q.clock x is) is.settled n) ∙ h)

  pub can_apply : length x.leaving.items + length (effect_of event).departures ≤ deque_capacity x.leaving → CanApply event x
  can_apply room =
      let of = about q event caused in
      record {
        offered = λ n h. visible_here n (of.offered n h);
        alone = of.alone;
        departing = λ n h. visible_here n (of.departing n h);
        apart = of.apart;
        departing_once = of.departing_once;
        offered_once = of.offered_once;
        room = room;
      }

-- ---- what an event shows

-- where it is shown, it was due by a time
abbrev pub IsDueBy : ℕ → Option Record → Type 0
IsDueBy clock None = Unit {0}
IsDueBy clock (Some r) = r.slot.stay ≡ Shown → r.slot.due ≤ clock

pub due-all : (clock : ℕ) (o : Option Record) → ((r : Record) → o ≡ Some r → r.slot.stay ≡ Shown → r.slot.due ≤ clock) → IsDueBy clock o
due-all clock None h = tt
due-all clock (Some r) h = h r refl

due-offered : (clock at : ℕ) (offers : Bool) (r : Record) → IsDueBy clock (Some r) → IsDueBy clock (Some (cond offers (received_at at r) r))
due-offered clock at true r h = h
due-offered clock at false r h = h

due-rescheduled : (clock due : ℕ) (reschedules : Bool) (r : Record) → IsDueBy clock (Some r) → IsDueBy clock (Some (cond reschedules (hidden_until due r) r))
due-rescheduled clock due true r h = λ shown. absurd cc
due-rescheduled clock due false r h = h

due-here : (clock target : ℕ) (removes departs : Bool) (r : Record) → IsDueBy clock (Some r) → IsDueBy clock (cond removes None (Some (cond departs (with_stay (Left target false) r) r)))
due-here clock target true departs r h = tt
due-here clock target false true r h = λ shown. absurd cc
due-here clock target false false r h = h

due-left : (clock at target : ℕ) (lost ran_out confirms closing later : Bool) (r : Record)
    → IsDueBy clock (cond lost (cond ran_out None (Some (back_at at r))) (cond confirms None (cond closing None (Some (with_stay (Left target later) r)))))
due-left clock at target true true confirms closing later r = tt
due-left clock at target true false confirms closing later r = λ shown. absurd cc
due-left clock at target false ran_out true closing later r = tt
due-left clock at target false ran_out false true later r = tt
due-left clock at target false ran_out false false later r = λ shown. absurd cc

module _ (s : QueueSettings) (clock at : ℕ) (event : Event ContentText) where
  due-after : (n : ℕ) (r : Record) → IsDueBy clock (Some r) → IsDueBy clock (record_after s at event n r)
  due-after n r h = by_stay r.slot.stay
    where
      by_here : IsDueBy clock (here_after at event n r)
      by_here =
          due-here clock (effect_of event).target ((effect_of event).removes n) (contains_number n (effect_of event).departures) (rescheduled_after at event n (offered_after at event n r))
          (due-rescheduled clock (at + 1000 * (effect_of event).timeout) (contains_number n (effect_of event).rescheduled) (offered_after at event n r) (due-offered clock at (offers_number n event) r h))

      by_stay : (stay : Stay) → IsDueBy clock (record_after_stay s at event n stay r)
      by_stay Hidden = by_here
      by_stay Shown = by_here
      by_stay (Left target ran_out) =
          due-left clock at target (loses target event) ran_out ((effect_of event).confirms n) (closes event) (ran_out || (closes_period event && has_run_out s.retention_seconds at r)) r

  due-each : (n : ℕ) (o : Option Record) → IsDueBy clock o → IsDueBy clock (option_and_then (λ r. record_after s at event n r) o)
  due-each n None h = tt
  due-each n (Some r) h = due-after n r h

  -- what begins is hidden
  due-text : (birth : Birth ContentText) (content : Option ContentText) → IsDueBy clock (option_map (born_record at birth) content)
  due-text birth None = tt
  due-text birth (Some content) = λ shown. absurd cc

  due-born : (birth : Option (Birth ContentText)) → IsDueBy clock (option_and_then (record_of_birth at) birth)
  due-born None = tt
  due-born (Some birth) = due-text birth birth.content

  pub due-behind : (before : Bool) (n count : ℕ) (o : Option Record) → IsDueBy clock o → IsDueBy clock (cond before (option_and_then (λ r. record_after s at event n r) o) (record_begun at event count n))
  due-behind true n count o h = due-each n o h
  due-behind false n count o h = due-born (slice_get (effect_of event).births (n - count))

-- ---- what waits behind an event

filter-numbers_step : (b : Bool) (t : Transfer) (ts : List Transfer) → cond b (t.number ∷ map (λ t. t.number) ts) (map (λ t. t.number) ts) ≡ map (λ t. t.number) (cond b (t ∷ ts) ts)
filter-numbers_step true t ts = refl
filter-numbers_step false t ts = refl

filter-numbers : (p : ℕ → Bool) (kept : Transfer → Bool) (ts : List Transfer) → ((t : Transfer) → Contains ts t → p t.number ≡ kept t)
    → filter p (map (λ t. t.number) ts) ≡ map (λ t. t.number) (filter kept ts)
filter-numbers p kept [] same = refl
filter-numbers p kept (t ∷ ts) same =
    ap (λ (b : Bool). cond b (t.number ∷ filter p (map (λ t. t.number) ts)) (filter p (map (λ t. t.number) ts))) (same t (Contains-append_left (t ∷ []) ts t (Contains-push [] t)))
    ∙ ap (λ (ns : List ℕ). cond (kept t) (t.number ∷ ns) ns) (filter-numbers p kept ts (λ u there. same u (Contains-append_right (t ∷ []) ts u there)))
    ∙ filter-numbers_step (kept t) t (filter kept ts)

numbers-map : (target : ℕ) (ns : List ℕ) → map (λ (t : Transfer). t.number) (map (λ n. record { number = n; target = target }) ns) ≡ ns
numbers-map target [] = refl
numbers-map target (n ∷ ns) = ap (λ (ks : List ℕ). n ∷ ks) (numbers-map target ns)

awaits_if : (target : ℕ) (confirms lost closing : Bool) → awaits_status (cond lost Present (cond confirms Transferred (cond closing Removed (Waiting target)))) ≡ not (confirms || lost || closing)
awaits_if target true true closing = refl
awaits_if target true false closing = refl
awaits_if target false true closing = refl
awaits_if target false false true = refl
awaits_if target false false false = refl

-- ---- behind an event, and settled then

-- a count that is no more than the greatest, and one more than it
counted_within : (most k : ℕ) (b : Bool) → k ≤ most → cond b (min (k + 1) most) k ≡ min (k + cond b 1 0) most
counted_within most k true h = refl
counted_within most k false h = omega arith

module _ (q : QueueHistory) (event : Event ContentText) (sound : IsSound q.lines q.clock) (caused : IsCausedIn q event) (x y : MessageIndex) (is : IsIndexOf q.lines q.clock x)
    (applied : IsApplied (settings_of q.lines) q.clock event x y) where
  abbrev entry : Line
  entry = record { at = q.clock; event = event }

  abbrev more : List Line
  more = q.lines ++ entry ∷ []

  records-behind : (n : ℕ) → records_in y n ≡ records_after (settings_of q.lines) q.clock event (message_count q.lines) (records_in x) n
  records-behind n =
      subst (λ (count : ℕ). records_in y n ≡ records_after (settings_of q.lines) q.clock event count (records_in x) n) (born_is q.lines q.clock x is) (applied.records n)

  recorded-behind : AreRecorded more q.clock (records_in y)
  recorded-behind = recorded-event q event (records_in x) (records_in y) sound (about q event caused) (records-kept q.lines q.clock x is) is.settled records-behind

  shown-behind : IsShownBy q.clock y
  shown-behind n r at =
      subst (λ (o : Option Record). IsDueBy q.clock o) (sym (records-behind n) ∙ at)
      (due-behind (settings_of q.lines) q.clock q.clock event (nat_lt n (message_count q.lines)) n (message_count q.lines) (records_in x n) (due-all q.clock (records_in x n) (is.settled.shown n)))

  -- ---- receives

  abbrev alone : StandsAlone event
  alone = (about q event caused).alone

  -- what was not begun is not offered
  unoffered : (n : ℕ) → message_count q.lines ≤ n → offers_number n event ≡ false
  unoffered n past =
      false_from_ne_true (offers_number n event)
      (λ offered. false≢true
      (sym (ap (λ (o : Option Message). option_map_or (λ m. is_in_state Visible q.lines q.clock m) o false) (numbered-past q.lines n past)) ∙ (about q event caused).offered n offered))

  received-more : (n : ℕ) → slice_index y.receives.items n ≡ receive_count more n
  received-more n = elim (cases_lt n (born_in x)) [
    | inl below ↦
        applied.receives.counts n below
        ∙ ap (counted_if (offers_number n event)) (receives_at q.lines q.clock x is n below)
        ∙ counted_within greatest (receive_count q.lines n) (offers_number n event) (omega arith)
        ∙ sym (receives-push q.lines entry n alone)
    | inr past ↦ (let begun : message_count q.lines ≤ n = omega (arith, born_is q.lines q.clock x is) in
        let none : receive_count q.lines n ≡ 0 = (sound.unborn n begun).receives in
        applied.receives.begun n past ∙ sym (receives-push q.lines entry n alone ∙ rw (none, unoffered n begun) refl))
  ]

  receives-behind : y.receives.items ≡ map (λ n. receive_count more n) (range_with_len 0 (message_count more))
  receives-behind =
      fill_by_all (λ n. receive_count more n) y.receives.items (message_count more) 0 (omega (arith, born_is q.lines q.clock x is, count-push q.lines entry, applied.receives.len)) (λ n below. received-more n)

  -- ---- what waits

  -- what waits, and the event does not end its transfer, waits on
  awaits-more : (t : Transfer) → Contains (pending_transfers q.lines) t → is_numbered (λ m. awaits_transfer more m) more t.number ≡ not (ends_transfer t event)
  awaits-more t there =
      let w = sound.pending.waiting t there in
      ap (λ (o : Option Message). option_map_or (λ m. awaits_transfer more m) o false) (numbered-kept q.lines entry t.number w.0 w.1)
      ∙ ap (λ (c : Course). awaits_status c.status) (course-push q.lines entry w.0 (numbered-place q.lines t.number w.0 w.1))
      ∙ ap (λ (status : Status). awaits_status (status_after w.0.number status event)) w.2
      ∙ ap (λ (n : ℕ). awaits_status (status_after n (Waiting t.target) event)) (numbered-number q.lines t.number w.0 w.1)
      ∙ awaits_if t.target ((effect_of event).confirms t.number) (loses t.target event) (closes event)

  module _ (z : MessageIndex) (settling : IsSettling (settings_of more).retention_seconds q.clock y z) where
    recorded-then : AreRecorded more q.clock (records_in z)
    recorded-then = recorded-settled more q.clock (records_in y) (records_in z) recorded-behind settling.records

    settled-then : IsSettled (settings_of more).retention_seconds q.clock (records_in z)
    settled-then = settled_is (settings_of more).retention_seconds q.clock (records_in y) (records_in z) shown-behind settling.records

    left-kept : (t : Transfer) → Contains (pending_transfers q.lines) t → is_left (slots_in y t.number) ≡ not (ends_transfer t event)
    left-kept t there =
        sym (left_alike (settings_of more).retention_seconds q.clock y z settling t.number)
        ∙ sym (left_is more q.clock (records_in z) recorded-then settled-then t.number)
        ∙ awaits-more t there

    leaving-behind : y.leaving.items ≡ map (λ t. t.number) (pending_transfers more)
    leaving-behind =
        applied.leaving
        ∙ ap (λ (ns : List ℕ). filter (λ n. is_left (slots_in y n)) ns ++ (effect_of event).departures) is.leaving
        ∙ ap (λ (ns : List ℕ). ns ++ (effect_of event).departures)
        (filter-numbers (λ n. is_left (slots_in y n)) (λ t. not (ends_transfer t event)) (pending_transfers q.lines) left-kept)
        ∙ ap (λ (ns : List ℕ). map (λ t. t.number) (filter (λ t. not (ends_transfer t event)) (pending_transfers q.lines)) ++ ns) (sym (numbers-map (effect_of event).target (effect_of event).departures))
        ∙ sym (map-append (λ (t : Transfer). t.number) (filter (λ t. not (ends_transfer t event)) (pending_transfers q.lines)) (departing event))
        ∙ ap (λ (ts : List Transfer). map (λ t. t.number) ts)
        (ap (λ (ts : List Transfer). filter (λ t. not (ends_transfer t event)) (pending_transfers q.lines) ++ ts) (sym (departures-alone event alone)) ∙ sym (pending-push q.lines entry))

    index-behind : IsIndexOf more q.clock z
    index-behind =
        keeps-records more q.clock z (indexed-settled (settings_of more).retention_seconds q.clock y z settling applied.indexed) recorded-then settled-then
        (settling.receives ∙ receives-behind) (settling.leaving ∙ leaving-behind)

pub event-index : (q : QueueHistory) (event : Event ContentText) (s : QueueSettings) (retention : ℕ) (x y z : MessageIndex) → IsSound q.lines q.clock → IsCausedIn q event → IsIndexOf q.lines q.clock x → s ≡ settings_of q.lines
    → IsApplied s q.clock event x y → retention ≡ (settings_of (with_event q event).lines).retention_seconds → IsSettling retention q.clock y z → IsIndexOf (with_event q event).lines q.clock z
event-index q event s retention x y z sound caused is own applied same settling =
    index-behind q event sound caused x y is (subst (λ (s : QueueSettings). IsApplied s q.clock event x y) own applied) z
    (subst (λ (seconds : ℕ). IsSettling seconds q.clock y z) same settling)
