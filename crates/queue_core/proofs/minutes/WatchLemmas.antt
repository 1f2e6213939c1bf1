-- What a queue keeps of its last minutes and of its alarms: from its opening on, behind each line, behind each minute that ends, and what is read off it.
use Rattle.std.proofs.Common.{◌≡◌, ℕ, zero, suc, ◌+◌, ◌-◌, ◌*◌, ◌<◌, ◌≤◌, max, Bool, true, false, cond, eqb, ◌&&◌, inl, inr, List, [], ◌∷◌, ◌++◌, map, length, take, drop, get_or, set, Some, None, refl, sym, ap, ◌∙◌, subst, arith}
use Rattle.std.specs.Prelude.{nat_le, nat_lt, filter, slice_get, option_map}
use Rattle.std.specs.List.{All, range_with_len}
use Rattle.std.proofs.lemmas.Bool.Decides.{nat_tests}
use Rattle.std.proofs.lemmas.Bool.{cases_lt}
use Rattle.std.proofs.lemmas.List.{append-nil, append_assoc, take_all, drop_all, drop-drop, drop-map, length-drop}
use Rattle.std.proofs.lemmas.List.Edits.{map_over_more}
use Rattle.std.proofs.lemmas.List.Elements.{All-head, All-tail}
use Rattle.std.proofs.lemmas.List.FromFn.{map-range_with_len_more, length-map-range_with_len}
use Rattle.std.proofs.lemmas.Option.{slice_get-map, slice_get-get_or, slice_get_past}
use Rattle.message.specs.Content.{ContentText, content_size}
use Rattle.queue_config.specs.Settings.{QueueSettings}
use Rattle.queue_config.specs.AlarmRules.{Rule}
use Rattle.journal.specs.declared.entry.Entry.{Entry}
use Rattle.journal.specs.declared.entry.Event.{Event}
use Rattle.journal.specs.declared.entry.Event.TheVariants.{Opened}
use Rattle.metric_window.specs.declared.flows.Flows.{Flows}
use Rattle.metric_window.specs.declared.gauges.Gauges.{Gauges}
use Rattle.metric_window.specs.declared.row.Row.{Row}
use Rattle.metric_window.specs.Flows.{no_flows, flows_of, added, flows_total, capped, greatest, minute_of, entries_in, minute_flows}
use Rattle.metric_window.specs.KeptRows.{KeptRows, keep_last, opened_at, current_row, with_closed, row_in}
use Rattle.metric_window.specs.Window.{longest_window}
use Rattle.metric_window.proofs.MinuteLemmas.{minute_flows-push, minute_flows-none}
use Rattle.metric_window.proofs.KeptLemmas.{keep_last-again, keep_last-behind, range-behind, row_in-from}
use Rattle.alarm.specs.declared.state.AlarmState.{AlarmState}
use Rattle.alarm.specs.declared.state.AlarmState.TheVariants.{Alarm, Okay}
use Rattle.alarm.specs.AlarmState.{breaches_in}
use Rattle.alarm.specs.KeptAlarm.{KeptAlarm, new_alarm, with_minute, kept_state}
use Rattle.alarm.proofs.KeptLemmas.{is_breach, judged-more, kept-map, state-kept}
use Rattle.queue_core.specs.declared.index.MessageIndex.{MessageIndex}
use Rattle.queue_core.specs.declared.watch.Watch.{Watch}
use Rattle.queue_core.specs.Messages.{created_time}
use Rattle.queue_core.specs.States.{gauges_of}
use Rattle.queue_core.specs.Metrics.{minute_end, entries_until, metric_row, row_of, complete_minutes, alarm_state_in}
use Rattle.queue_core.specs.Queue.{QueueHistory}
use Rattle.queue_core.specs.Legal.{IsOrdered}
use Rattle.queue_core.specs.private.Indexed.{IsIndexOf}
use Rattle.queue_core.specs.private.Watched.{rows_from, first_shown, rows_before, told_alarm, IsWatchAt, IsPassing}
use Rattle.queue_core.proofs.MarkLemmas.{map_agree}
use Rattle.queue_core.proofs.MetricLemmas.{row-parts, metric_row-later}
use Rattle.queue_core.proofs.commands.LegalLemmas.{not_after}
use Rattle.queue_core.proofs.Scans.{StandsAlone}
use Rattle.queue_core.proofs.minutes.RowLemmas.{metric_row-minute}
use Rattle.queue_core.proofs.SoundLemmas.{IsSound, row-told_now, created_time-push}
use Rattle.queue_core.proofs.minutes.WindowLemmas.{last_of_window}

-- ---- lists

map-twice : {X Y Z : Type 0} (f : X → Y) (g : Y → Z) (xs : List X) → map g (map f xs) ≡ map (λ x. g (f x)) xs
map-twice f g [] = refl
map-twice f g (x ∷ xs) = ap (λ (ys : List _). g (f x) ∷ ys) (map-twice f g xs)

pub range-alike : {X : Type 0} (f g : ℕ → X) (first count : ℕ) → ((m : ℕ) → first ≤ m → m < first + count → f m ≡ g m) → map f (range_with_len first count) ≡ map g (range_with_len first count)
range-alike f g first zero h = refl
range-alike f g first (suc count) h =
    rw (h first (omega arith) (omega arith), range-alike f g (first + 1) count (λ m low high. h m (omega arith) (omega arith))) refl

-- where all of them pass a test
alike-where : {X Y : Type 0} (P : X → Type 0) (f g : X → Y) (xs : List X) → All P xs → ((x : X) → P x → f x ≡ g x) → map f xs ≡ map g xs
alike-where P f g [] all h = refl
alike-where P f g (x ∷ xs) all h = rw (h x (All-head P x xs all), alike-where P f g xs (All-tail P x xs all) h) refl

kept-twice : {X : Type 0} (n m : ℕ) (xs : List X) → n ≤ m → keep_last n (keep_last m xs) ≡ keep_last n xs
kept-twice n m xs within =
    let left : length (drop (length xs - m) xs) ≡ length xs - (length xs - m) = length-drop (length xs - m) xs in
    let same : (length xs - m) + (length (drop (length xs - m) xs) - n) ≡ length xs - n = omega arith in
    drop-drop (length (drop (length xs - m) xs) - n) (length xs - m) xs ∙ ap (λ (k : ℕ). drop k xs) same

kept-none : {X : Type 0} (n : ℕ) → [] ≡ keep_last {X = X} n []
kept-none n = sym (drop_all (0 - n) [] (omega arith))

-- an element of a list, and a place behind its end
pub some-at : {X : Type 0} (xs : List X) (place : ℕ) (x : X) → place < length xs → x ≡ get_or xs place x → Some x ≡ slice_get xs place
some-at xs place x there same = ap (λ (y : _). Some y) same ∙ sym (slice_get-get_or xs place x there)

pub none-at : {X : Type 0} (xs : List X) (place : ℕ) → length xs ≤ place → None ≡ slice_get xs place
none-at xs place past = sym (slice_get_past xs place past)

-- a list that is written from its front on
pub told-next : {X : Type 0} (f : X → X) (all told : List X) (index : ℕ) (x y : X) → told ≡ map f (take index all) ++ drop index all → index < length all → x ≡ get_or told index x → y ≡ f x
    → set told index y ≡ map f (take (index + 1) all) ++ drop (index + 1) all
told-next f all told index x y is inside here same = ap (λ (z : _). set told index z) same ∙ map_over_more f all told index x inside is here

pub all-told : {X : Type 0} (f : X → X) (items told all : List X) (index len : ℕ) → all ≡ items → told ≡ map f (take index all) ++ drop index all → length all ≤ index → length told ≡ length all → len ≡ length items
    → take len (told ++ drop (length told) items) ≡ map f items
all-told {X} f items told all index len same is past size whole =
    let items_size : length all ≡ length items = ap length same in
    let done : told ≡ map f items =
    is ∙ ap (λ (xs : List X). map f xs ++ drop index all) (take_all index all past) ∙ ap (λ (xs : List X). map f all ++ xs) (drop_all index all past) ∙ append-nil (map f all) ∙ ap (map f) same in
    ap (λ (xs : List X). take len (told ++ xs)) (drop_all (length told) items (omega arith))
    ∙ ap (take len) (append-nil told)
    ∙ take_all len told (omega arith)
    ∙ done

-- ---- lines by their times

-- all lines are before a time that the clock has not reached
pub all-before : (from clock end : ℕ) (lines : List (Entry ContentText)) → IsOrdered from lines clock → clock < end → filter (λ e. nat_lt e.at end) lines ≡ lines
all-before from clock end [] h late = refl
all-before from clock end (e ∷ es) h late =
    let there : e.at ≤ clock = not_after e.at clock es h.1 in
    let is : nat_lt e.at end ≡ true = grind (arith, nat_tests) in
    rw is (ap (λ (xs : List (Entry ContentText)). e ∷ xs) (all-before e.at clock end es h.1 late))

-- none is of a minute that has not begun
none-in : (from clock minute : ℕ) (lines : List (Entry ContentText)) → IsOrdered from lines clock → clock < 60000 * minute → entries_in minute lines ≡ []
none-in from clock minute [] h late = refl
none-in from clock minute (e ∷ es) h late =
    let there : e.at ≤ clock = not_after e.at clock es h.1 in
    let early : minute_of e.at < minute = omega arith in
    let other : eqb (minute_of e.at) minute ≡ false = grind (arith, nat_tests) in
    rw other (none-in e.at clock minute es h.1 late)

pub flows-none : (q : QueueHistory) (minute : ℕ) → IsSound q.lines q.clock → q.clock < 60000 * minute → minute_flows content_size q.lines minute ≡ no_flows
flows-none q minute sound late =
    ap (λ (es : List (Entry ContentText)). capped (flows_total content_size es)) (none-in 0 q.clock minute q.lines sound.ordered late)
    ∙ minute_flows-none content_size minute

-- the watch is that of the queue that contracts see
pub watch_of : (p q : QueueHistory) (w : Watch) → p ≡ q → IsWatchAt p.lines (minute_of p.clock) p.rules w → IsWatchAt q.lines (minute_of q.clock) q.rules w
watch_of p q w same is = subst (λ (q : QueueHistory). IsWatchAt q.lines (minute_of q.clock) q.rules w) same is

-- ---- rows one after another

module _ (lines : List (Entry ContentText)) where
  abbrev row : ℕ → Row
  row m = metric_row content_size lines m

  -- the last of them, as many as are shown
  rows-kept : (first count left present : ℕ) → first + count ≡ present → left ≡ count - (count - longest_window) → keep_last longest_window (rows_from lines first count) ≡ rows_from lines (present - left) left
  rows-kept first count left present is many =
      let size : length (rows_from lines first count) ≡ count = length-map-range_with_len row first count in
      let whole : (count - longest_window) + left ≡ count = omega arith in
      let begin : first + (count - longest_window) ≡ present - left = omega arith in
      ap (λ (k : ℕ). drop (k - longest_window) (rows_from lines first count)) size
      ∙ drop-map row (count - longest_window) (range_with_len first count)
      ∙ ap (map row) (range-behind first (count - longest_window) left count whole)
      ∙ ap (λ (a : ℕ). rows_from lines a left) begin

  pub rows-shown : (first present : ℕ) → first ≤ present → first_shown lines present ≡ max first (present - longest_window)
      → keep_last longest_window (rows_from lines first (present - first)) ≡ rows_before lines present
  rows-shown first present before start =
      let begin : present - (present - first_shown lines present) ≡ first_shown lines present = omega arith in
      rows-kept first (present - first) (present - first_shown lines present) present (omega arith) (omega arith)
      ∙ ap (λ (a : ℕ). rows_from lines a (present - first_shown lines present)) begin

  -- they are no more than may be shown
  few-rows : (present : ℕ) → rows_before lines present ≡ keep_last longest_window (rows_before lines present)
  few-rows present =
      let size : length (rows_before lines present) ≡ present - first_shown lines present = length-map-range_with_len row (first_shown lines present) (present - first_shown lines present) in
      let all : length (rows_before lines present) - longest_window ≡ 0 = omega arith in
      ap (λ (k : ℕ). drop k (rows_before lines present)) (sym all)

-- ---- alarms

module _ (rule : Rule) where
  abbrev with_judged : List Bool → KeptAlarm
  with_judged judged = record { rule = rule; judged = judged }

  told-more : (rows : List Row) (row : Row) → with_minute (told_alarm rows rule) row ≡ told_alarm (rows ++ row ∷ []) rule
  told-more rows row = ap with_judged (judged-more rule rows row)

  told-agree : (rows more : List Row) → keep_last rule.minutes rows ≡ keep_last rule.minutes more → told_alarm rows rule ≡ told_alarm more rule
  told-agree rows more same =
      ap with_judged (kept-map rule rows ∙ ap (λ (rs : List Row). map (is_breach rule) rs) same ∙ sym (kept-map rule more))

  told-none : new_alarm rule ≡ told_alarm [] rule
  told-none = ap with_judged (kept-none rule.minutes)

-- ---- a queue that is opened, and one line more

opened-flows : (here : Bool) (minute : ℕ) → cond here (capped (added (minute_flows content_size [] minute) no_flows)) (minute_flows content_size [] minute) ≡ no_flows
opened-flows true minute = ap (λ (f : Flows). capped (added f no_flows)) (minute_flows-none content_size minute) ∙ minute_flows-none content_size minute
opened-flows false minute = minute_flows-none content_size minute

pub watch-opened : (at uid : ℕ) (settings : QueueSettings) (rules : List Rule) (w : Watch) → w.window ≡ opened_at (minute_of at) → w.alarms.items ≡ map new_alarm rules → All (λ rule. rule.minutes ≤ longest_window) rules
    → IsWatchAt (record { at = at; event = Opened uid settings } ∷ []) (minute_of at) rules w
watch-opened at uid settings rules w window alarms allowed =
    let lines : List (Entry ContentText) = record { at = at; event = Opened uid settings } ∷ [] in
    let none : minute_of at - first_shown lines (minute_of at) ≡ 0 = omega arith in
    let rows : [] ≡ rows_before lines (minute_of at) = ap (λ (n : ℕ). rows_from lines (first_shown lines (minute_of at)) n) (sym none) in
    record {
      minute = ap (λ k. k.minute) window;
      rows = ap (λ k. k.rows) window ∙ rows;
      current = ap (λ k. k.current) window ∙ sym (minute_flows-push content_size [] (record { at = at; event = Opened uid settings }) (minute_of at) ∙ opened-flows (eqb (minute_of at) (minute_of at)) (minute_of at));
      alarms = alarms ∙ map_agree new_alarm (told_alarm []) (λ rule. told-none rule) rules ∙ ap (λ (rs : List Row). map (told_alarm rs) rules) rows;
      allowed = allowed;
    }

module _ (q : QueueHistory) (event : Event ContentText) (sound : IsSound q.lines q.clock) (alone : StandsAlone event) where
  abbrev entry : Entry ContentText
  entry = record { at = q.clock; event = event }

  abbrev more : List (Entry ContentText)
  more = q.lines ++ entry ∷ []

  abbrev present : ℕ
  present = minute_of q.clock

  first-same : first_shown more present ≡ first_shown q.lines present
  first-same = ap (λ (created : ℕ). max (minute_of created) (present - longest_window)) (created_time-push q.lines entry sound.begun)

  pub rows-same : rows_before more present ≡ rows_before q.lines present
  rows-same =
      ap (λ (first : ℕ). rows_from more first (present - first)) first-same
      ∙ range-alike (λ m. metric_row content_size more m) (λ m. metric_row content_size q.lines m) (first_shown q.lines present) (present - first_shown q.lines present)
      (λ m low high. metric_row-later content_size q.lines entry m alone (omega arith))

  pub watch-pushed : (rules : List Rule) (w v : Watch) → IsWatchAt q.lines present rules w
      → v.window ≡ record w.window { current = capped (added w.window.current (flows_of content_size event)) } → v.alarms ≡ w.alarms → IsWatchAt more present rules v
  watch-pushed rules w v is window alarms =
      let here : eqb present present ≡ true = grind (arith, nat_tests) in
      record {
        minute = ap (λ k. k.minute) window ∙ is.minute;
        rows = ap (λ k. k.rows) window ∙ is.rows ∙ sym rows-same;
        current =
            ap (λ k. k.current) window ∙ ap (λ (f : Flows). capped (added f (flows_of content_size event))) is.current
            ∙ sym (minute_flows-push content_size q.lines entry present ∙ rw here refl);
        alarms = ap (λ a. a.items) alarms ∙ is.alarms ∙ ap (λ (rs : List Row). map (told_alarm rs) rules) (sym rows-same);
        allowed = is.allowed;
      }

-- ---- minutes that end

module _ (q : QueueHistory) (sound : IsSound q.lines q.clock) (first : ℕ) (before : List Row) where
  abbrev until : ℕ → List Row
  until minute = rows_from q.lines first (minute - first)

  until-more : (minute : ℕ) → first ≤ minute → until minute ++ metric_row content_size q.lines minute ∷ [] ≡ until (minute + 1)
  until-more minute begun =
      let next : (minute + 1) - first ≡ (minute - first) + 1 = omega arith in
      sym (ap (λ (n : ℕ). rows_from q.lines first n) next ∙ map-range_with_len_more (λ m. metric_row content_size q.lines m) first (minute - first) minute (omega arith))

  -- the row of a minute that ends
  ended-row : (w : KeptRows) (gauges : Gauges) → q.clock < minute_end w.minute → w.current ≡ minute_flows content_size q.lines w.minute → gauges ≡ gauges_of q.lines (minute_end w.minute - 1)
      → current_row w gauges ≡ metric_row content_size q.lines w.minute
  ended-row w gauges late current counted =
      row-parts w.minute w.current (minute_flows content_size q.lines w.minute) gauges (gauges_of (entries_until q.lines w.minute) (minute_end w.minute - 1)) current
      (counted ∙ ap (λ (es : List (Entry ContentText)). gauges_of es (minute_end w.minute - 1)) (sym (all-before 0 q.clock (minute_end w.minute) q.lines sound.ordered late)))
      ∙ sym (row-told_now q.lines q.clock w.minute sound (omega (arith, late)))

  pub minute-ended : (x y : MessageIndex) (w v : Watch) (gauges : Gauges) → IsPassing q first before x w → IsIndexOf q.lines (minute_end w.window.minute - 1) y → w.window.minute < greatest
      → gauges ≡ gauges_of q.lines (minute_end w.window.minute - 1) → v.window ≡ with_closed w.window gauges → v.alarms.items ≡ map (λ alarm. with_minute alarm (current_row w.window gauges)) w.alarms.items
      → IsPassing q first before y v
  minute-ended x y w v gauges is index small counted window alarms =
      let minute : ℕ = w.window.minute in
      let late : q.clock < minute_end minute = is.lasting in
      let may : nat_lt minute greatest ≡ true = grind (arith, nat_tests) in
      let row : current_row w.window gauges ≡ metric_row content_size q.lines minute = ended-row w.window gauges late is.current counted in
      let closed : v.window ≡ (let k : KeptRows = record { rows = keep_last longest_window (w.window.rows ++ current_row w.window gauges ∷ []); minute = minute + 1; current = no_flows } in k) = window ∙ rw may refl in
      let next : v.window.minute ≡ minute + 1 = ap (λ k. k.minute) closed in
      record {
        since = minute_end minute - 1;
        reached = omega (arith, late);
        early = omega (arith, next);
        lasting = omega (arith, next, late);
        index = index;
        begun = omega (arith, next, is.begun);
        rows =
            ap (λ k. k.rows) closed
            ∙ ap (λ (rs : List Row). keep_last longest_window (rs ++ current_row w.window gauges ∷ [])) is.rows
            ∙ keep_last-again longest_window (until minute) (current_row w.window gauges)
            ∙ ap (λ (r : Row). keep_last longest_window (until minute ++ r ∷ [])) row
            ∙ ap (keep_last longest_window) (until-more minute is.begun)
            ∙ ap (λ (m : ℕ). keep_last longest_window (until m)) (sym next);
        current = ap (λ k. k.current) closed ∙ sym (flows-none q v.window.minute sound (omega (arith, next, late)));
        alarms =
            alarms
            ∙ ap (map (λ alarm. with_minute alarm (current_row w.window gauges))) is.alarms
            ∙ map-twice (told_alarm (before ++ until minute)) (λ alarm. with_minute alarm (current_row w.window gauges)) q.rules
            ∙ map_agree (λ rule. with_minute (told_alarm (before ++ until minute) rule) (current_row w.window gauges)) (told_alarm ((before ++ until minute) ++ current_row w.window gauges ∷ []))
            (λ rule. told-more rule (before ++ until minute) (current_row w.window gauges)) q.rules
            ∙ ap (λ (rs : List Row). map (told_alarm rs) q.rules)
            (ap (λ (r : Row). (before ++ until minute) ++ r ∷ []) row
            ∙ append_assoc before (until minute) (metric_row content_size q.lines minute ∷ [])
            ∙ ap (λ (rs : List Row). before ++ rs) (until-more minute is.begun)
            ∙ ap (λ (m : ℕ). before ++ until m) (sym next));
      }

  -- a minute up to which all have ended lasts, where nothing but the last rows counts of those that went before
  pub passing-done : (present : ℕ) (x : MessageIndex) (w : Watch) → IsPassing q first before x w → w.window.minute ≡ present → All (λ rule. rule.minutes ≤ longest_window) q.rules
      → first_shown q.lines present ≡ max first (present - longest_window) → ((n : ℕ) → n ≤ longest_window → keep_last n (before ++ until present) ≡ keep_last n (until present)) → IsWatchAt q.lines present q.rules w
  passing-done present x w is here allowed start enough =
      let shown : keep_last longest_window (until present) ≡ rows_before q.lines present = rows-shown q.lines first present (omega (arith, is.begun, here)) start in
      record {
        minute = here;
        rows = is.rows ∙ ap (λ (m : ℕ). keep_last longest_window (until m)) here ∙ shown;
        current = is.current ∙ ap (λ (m : ℕ). minute_flows content_size q.lines m) here;
        alarms =
            is.alarms
            ∙ ap (λ (m : ℕ). map (told_alarm (before ++ until m)) q.rules) here
            ∙ alike-where (λ rule. rule.minutes ≤ longest_window) (told_alarm (before ++ until present)) (told_alarm (rows_before q.lines present)) q.rules allowed
            (λ rule few.
            told-agree rule (before ++ until present) (rows_before q.lines present)
            (enough rule.minutes few ∙ sym (kept-twice rule.minutes longest_window (until present) few) ∙ ap (keep_last rule.minutes) shown));
        allowed = allowed;
      }

-- ---- the clock moves

module _ (q : QueueHistory) (sound : IsSound q.lines q.clock) (x : MessageIndex) (w : Watch) (index : IsIndexOf q.lines q.clock x) (is : IsWatchAt q.lines (minute_of q.clock) q.rules w) where
  created-before : minute_of (created_time q.lines) ≤ minute_of q.clock
  created-before = let early = sound.early in omega arith

  -- minute by minute
  pub passing-from : IsPassing q (first_shown q.lines (minute_of q.clock)) [] x w
  passing-from =
      let minute = is.minute in
      let created = created-before in
      record {
        since = q.clock;
        reached = omega arith;
        early = omega arith;
        lasting = omega (arith, minute);
        index = index;
        begun = omega (arith, minute, created);
        rows = is.rows ∙ few-rows q.lines (minute_of q.clock) ∙ ap (λ (m : ℕ). keep_last longest_window (rows_from q.lines (first_shown q.lines (minute_of q.clock)) (m - first_shown q.lines (minute_of q.clock)))) (sym minute);
        current = is.current ∙ ap (λ (m : ℕ). minute_flows content_size q.lines m) (sym minute);
        alarms = is.alarms ∙ ap (λ (m : ℕ). map (told_alarm (rows_from q.lines (first_shown q.lines (minute_of q.clock)) (m - first_shown q.lines (minute_of q.clock)))) q.rules) (sym minute);
      }

  pub watch-passed : (present : ℕ) (y : MessageIndex) (v : Watch) → minute_of q.clock ≤ present → IsPassing q (first_shown q.lines (minute_of q.clock)) [] y v → v.window.minute ≡ present
      → IsWatchAt q.lines present q.rules v
  watch-passed present y v later passing here =
      let created = created-before in
      passing-done q sound (first_shown q.lines (minute_of q.clock)) [] present y v passing here is.allowed (omega (arith, created)) (λ n few. refl)

  -- behind a jump
  pub passing-behind : (minute : ℕ) (v : Watch) → minute_of q.clock < minute → v.window ≡ opened_at minute → v.alarms ≡ w.alarms → IsPassing q minute (rows_before q.lines (minute_of q.clock)) x v
  passing-behind minute v later window alarms =
      let here : v.window.minute ≡ minute = ap (λ k. k.minute) window in
      let none : v.window.minute - minute ≡ 0 = omega (arith, here) in
      record {
        since = q.clock;
        reached = omega arith;
        early = omega arith;
        lasting = omega (arith, here);
        index = index;
        begun = omega (arith, here);
        rows = ap (λ k. k.rows) window ∙ kept-none longest_window ∙ ap (λ (n : ℕ). keep_last longest_window (rows_from q.lines minute n)) (sym none);
        current = ap (λ k. k.current) window ∙ sym (flows-none q v.window.minute sound (omega (arith, here)));
        alarms =
            ap (λ a. a.items) alarms ∙ is.alarms
            ∙ ap (λ (rs : List Row). map (told_alarm rs) q.rules) (sym (append-nil (rows_before q.lines (minute_of q.clock))))
            ∙ ap (λ (n : ℕ). map (told_alarm (rows_before q.lines (minute_of q.clock) ++ rows_from q.lines minute n)) q.rules) (sym none);
      }

  pub watch-jumped : (present : ℕ) (y : MessageIndex) (v : Watch) → minute_of q.clock + longest_window < present → IsPassing q (present - longest_window) (rows_before q.lines (minute_of q.clock)) y v
      → v.window.minute ≡ present → IsWatchAt q.lines present q.rules v
  watch-jumped present y v later passing here =
      let created = created-before in
      let size : length (rows_from q.lines (present - longest_window) (present - (present - longest_window))) ≡ present - (present - longest_window) =
      length-map-range_with_len (λ m. metric_row content_size q.lines m) (present - longest_window) (present - (present - longest_window)) in
      passing-done q sound (present - longest_window) (rows_before q.lines (minute_of q.clock)) present y v passing here is.allowed (omega (arith, created))
      (λ n few. keep_last-behind n (rows_before q.lines (minute_of q.clock)) (rows_from q.lines (present - longest_window) (present - (present - longest_window))) (omega arith))

-- ---- what is read off

-- the state of an alarm is that of the rows of the window
module _ (lines : List (Entry ContentText)) (clock : ℕ) (early : created_time lines ≤ clock) where
  pub state-told : (rule : Rule) → rule.minutes ≤ longest_window → kept_state (told_alarm (rows_before lines (minute_of clock)) rule) ≡ alarm_state_in content_size lines clock rule
  state-told rule few =
      let rows : List Row = rows_before lines (minute_of clock) in
      let size : length rows ≡ minute_of clock - first_shown lines (minute_of clock) =
      length-map-range_with_len (λ m. metric_row content_size lines m) (first_shown lines (minute_of clock)) (minute_of clock - first_shown lines (minute_of clock)) in
      state-kept rule rows
      ∙ elim (cases_lt (complete_minutes lines clock) rule.minutes) [
        | inl below ↦
            let a : nat_lt (length rows) rule.minutes ≡ true = grind (arith, nat_tests) in
            let b : nat_lt (complete_minutes lines clock) rule.minutes ≡ true = grind (arith, nat_tests) in
            rw (a, b) refl
        | inr enough ↦
            let a : nat_lt (length rows) rule.minutes ≡ false = grind (arith, nat_tests) in
            let b : nat_lt (complete_minutes lines clock) rule.minutes ≡ false = grind (arith, nat_tests) in
            rw (a, b) (ap (λ (rs : List Row). cond (nat_le rule.breaches (breaches_in rule rs)) Alarm Okay) (sym (last_of_window lines clock rule few enough)))
      ]

module _ (lines : List (Entry ContentText)) (clock : ℕ) (rules : List Rule) (w : Watch) (is : IsWatchAt lines (minute_of clock) rules w) (early : created_time lines ≤ clock) where
  pub row-told : (minute : ℕ) → row_in w.window.rows minute ≡ row_of content_size lines clock minute
  row-told minute =
      let first : ℕ = first_shown lines (minute_of clock) in
      let end : first + (minute_of clock - first) ≡ minute_of clock = omega arith in
      ap (λ (rs : List Row). row_in rs minute) is.rows
      ∙ row_in-from (λ m. metric_row content_size lines m) (λ m. metric_row-minute content_size lines m) first (minute_of clock - first) minute
      ∙ ap (λ (n : ℕ). cond (nat_le first minute && nat_lt minute n) (Some (metric_row content_size lines minute)) None) end

  pub states-told : map (λ alarm. kept_state alarm) w.alarms.items ≡ map (λ rule. alarm_state_in content_size lines clock rule) rules
  states-told =
      ap (map (λ alarm. kept_state alarm)) is.alarms
      ∙ map-twice (told_alarm (rows_before lines (minute_of clock))) (λ alarm. kept_state alarm) rules
      ∙ alike-where (λ rule. rule.minutes ≤ longest_window) (λ rule. kept_state (told_alarm (rows_before lines (minute_of clock)) rule)) (λ rule. alarm_state_in content_size lines clock rule) rules is.allowed
      (λ rule few. state-told lines clock early rule few)

  pub one-told : (place : ℕ) → option_map (λ alarm. kept_state alarm) (slice_get w.alarms.items place) ≡ option_map (λ rule. alarm_state_in content_size lines clock rule) (slice_get rules place)
  one-told place =
      sym (slice_get-map (λ alarm. kept_state alarm) w.alarms.items place)
      ∙ ap (λ (states : List AlarmState). slice_get states place) states-told
      ∙ slice_get-map (λ rule. alarm_state_in content_size lines clock rule) rules place
