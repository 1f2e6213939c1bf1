-- Metric rows: which entries change none of them, what they need of a content, and what they add up to.
use Rattle.std.proofs.Common.{◌≡◌, ℕ, zero, suc, ◌+◌, ◌-◌, ◌<◌, ◌≤◌, Bool, true, false, cond, eqb, List, [], ◌∷◌, ◌++◌, map, Option, Some, None, Result, refl, sym, ap, ◌∙◌, subst, arith}
use Rattle.std.specs.Prelude.{IfSome, nat_le, nat_lt, unwrap_or}
use Rattle.std.specs.Option.{option_map_or}
use Rattle.std.proofs.lemmas.Grind.{flat_map-append}
use Rattle.std.specs.List.{All, range_with_len}
use Rattle.std.proofs.lemmas.List.{append-nil}
use Rattle.std.proofs.lemmas.List.Elements.{filter-append, All-nil, All-cons}
use Rattle.std.proofs.lemmas.List.FromFn.{map-range_with_len_more}
use Rattle.std.proofs.lemmas.Bool.{and_parts, leb-true}
use Rattle.std.proofs.lemmas.Bool.Decides.{nat_tests}
use Rattle.queue_config.specs.AlarmRules.{Rule}
use Rattle.message.specs.declared.fault.Fault.{Fault}
use Rattle.message.specs.Content.{ContentText, content_size}
use Rattle.journal.specs.declared.entry.Entry.{Entry}
use Rattle.journal.specs.declared.entry.Event.{Event}
use Rattle.journal.specs.Mark.{mark_of}
use Rattle.metric_window.specs.declared.flows.Flows.{Flows}
use Rattle.metric_window.specs.declared.gauges.Gauges.{Gauges}
use Rattle.metric_window.specs.declared.row.Row.{Row}
use Rattle.metric_window.specs.Flows.{added, total, capped, minute_of, entries_in, flows_total, minute_flows}
use Rattle.metric_window.specs.KeptRows.{row_in}
use Rattle.metric_window.specs.Window.{longest_window, window_start, window_end, is_in_window}
use Rattle.metric_window.proofs.FlowLemmas.{added-none, added-assoc, added-comm, capped-added, total-append}
use Rattle.metric_window.proofs.MinuteLemmas.{minute_flows-push, minute_flows-marks, minutes-total}
use Rattle.alarm.specs.AlarmState.{alarm_state_of}
use Rattle.queue_core.specs.declared.command.Command.{Command}
use Rattle.queue_core.specs.declared.command.TimedCommand.{TimedCommand}
use Rattle.queue_core.specs.declared.reply.Reply.{Reply}
use Rattle.queue_core.specs.Messages.{Since, effect_of, opens, created_time, rows_known}
use Rattle.queue_core.specs.States.{gauges_of}
use Rattle.queue_core.specs.Metrics.{minute_end, entries_until, minute_gauges, told_row, metric_row, current_flows, row_of, window_rows, complete_minutes, last_rows, alarm_state_in}
use Rattle.queue_core.specs.Queue.{QueueHistory, at_moment, rebased, rebased_where, rebases, outcome_in, outcome_of, with_event, with_optional_event}
use Rattle.queue_core.specs.Legal.{IsOrdered, IsOpening, IsWhole, BeginsAndFollows}
use Rattle.queue_core.specs.Run.{NeverRebases, after_all}
use Rattle.queue_core.proofs.LastingLemmas.{lasts_all, lasts_in_place}
use Rattle.queue_core.proofs.CauseLemmas.{IsAbout, about-outcome}
use Rattle.queue_core.proofs.checkpoints.GoneLemmas.{created-push, row_based}
use Rattle.queue_core.proofs.Scans.{StandsAlone, StandAlone}
use Rattle.queue_core.proofs.AloneLemmas.{alone_begun, row-alone}
use Rattle.queue_core.proofs.commands.LegalLemmas.{not_after}
use Rattle.queue_core.proofs.MarkLemmas.{map_agree, created_time-marks, gauges_of-marks, rows_known-marks}

pub row-parts : (minute : ℕ) (f g : Flows) (a b : Gauges) → f ≡ g → a ≡ b
    → (let r : Row = record { minute = minute; flows = f; gauges = a } in r) ≡ record { minute = minute; flows = g; gauges = b }
row-parts minute f g a b p q = rw (p, q) refl

-- ---- what comes after a minute

pub not_before : (at end : ℕ) → end ≤ at → nat_lt at end ≡ false
not_before at end h = grind (arith, nat_tests)

later_minute : (at minute : ℕ) → minute_end minute ≤ at → eqb (minute_of at) minute ≡ false
later_minute at minute h =
    let after : minute < minute_of at = omega arith in
    grind (arith, nat_tests)

module _ {C : Type 0} (size : C → ℕ) (lines : List (Entry C)) (e : Entry C) (minute : ℕ) (alone : StandsAlone e.event) (later : minute_end minute ≤ e.at) where
  flows-later : minute_flows size (lines ++ e ∷ []) minute ≡ minute_flows size lines minute
  flows-later = minute_flows-push size lines e minute ∙ rw (later_minute e.at minute later) refl

  until-later : entries_until (lines ++ e ∷ []) minute ≡ entries_until lines minute
  until-later =
      filter-append (λ (x : Entry C). nat_lt x.at (minute_end minute)) lines (e ∷ [])
      ∙ ap (λ (b : Bool). entries_until lines minute ++ cond b (e ∷ []) []) (not_before e.at (minute_end minute) later)
      ∙ append-nil (entries_until lines minute)

  told-later : told_row size (lines ++ e ∷ []) minute ≡ told_row size lines minute
  told-later =
      row-parts minute (minute_flows size (lines ++ e ∷ []) minute) (minute_flows size lines minute) (minute_gauges (lines ++ e ∷ []) minute) (minute_gauges lines minute)
      flows-later (ap (λ (es : List (Entry C)). gauges_of es (minute_end minute - 1)) until-later)

  known-later : rows_known (lines ++ e ∷ []) ≡ rows_known lines
  known-later =
      let known : Option Since → List Row = λ s. option_map_or (λ (x : Since). x.rows) s [] in
      flat_map-append (λ (x : Entry C). known (effect_of x.event).since) lines (e ∷ [])
      ∙ ap (λ (s : Option Since). rows_known lines ++ (known s ++ [])) alone
      ∙ append-nil (rows_known lines)

  -- an entry after a minute does not change its row
  pub metric_row-later : metric_row size (lines ++ e ∷ []) minute ≡ metric_row size lines minute
  metric_row-later = λ i. unwrap_or (row_in (known-later i) minute) (told-later i)

-- what lasts of a row whose minute is over: as long as it is shown
record IsShownAs (lines : List (Entry ContentText)) (minute : ℕ) (r : QueueHistory) : Type 0 where
  over : minute_end minute ≤ r.clock
  created : created_time r.lines ≡ created_time lines
  same : window_start (created_time lines) r.clock ≤ minute → metric_row content_size r.lines minute ≡ metric_row content_size lines minute

in_window : (created clock minute : ℕ) → is_in_window created clock minute ≡ true → (window_start created clock ≤ minute) × (minute < window_end clock)
in_window created clock minute h =
    let parts = and_parts (nat_le (window_start created clock) minute) (nat_lt minute (window_end clock)) h in
    let until = parts.1 in
    (leb-true (window_start created clock) minute parts.0, grind (arith, nat_tests))

shown_later : (lines : List (Entry ContentText)) (minute : ℕ) (r : QueueHistory) (at : ℕ) → IsShownAs lines minute r → IsShownAs lines minute (at_moment r at)
shown_later lines minute r at p = record {
  over = omega (arith, p.over);
  created = p.created;
  same = λ low. p.same (omega (arith, low));
}

shown_more : (lines : List (Entry ContentText)) (minute : ℕ) (r : QueueHistory) (event : Event ContentText) → opens event ≡ false → StandsAlone event → IsShownAs lines minute r
    → IsShownAs lines minute (with_event r event)
shown_more lines minute r event unopened alone p =
    let e : Entry ContentText = record { at = r.clock; event = event } in
    record {
      over = p.over;
      created = created-push r.lines e unopened alone ∙ p.created;
      same = λ low. metric_row-later content_size r.lines e minute alone p.over ∙ p.same low;
    }

shown_based : (lines : List (Entry ContentText)) (minute : ℕ) (r : QueueHistory) → IsShownAs lines minute r → IsShownAs lines minute (rebased r)
shown_based lines minute r p = record {
  over = p.over;
  created = p.created;
  same = λ low. row_based r.uid r.lines r.clock minute (subst (λ (created : ℕ). window_start created r.clock ≤ minute) (sym p.created) low) (omega (arith, p.over)) ∙ p.same low;
}

pub rows_stay : (q : QueueHistory) (steps : List TimedCommand) (answers : List (Result Reply Fault)) (minute : ℕ) → minute_end minute ≤ q.clock
    → is_in_window (created_time (after_all q steps answers).lines) (after_all q steps answers).clock minute ≡ true
    → metric_row content_size (after_all q steps answers).lines minute ≡ metric_row content_size q.lines minute
rows_stay q steps answers minute over shown =
    let p : IsShownAs q.lines minute (after_all q steps answers) =
    lasts_all (IsShownAs q.lines minute)
    (record { later = λ r at p. shown_later q.lines minute r at p; more = λ r event o alone p. shown_more q.lines minute r event o alone p })
    (λ r p. shown_based q.lines minute r p) q steps answers
    (record { over = over; created = refl; same = λ low. refl }) in
    p.same
    (subst (λ (created : ℕ). window_start created (after_all q steps answers).clock ≤ minute) p.created
    (in_window (created_time (after_all q steps answers).lines) (after_all q steps answers).clock minute shown).0)

pub rows_stay_in_place : (q : QueueHistory) (steps : List TimedCommand) (answers : List (Result Reply Fault)) (minute : ℕ) → NeverRebases q steps answers → minute_end minute ≤ q.clock
    → metric_row content_size (after_all q steps answers).lines minute ≡ metric_row content_size q.lines minute
rows_stay_in_place q steps answers minute never over =
    (lasts_in_place (λ r. (minute_end minute ≤ r.clock) × (metric_row content_size r.lines minute ≡ metric_row content_size q.lines minute))
    (record {
      later = λ r at p. (omega (arith, p.0), p.1);
      more = λ r event o alone p. (p.0, metric_row-later content_size r.lines (record { at = r.clock; event = event }) minute alone p.0 ∙ p.1);
    }) q steps answers never (over, refl)).1

-- ---- what is shown behind a checkpoint and behind a command

rows-agree : (f g : ℕ → Row) (first count : ℕ) → ((minute : ℕ) → first ≤ minute → minute < first + count → f minute ≡ g minute) → map f (range_with_len first count) ≡ map g (range_with_len first count)
rows-agree f g first zero same = refl
rows-agree f g first (suc count) same =
    ap (λ (row : Row). row ∷ map f (range_with_len (first + 1) count)) (same first (omega arith) (omega arith))
    ∙ ap (λ (rows : List Row). g first ∷ rows) (rows-agree f g (first + 1) count (λ minute low high. same minute (omega arith) (omega arith)))

-- a checkpoint keeps the window
pub window_based : (q : QueueHistory) → window_rows content_size (rebased q).lines q.clock ≡ window_rows content_size q.lines q.clock
window_based q =
    let start : ℕ = window_start (created_time q.lines) q.clock in
    rows-agree (λ m. metric_row content_size (rebased q).lines m) (λ m. metric_row content_size q.lines m) start (window_end q.clock - start)
    (λ minute low high. row_based q.uid q.lines q.clock minute low (omega (arith, low, high)))

shown-same : (one other : List (Entry ContentText)) (clock minute : ℕ) → created_time one ≡ created_time other
    → (window_start (created_time other) clock ≤ minute → minute < window_end clock → metric_row content_size one minute ≡ metric_row content_size other minute)
    → row_of content_size one clock minute ≡ row_of content_size other clock minute
shown-same one other clock minute created same =
    ap (λ (c : ℕ). cond (is_in_window c clock minute) (Some (metric_row content_size one minute)) None) created
    ∙ by_test (is_in_window (created_time other) clock minute) refl
  where
    by_test : (b : Bool) → is_in_window (created_time other) clock minute ≡ b → cond b (Some (metric_row content_size one minute)) None ≡ cond b (Some (metric_row content_size other minute)) None
    by_test true e = let within = in_window (created_time other) clock minute e in ap (λ (r : Row). Some r) (same within.0 within.1)
    by_test false e = refl

shown-there : (b : Bool) (q : QueueHistory) (minute : ℕ) → row_of content_size (rebased_where b q).lines q.clock minute ≡ row_of content_size q.lines q.clock minute
shown-there true q minute = shown-same (rebased q).lines q.lines q.clock minute refl (row_based q.uid q.lines q.clock minute)
shown-there false q minute = refl

shown-behind : (q : QueueHistory) (event : Option (Event ContentText)) (minute : ℕ) → IfSome event (IsAbout q)
    → row_of content_size (with_optional_event q event).lines q.clock minute ≡ row_of content_size q.lines q.clock minute
shown-behind q None minute h = refl
shown-behind q (Some event) minute h =
    let e : Entry ContentText = record { at = q.clock; event = event } in
    shown-same (q.lines ++ e ∷ []) q.lines q.clock minute (created-push q.lines e h.unopened h.alone)
    (λ low until. metric_row-later content_size q.lines e minute h.alone (omega (arith, until)))

clock-there : (b : Bool) (q : QueueHistory) → (rebased_where b q).clock ≡ q.clock
clock-there true q = refl
clock-there false q = refl

-- the rows that are shown are the same
pub rows_shown : (q : QueueHistory) (command : Command) (minute : ℕ)
    → row_of content_size (with_optional_event (rebased_where (rebases q command) q) (outcome_of q command).event).lines q.clock minute ≡ row_of content_size q.lines q.clock minute
rows_shown q command minute =
    let there : QueueHistory = rebased_where (rebases q command) q in
    subst (λ (clock : ℕ). row_of content_size (with_optional_event there (outcome_in there command).event).lines clock minute ≡ row_of content_size there.lines clock minute)
    (clock-there (rebases q command) q) (shown-behind there (outcome_in there command).event minute (about-outcome there command))
    ∙ shown-there (rebases q command) q minute

-- ---- without contents

kept-marks : (b : Bool) (e : Entry ContentText) (marks : List (Entry ℕ)) (es : List (Entry ContentText)) → marks ≡ map (mark_of content_size) es
    → cond b (mark_of content_size e ∷ marks) marks ≡ map (mark_of content_size) (cond b (e ∷ es) es)
kept-marks true e marks es same = ap (λ (xs : List (Entry ℕ)). mark_of content_size e ∷ xs) same
kept-marks false e marks es same = same

until-marks : (lines : List (Entry ContentText)) (minute : ℕ) → entries_until (map (mark_of content_size) lines) minute ≡ map (mark_of content_size) (entries_until lines minute)
until-marks [] minute = refl
until-marks (e ∷ es) minute = kept-marks (nat_lt e.at (minute_end minute)) e (entries_until (map (mark_of content_size) es) minute) (entries_until es minute) (until-marks es minute)

told-marks : (lines : List (Entry ContentText)) (minute : ℕ) → told_row (λ n. n) (map (mark_of content_size) lines) minute ≡ told_row content_size lines minute
told-marks lines minute =
    row-parts minute _ _ _ _ (minute_flows-marks content_size lines minute)
    (ap (λ (es : List (Entry ℕ)). gauges_of es (minute_end minute - 1)) (until-marks lines minute) ∙ gauges_of-marks (entries_until lines minute) (minute_end minute - 1))

pub metric_row-marks : (lines : List (Entry ContentText)) (minute : ℕ) → metric_row (λ n. n) (map (mark_of content_size) lines) minute ≡ metric_row content_size lines minute
metric_row-marks lines minute = λ i. unwrap_or (row_in (rows_known-marks lines i) minute) (told-marks lines minute i)

-- so do rows of any minutes
rows-marks : (lines : List (Entry ContentText)) (minutes : List ℕ)
    → map (λ m. metric_row (λ n. n) (map (mark_of content_size) lines) m) minutes ≡ map (λ m. metric_row content_size lines m) minutes
rows-marks lines minutes = map_agree (λ m. metric_row (λ n. n) (map (mark_of content_size) lines) m) (λ m. metric_row content_size lines m) (λ m. metric_row-marks lines m) minutes

pub window_rows-marks : (lines : List (Entry ContentText)) (clock : ℕ) → window_rows (λ n. n) (map (mark_of content_size) lines) clock ≡ window_rows content_size lines clock
window_rows-marks lines clock =
    ap (λ (created : ℕ). map (λ m. metric_row (λ n. n) (map (mark_of content_size) lines) m) (range_with_len (window_start created clock) (window_end clock - window_start created clock))) (created_time-marks lines)
    ∙ rows-marks lines (range_with_len (window_start (created_time lines) clock) (window_end clock - window_start (created_time lines) clock))

pub alarm_state_in-marks : (lines : List (Entry ContentText)) (clock : ℕ) (rule : Rule)
    → alarm_state_in (λ n. n) (map (mark_of content_size) lines) clock rule ≡ alarm_state_in content_size lines clock rule
alarm_state_in-marks lines clock rule =
    ap (λ (created : ℕ). alarm_state_of rule (window_end clock - minute_of created) (last_rows (λ n. n) (map (mark_of content_size) lines) clock rule.minutes)) (created_time-marks lines)
    ∙ ap (alarm_state_of rule (complete_minutes lines clock)) (rows-marks lines (range_with_len (window_end clock - rule.minutes) rule.minutes))

-- ---- what the rows add up to

-- numbers that were capped one by one add up alike, where the sum is capped
capped-total : (f : ℕ → Flows) (ms : List ℕ) (x : Flows) → capped (added (total (map (λ m. capped (f m)) ms)) x) ≡ capped (added (total (map f ms)) x)
capped-total f [] x = refl
capped-total f (m ∷ ms) x =
    let rest : Flows = total (map (λ m. capped (f m)) ms) in
    let all : Flows = total (map f ms) in
    ap capped (added-assoc (capped (f m)) rest x)
    ∙ capped-added (f m) (added rest x)
    ∙ ap capped (added-comm (f m) (added rest x) ∙ added-assoc rest x (f m))
    ∙ capped-total f ms (added x (f m))
    ∙ ap capped (sym (added-assoc all x (f m)) ∙ added-comm (added all x) (f m) ∙ sym (added-assoc (f m) all x))

capped-both : (x y : Flows) → capped (added x (capped y)) ≡ capped (added x y)
capped-both x y = ap capped (added-comm x (capped y)) ∙ capped-added y x ∙ ap capped (added-comm y x)

rows-flows : (lines : List (Entry ContentText)) (ms : List ℕ) → StandAlone lines → map (λ r. r.flows) (map (λ m. metric_row content_size lines m) ms) ≡ map (λ m. minute_flows content_size lines m) ms
rows-flows lines [] alone = refl
rows-flows lines (m ∷ ms) alone = λ i. (row-alone content_size lines m alone i).flows ∷ rows-flows lines ms alone i

all_within : (first count from clock : ℕ) (lines : List (Entry ContentText)) → IsOrdered from lines clock → first ≤ minute_of from → minute_of clock < first + count
    → All (λ e. (first ≤ minute_of e.at) × (minute_of e.at < first + count)) lines
all_within first count from clock [] h low high = All-nil _
all_within first count from clock (e ∷ es) h low high =
    let here : first ≤ minute_of e.at = omega (arith, h.0) in
    let there : e.at ≤ clock = not_after e.at clock es h.1 in
    All-cons (λ (x : Entry ContentText). (first ≤ minute_of x.at) × (minute_of x.at < first + count)) e es (here, omega arith) (all_within first count e.at clock es h.1 here high)

-- the flows of the minutes from one on up to another
minutes-sum : (lines : List (Entry ContentText)) (first count : ℕ) → total (map (λ m. flows_total content_size (entries_in m lines)) (range_with_len first (count + 1)))
    ≡ added (total (map (λ m. flows_total content_size (entries_in m lines)) (range_with_len first count))) (flows_total content_size (entries_in (first + count) lines))
minutes-sum lines first count =
    ap total (map-range_with_len_more (λ m. flows_total content_size (entries_in m lines)) first count (first + count) refl)
    ∙ total-append (map (λ m. flows_total content_size (entries_in m lines)) (range_with_len first count)) (flows_total content_size (entries_in (first + count) lines) ∷ [])
    ∙ ap (added (total (map (λ m. flows_total content_size (entries_in m lines)) (range_with_len first count)))) (added-none _)

module _ (q : QueueHistory) (e : Entry ContentText) (es : List (Entry ContentText)) where
  abbrev first : ℕ
  first = minute_of e.at

  abbrev count : ℕ
  count = window_end q.clock - window_start e.at q.clock

  abbrev flows : ℕ → Flows
  flows m = flows_total content_size (entries_in m (e ∷ es))

  sum_of_rows : IsOrdered e.at es q.clock → window_end q.clock ≤ first + longest_window
      → capped (added (total (map (λ m. minute_flows content_size (e ∷ es) m) (range_with_len (window_start e.at q.clock) count))) (current_flows content_size (e ∷ es) q.clock))
      ≡ capped (flows_total content_size (e ∷ es))
  sum_of_rows ordered kept =
      let past : e.at ≤ q.clock = not_after e.at q.clock es ordered in
      let start : window_start e.at q.clock ≡ first = omega arith in
      let end : first + count ≡ minute_of q.clock = omega arith in
      let ordered_all : IsOrdered e.at (e ∷ es) q.clock = (omega arith, ordered) in
      capped-total flows (range_with_len (window_start e.at q.clock) count) (current_flows content_size (e ∷ es) q.clock)
      ∙ capped-both (total (map flows (range_with_len (window_start e.at q.clock) count))) (flows (minute_of q.clock))
      ∙ ap (λ (m : ℕ). capped (added (total (map flows (range_with_len m count))) (flows (minute_of q.clock)))) start
      ∙ ap (λ (m : ℕ). capped (added (total (map flows (range_with_len first count))) (flows m))) (sym end)
      ∙ ap capped (sym (minutes-sum (e ∷ es) first count))
      ∙ ap capped (minutes-total content_size first (count + 1) (e ∷ es) (all_within first (count + 1) e.at q.clock (e ∷ es) ordered_all (omega arith) (omega (arith, end))))

  opened_at : IsOpening q.uid e.event → created_time (e ∷ es) ≡ e.at
  opened_at o = rw (o.opened) refl

flows-sum : (q : QueueHistory) (lines : List (Entry ContentText)) → IsOrdered 0 lines q.clock → BeginsAndFollows q lines
    → window_end q.clock ≤ minute_of (created_time lines) + longest_window
    → capped (added (total (map (λ r. r.flows) (window_rows content_size lines q.clock))) (current_flows content_size lines q.clock)) ≡ capped (flows_total content_size lines)
flows-sum q [] ordered begins kept = absurd begins
flows-sum q (e ∷ es) ordered begins kept =
    let is : created_time (e ∷ es) ≡ e.at = opened_at q e es begins.0 in
    ap (λ (created : ℕ). capped (added (total (map (λ r. r.flows) (map (λ m. metric_row content_size (e ∷ es) m) (range_with_len (window_start created q.clock) (window_end q.clock - window_start created q.clock))))) (current_flows content_size (e ∷ es) q.clock))) is
    ∙ ap (λ (fs : List Flows). capped (added (total fs) (current_flows content_size (e ∷ es) q.clock))) (rows-flows (e ∷ es) (range_with_len (window_start e.at q.clock) (window_end q.clock - window_start e.at q.clock)) (alone_begun q (e ∷ es) begins))
    ∙ sum_of_rows q e es ordered.1 (subst (λ (created : ℕ). window_end q.clock ≤ minute_of created + longest_window) is kept)

pub flows_add : (q : QueueHistory) → IsWhole q → window_end q.clock ≤ minute_of (created_time q.lines) + longest_window
    → capped (added (total (map (λ r. r.flows) (window_rows content_size q.lines q.clock))) (current_flows content_size q.lines q.clock)) ≡ capped (flows_total content_size q.lines)
flows_add q legal kept = flows-sum q q.lines legal.ordered legal.caused kept
