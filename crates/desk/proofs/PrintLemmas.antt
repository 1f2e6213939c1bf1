-- Turns that are told, one after another.
use Rattle.std.proofs.Common.{◌≡◌, ◌⊎◌, inl, inr, ⊎_elim, ℕ, zero, suc, ◌+◌, ◌≤◌, max, Bool, true, false, not, ◌&&◌, List, [], ◌∷◌, ◌++◌, length, map, take, drop, Option, Some, None, Result, refl, sym, ap, ◌∙◌, subst, arith, append_assoc, append-nil, zero-le, if◌then◌else◌}
use Rattle.std.specs.Prelude.{nat_le}
use Rattle.std.proofs.lemmas.List.{map-append, length-map, length-append, take-append-drop, take-append-le, take_all}
use Rattle.std.proofs.lemmas.List.Sums.{sum_by-cons}
use Rattle.std.proofs.lemmas.Bool.{false≢true}
use Rattle.message.specs.declared.fault.Fault.{Fault}
use Rattle.message.specs.Content.{ContentText, content_size}
use Rattle.message.specs.Fault.{Meets, is_out_of_memory}
use Rattle.queue_config.specs.AlarmRules.{Rule}
use Rattle.journal.specs.declared.entry.Entry.{Entry}
use Rattle.journal.specs.declared.entry.Event.{Event}
use Rattle.journal.specs.declared.entry.Event.TheVariants.{Base}
use Rattle.journal.specs.Base.{mark_message}
use Rattle.journal.specs.Mark.{mark_event, mark_of}
use Rattle.journal.specs.Weight.{event_weight, weight_of}
use Rattle.metric_window.specs.Flows.{minute_of}
use Rattle.metric_window.proofs.MinuteLemmas.{minute_flows-marks}
use Rattle.queue_core.specs.declared.command.Command.{Command}
use Rattle.queue_core.specs.declared.command.Command.TheVariants.{FirstParcel}
use Rattle.queue_core.specs.declared.reply.Reply.{Reply}
use Rattle.queue_core.specs.States.{gauges_of}
use Rattle.queue_core.specs.Metrics.{current_flows, window_rows, alarm_state_in}
use Rattle.queue_core.specs.Queue.{QueueHistory, Outcome, is_at_limit, first_refusal, at_moment, rebased_where, leaves_clock, reached, outcome_of, outcome_at, with_optional_event, after_outcome, after_answer, IsExact, wants_room_alone, unless_some}
use Rattle.queue_core.specs.Legal.{IsLegal, AreCaused, BeginsAndFollows, GoesOn}
use Rattle.queue_core.proofs.Scans.{StandsAlone, StandAlone}
use Rattle.queue_core.proofs.AloneLemmas.{alone-caused, alone_begun}
use Rattle.desk.proofs.HistoryLemmas.{state_snoc, legal_snoc}
use Rattle.queue_core.proofs.MarkLemmas.{gauges_of-marks, map_agree}
use Rattle.queue_core.proofs.MetricLemmas.{window_rows-marks, alarm_state_in-marks}
use Rattle.desk.specs.declared.view.Call.{Call}
use Rattle.desk.specs.History.{IsAnswered, IsLegalHistory, call, state_of}
use Rattle.desk.specs.private.Held.{told_behind}
use Rattle.desk.specs.Printed.{TurnReport, marks_of, report_of, itself, is_base, begins_with_base, after_marks, HasBegunAnew, IsTurnBehind, GoOn, IsPublicationRecord, IsNextIn}
use Rattle.desk.specs.private.Printed.{joined, AreTold, IsPrinted}

-- a queue stays at its clock, where it is looked at from the beginning of time
max-zero : (n : ℕ) → max n 0 ≡ n
max-zero n = omega arith

pub unmoved : (q : QueueHistory) → at_moment q 0 ≡ q
unmoved q = ap (λ (clock : ℕ). record q { clock = clock }) (max-zero q.clock)

-- ---- a queue that has come to the moment of a call

max-twice : (n at : ℕ) → max (max n at) at ≡ max n at
max-twice n at = omega arith

come_again : (b : Bool) (q : QueueHistory) (at : ℕ) → (if b then (if b then q else at_moment q at) else at_moment (if b then q else at_moment q at) at) ≡ (if b then q else at_moment q at)
come_again true q at = refl
come_again false q at = ap (λ (clock : ℕ). record q { clock = clock }) (max-twice q.clock at)

-- comes to it again, and is the same
pub reached_again : (q : QueueHistory) (at : ℕ) (command : Command) → reached (reached q at command) at command ≡ reached q at command
reached_again q at command = come_again (leaves_clock command) q at

pub left_again : {T : Type 0} (q : QueueHistory) (at : ℕ) (command : Command) (answer : Result T Fault) → after_answer (reached q at command) at command answer ≡ after_answer q at command answer
left_again q at command answer = ap (λ (r : QueueHistory). after_outcome r (outcome_of r command) answer) (reached_again q at command)

reached-spare : (b : Bool) (q : QueueHistory) (at : ℕ) → (if b then q else at_moment q at).spare ≡ q.spare
reached-spare true q at = refl
reached-spare false q at = refl

-- it answers what it would have answered before
pub answered_again : (q : QueueHistory) (at : ℕ) (command : Command) (reply : Result Reply Fault) → IsAnswered (reached q at command) at command reply → IsAnswered q at command reply
answered_again q at command reply is =
    let same : outcome_at (reached q at command) at command ≡ outcome_at q at command = ap (λ (r : QueueHistory). outcome_of r command) (reached_again q at command) in
    record {
      answer = subst (λ (o : Outcome). Meets reply o.reply) same is.answer;
      exact = subst (λ (o : Outcome). IsExact o reply) same is.exact;
      room = λ h. subst (λ (o : Outcome). wants_room_alone o ≡ true → reply ≡ o.reply) same (is.room (ap (nat_le 1) (reached-spare (leaves_clock command) q at) ∙ h));
    }

-- it stays at its clock or goes to the moment
pub stays : (q : QueueHistory) (at : ℕ) (command : Command) → leaves_clock command ≡ true → q ≡ reached q at command
stays q at command h = ap (λ (b : Bool). if b then q else at_moment q at) (sym h)

pub goes : (q : QueueHistory) (at : ℕ) (command : Command) → leaves_clock command ≡ false → at_moment q at ≡ reached q at command
goes q at command h = ap (λ (b : Bool). if b then q else at_moment q at) (sym h)

-- and answers there what it answers before
answered_there : (q : QueueHistory) (at : ℕ) (command : Command) (reply : Result Reply Fault) → IsAnswered q at command reply → IsAnswered (reached q at command) at command reply
answered_there q at command reply is =
    let same : outcome_at q at command ≡ outcome_at (reached q at command) at command = ap (λ (r : QueueHistory). outcome_of r command) (sym (reached_again q at command)) in
    record {
      answer = subst (λ (o : Outcome). Meets reply o.reply) same is.answer;
      exact = subst (λ (o : Outcome). IsExact o reply) same is.exact;
      room = λ h. subst (λ (o : Outcome). wants_room_alone o ≡ true → reply ≡ o.reply) same (is.room (ap (nat_le 1) (sym (reached-spare (leaves_clock command) q at)) ∙ h));
    }

reached-lines : (b : Bool) (q : QueueHistory) (at : ℕ) → (if b then q else at_moment q at).lines ≡ q.lines
reached-lines true q at = refl
reached-lines false q at = refl

-- no checkpoint comes before a command that leaves the clock
unwanted : (limit : Bool) (refusal : Option Fault) → unless_some refusal (false && limit) ≡ false
unwanted limit None = refl
unwanted limit (Some fault) = refl

asked_alone : (q : QueueHistory) (command : Command) → leaves_clock command ≡ true → (outcome_of q command).rebases ≡ false
asked_alone q FirstParcel h = unwanted (is_at_limit q) (first_refusal q)
asked_alone q command h = absurd (false≢true h)

pub asks_alone : (q : QueueHistory) (at : ℕ) (command : Command) → leaves_clock command ≡ true → false ≡ (outcome_at q at command).rebases
asks_alone q at command h = sym (asked_alone (reached q at command) command h)

pub asks_there : (q : QueueHistory) (at : ℕ) (command : Command) → leaves_clock command ≡ false → (outcome_of (at_moment q at) command).rebases ≡ (outcome_at q at command).rebases
asks_there q at command h = ap (λ (r : QueueHistory). (outcome_of r command).rebases) (goes q at command h)

-- ---- a call adds to the journal, in place or behind a checkpoint

abbrev Grows : QueueHistory → QueueHistory → Type 0
Grows q new = (new.rules ≡ q.rules) × (more : List (Entry ContentText)) × (new.lines ≡ q.lines ++ more)

grows_by : (q : QueueHistory) (event : Option (Event ContentText)) → Grows q (with_optional_event q event)
grows_by q None = (refl, [], sym (append-nil q.lines))
grows_by q (Some event) = (refl, record { at = q.clock; event = event } ∷ [], refl)

moves : (q : QueueHistory) (at : ℕ) (b : Bool) → Grows q (if b then q else at_moment q at)
moves q at true = (refl, [], sym (append-nil q.lines))
moves q at false = (refl, [], sym (append-nil q.lines))

both : (q x y : QueueHistory) → Grows q x → Grows x y → Grows q y
both q x y g h = (h.0 ∙ g.0, g.1 ++ h.1, h.2 ∙ ap (λ (l : List (Entry ContentText)). l ++ h.1) g.2 ∙ append_assoc q.lines g.1 h.1)

-- ---- what a press stands for

pub printed_first : (stands : List TurnReport → Type 0) (q : QueueHistory) → stands [] → IsPrinted stands q 0
printed_first stands q stood = record { turns = []; stood = stood; record_of = tt; marks = inl refl; within = zero-le }

-- ---- what begins with a checkpoint goes on so

abbrev Begins : QueueHistory → Type 0
Begins q = begins_with_base (marks_of q.lines) ≡ true

begins_on : (lines more : List (Entry ContentText)) → begins_with_base (marks_of lines) ≡ true → begins_with_base (marks_of (lines ++ more)) ≡ true
begins_on [] more h = absurd (false≢true h)
begins_on (e ∷ es) more h = h

begins_with : (q : QueueHistory) (event : Option (Event ContentText)) → Begins q → Begins (with_optional_event q event)
begins_with q None h = h
begins_with q (Some event) h = begins_on q.lines (record { at = q.clock; event = event } ∷ []) h

begins_come : (b : Bool) (q : QueueHistory) (at : ℕ) → Begins q → Begins (if b then q else at_moment q at)
begins_come true q at h = h
begins_come false q at h = h

begins_there : (b : Bool) (q : QueueHistory) → Begins q → Begins (rebased_where b q)
begins_there true q h = refl
begins_there false q h = h

begins_if : (b : Bool) (x y : QueueHistory) → Begins x → Begins y → Begins (if b then x else y)
begins_if true x y h k = h
begins_if false x y h k = k

begins_after : (q : QueueHistory) (at : ℕ) (command : Command) (reply : Result Reply Fault) → Begins q → Begins (after_answer q at command reply)
begins_after q at command reply h =
    let r : QueueHistory = reached q at command in let o = outcome_of r command in let there : Begins r = begins_come (leaves_clock command) q at h in
    begins_if (is_out_of_memory reply) r (with_optional_event (rebased_where o.rebases r) o.event) there (begins_with (rebased_where o.rebases r) o.event (begins_there o.rebases r there))

begins_behind : (q : QueueHistory) (calls : List Call) → Begins q → Begins (state_of q calls)
begins_behind q [] h = h
begins_behind q (c ∷ cs) h = begins_behind (after_answer q c.at c.command c.reply) cs (begins_after q c.at c.command c.reply h)

-- behind a call that puts a checkpoint in the place of all entries
begins_anew : (b missing : Bool) (r : QueueHistory) (event : Option (Event ContentText)) → b ≡ true → missing ≡ false → Begins (if missing then r else with_optional_event (rebased_where b r) event)
begins_anew true true r event h found = absurd (false≢true (sym found))
begins_anew true false r None h found = refl
begins_anew true false r (Some e) h found = refl
begins_anew false missing r event h found = absurd (false≢true h)

anew_begins : (before : List (Entry ℕ)) (q : QueueHistory) → HasBegunAnew before q → Begins q
anew_begins before q anew =
    let r : QueueHistory = reached anew.queue anew.call.at anew.call.command in
    let first : Begins (after_answer anew.queue anew.call.at anew.call.command anew.call.reply) =
    begins_anew (outcome_of r anew.call.command).rebases (is_out_of_memory anew.call.reply) r (outcome_of r anew.call.command).event anew.rebases anew.found in
    subst Begins (sym anew.state) (begins_behind (after_answer anew.queue anew.call.at anew.call.command anew.call.reply) anew.calls first)

-- ---- a call is made, in place or behind a checkpoint

anew_on : (before : List (Entry ℕ)) (q : QueueHistory) (c : Call) → IsAnswered q c.at c.command c.reply → HasBegunAnew before q → HasBegunAnew before (after_answer q c.at c.command c.reply)
anew_on before q c answered anew = record {
  queue = anew.queue;
  legal = anew.legal;
  told = anew.told;
  marks = anew.marks;
  call = anew.call;
  rebases = anew.rebases;
  found = anew.found;
  calls = anew.calls ++ c ∷ [];
  answered = legal_snoc anew.queue (anew.call ∷ anew.calls) c anew.answered (subst (λ (x : QueueHistory). IsAnswered x c.at c.command c.reply) anew.state answered);
  state = ap (λ (x : QueueHistory). after_answer x c.at c.command c.reply) anew.state ∙ sym (state_snoc anew.queue (anew.call ∷ anew.calls) c);
}

-- marks that were told, behind a call that comes to a queue in place, and behind a checkpoint
told_grown : (marks : List (Entry ℕ)) (q new : QueueHistory) (told : ℕ) → told ≤ length q.lines → Grows q new → marks ≡ marks_of (take told q.lines) → marks ≡ marks_of (take told new.lines)
told_grown marks q new told within g same = same ∙ ap marks_of (sym (take-append-le told q.lines g.1 within)) ∙ ap (λ (l : List (Entry ContentText)). marks_of (take told l)) (sym g.2)

within_grown : (q new : QueueHistory) (told : ℕ) → Grows q new → told ≤ length q.lines → told ≤ length new.lines
within_grown q new told g within = let longer : length new.lines ≡ length q.lines + length g.1 = ap length g.2 ∙ length-append q.lines g.1 in omega (arith, within)

rules_there : (b : Bool) (q : QueueHistory) → (rebased_where b q).rules ≡ q.rules
rules_there true q = refl
rules_there false q = refl

rules_if : (b : Bool) (x y : QueueHistory) (rules : List Rule) → x.rules ≡ rules → y.rules ≡ rules → (if b then x else y).rules ≡ rules
rules_if true x y rules h k = h
rules_if false x y rules h k = k

same_rules : (q : QueueHistory) (at : ℕ) (command : Command) (reply : Result Reply Fault) → (after_answer q at command reply).rules ≡ q.rules
same_rules q at command reply =
    let r : QueueHistory = reached q at command in let o = outcome_of r command in let there = (moves q at (leaves_clock command)).0 in
    rules_if (is_out_of_memory reply) r (with_optional_event (rebased_where o.rebases r) o.event) q.rules there ((grows_by (rebased_where o.rebases r) o.event).0 ∙ rules_there o.rebases r ∙ there)

in_place : (q r : QueueHistory) (event : Option (Event ContentText)) (b missing : Bool) → b && not missing ≡ false → Grows q r → Grows q (if missing then r else with_optional_event (rebased_where b r) event)
in_place q r event true true h g = g
in_place q r event true false h g = absurd (false≢true (sym h))
in_place q r event false true h g = g
in_place q r event false false h g = both q r (with_optional_event r event) g (grows_by r event)

both_true : (b missing : Bool) → b && not missing ≡ true → (b ≡ true) × (missing ≡ false)
both_true true true h = absurd (false≢true h)
both_true true false h = (refl, refl)
both_true false missing h = absurd (false≢true h)

abbrev starts_anew : QueueHistory → Call → Bool
starts_anew q c = (outcome_at q c.at c.command).rebases && not (is_out_of_memory c.reply)

module _ (marks : List (Entry ℕ)) (q : QueueHistory) (c : Call) (told : ℕ) (within : told ≤ length q.lines) (answered : IsAnswered q c.at c.command c.reply)
    (legal : (outcome_at q c.at c.command).rebases ≡ true → IsLegal (reached q c.at c.command)) where
  abbrev called : QueueHistory
  called = after_answer q c.at c.command c.reply

  told_through : (b : Bool) → starts_anew q c ≡ b → (marks ≡ marks_of (take told q.lines)) ⊎ ((told ≡ 0) × HasBegunAnew marks q) → AreTold marks called (if b then 0 else told)
  told_through true is (inl same) =
      let parts = both_true (outcome_at q c.at c.command).rebases (is_out_of_memory c.reply) is in
      let r : QueueHistory = reached q c.at c.command in
      inr (
        refl,
        record {
          queue = r;
          legal = legal parts.0;
          told = told;
          marks = same ∙ ap (λ (l : List (Entry ContentText)). marks_of (take told l)) (sym (reached-lines (leaves_clock c.command) q c.at));
          call = c;
          rebases = ap (λ (x : QueueHistory). (outcome_of x c.command).rebases) (reached_again q c.at c.command) ∙ parts.0;
          found = parts.1;
          calls = [];
          answered = (answered_there q c.at c.command c.reply answered, tt);
          state = sym (left_again q c.at c.command c.reply);
        },
      )
  told_through true is (inr none) = inr (refl, anew_on marks q c answered none.1)
  told_through false is (inl same) =
      let o = outcome_at q c.at c.command in
      inl (told_grown marks q called told within (in_place q (reached q c.at c.command) o.event o.rebases (is_out_of_memory c.reply) is (moves q c.at (leaves_clock c.command))) same)
  told_through false is (inr none) = inr (none.0, anew_on marks q c answered none.1)

  within_through : (b : Bool) → starts_anew q c ≡ b → (if b then 0 else told) ≤ length called.lines
  within_through true is = zero-le
  within_through false is =
      let o = outcome_at q c.at c.command in
      within_grown q called told (in_place q (reached q c.at c.command) o.event o.rebases (is_out_of_memory c.reply) is (moves q c.at (leaves_clock c.command))) within

pub printed_behind : (stands : List TurnReport → Type 0) (q : QueueHistory) (at : ℕ) (command : Command) (answer : Result Reply Fault) (told : ℕ) → IsAnswered q at command answer
    → ((outcome_at q at command).rebases ≡ true → IsLegal (reached q at command)) → IsPrinted stands q told
    → IsPrinted stands (after_answer q at command answer) (told_behind told (outcome_at q at command).rebases answer)
printed_behind stands q at command answer told answered legal p =
    let c : Call = call 0 at command answer in
    record {
      turns = p.turns;
      stood = p.stood;
      record_of = subst (λ (rules : List Rule). GoOn rules [] p.turns) (sym (same_rules q at command answer)) p.record_of;
      marks = told_through (joined [] p.turns) q c told p.within answered legal (starts_anew q c) refl p.marks;
      within = within_through (joined [] p.turns) q c told p.within answered legal (starts_anew q c) refl;
    }

-- the marks weigh what the entries do
weight-mark : (event : Event ContentText) → event_weight (mark_event content_size event) ≡ event_weight event
weight-mark (Base base) = ap (λ (n : ℕ). 1 + n) (length-map base.messages (mark_message content_size))
weight-mark event = refl

weight-marks : (lines : List (Entry ContentText)) → weight_of (marks_of lines) ≡ weight_of lines
weight-marks [] = refl
weight-marks (e ∷ es) =
    sum_by-cons (λ (x : Entry ℕ). event_weight x.event) (mark_of content_size e) (marks_of es)
    ∙ (λ i. weight-mark e.event i + weight-marks es i)
    ∙ sym (sum_by-cons (λ (x : Entry ContentText). event_weight x.event) e es)

-- the numbers of a queue are those of its marks
turn_of : (q : QueueHistory) (told : ℕ) (before : List (Entry ℕ)) → marks_of q.lines ≡ after_marks before (marks_of (drop told q.lines)) → IsLegal q
    → (begins_with_base (marks_of (drop told q.lines)) ≡ true → (before ≡ []) ⊎ HasBegunAnew before q) → IsTurnBehind q.rules before (report_of q told)
turn_of q told before same legal anew = record {
  snapshot = record {
    queue = q;
    legal = legal;
    same_rules = refl;
    same_clock = refl;
    same_marks = same;
    lines = sym (weight-marks q.lines) ∙ ap (λ (l : List (Entry ℕ)). weight_of l) same;
    gauges = sym (gauges_of-marks q.lines q.clock) ∙ ap (λ (l : List (Entry ℕ)). gauges_of l q.clock) same;
    current = sym (minute_flows-marks content_size q.lines (minute_of q.clock)) ∙ ap (λ (l : List (Entry ℕ)). current_flows itself l q.clock) same;
    rows = sym (window_rows-marks q.lines q.clock) ∙ ap (λ (l : List (Entry ℕ)). window_rows itself l q.clock) same;
    alarms = sym (map_agree (λ rule. alarm_state_in itself (marks_of q.lines) q.clock rule) (λ rule. alarm_state_in content_size q.lines q.clock rule) (λ rule. alarm_state_in-marks q.lines q.clock rule) q.rules)
        ∙ ap (λ (l : List (Entry ℕ)). map (λ rule. alarm_state_in itself l q.clock rule) q.rules) same;
  };
  anew = anew;
}

go_on_snoc : (rules : List Rule) (before : List (Entry ℕ)) (turns : List TurnReport) (t : TurnReport) → GoOn rules before turns → IsTurnBehind rules (joined before turns) t → GoOn rules before (turns ++ t ∷ [])
go_on_snoc rules before [] t go is = (is, tt)
go_on_snoc rules before (x ∷ xs) t go is = (go.0, go_on_snoc rules (after_marks before x.marks) xs t go.1 is)

joined_snoc : (before : List (Entry ℕ)) (turns : List TurnReport) (t : TurnReport) → joined before (turns ++ t ∷ []) ≡ after_marks (joined before turns) t.marks
joined_snoc before [] t = refl
joined_snoc before (x ∷ xs) t = joined_snoc (after_marks before x.marks) xs t

-- no entry but the first is a checkpoint
base-alone : (event : Event ContentText) → StandsAlone event → is_base (mark_event content_size event) ≡ false
base-alone (Base base) alone = absurd cc
base-alone event alone = refl

begins-alone : (told : ℕ) (es : List (Entry ContentText)) → StandAlone es → begins_with_base (marks_of (drop told es)) ≡ false
begins-alone zero [] alone = refl
begins-alone zero (e ∷ es) alone = base-alone e.event alone.0
begins-alone (suc told) [] alone = refl
begins-alone (suc told) (e ∷ es) alone = begins-alone told es alone.1

alone_behind : (q : QueueHistory) (before es : List (Entry ContentText)) → AreCaused q before es → StandAlone es
alone_behind q before [] caused = tt
alone_behind q before (e ∷ es) caused = (alone-caused (record q { clock = e.at; lines = before }) e.event caused.0, alone_behind q (before ++ e ∷ []) es caused.1)

-- so none behind the first
none_behind : (q : QueueHistory) (lines : List (Entry ContentText)) (told : ℕ) → BeginsAndFollows q lines ⊎ GoesOn q lines → begins_with_base (marks_of (drop told lines)) ≡ true → told ≡ 0
none_behind q lines zero legal h = refl
none_behind q [] (suc told) legal h = absurd (false≢true h)
none_behind q (e ∷ es) (suc told) (inl begins) h = absurd (false≢true (sym (begins-alone told es (alone_begun q (e ∷ es) begins).1) ∙ h))
none_behind q (e ∷ es) (suc told) (inr goes) h = absurd (false≢true (sym (begins-alone told es (alone_behind q (e ∷ []) es goes.1)) ∙ h))

-- the marks that were told, and those that are told now, are all marks
told_and_more : (b : Bool) (before more all : List (Entry ℕ)) → (b ≡ true → more ≡ all) → before ++ more ≡ all → (if b then more else before ++ more) ≡ all
told_and_more true before more all one both = one refl
told_and_more false before more all one both = both

module _ (stands : List TurnReport → Type 0) (q : QueueHistory) (told : ℕ) (p : IsPrinted stands q told) (legal : IsLegal q) where
  abbrev untold : List (Entry ℕ)
  untold = marks_of (drop told q.lines)

  all_marks : after_marks (joined [] p.turns) untold ≡ marks_of q.lines
  all_marks =
      ⊎_elim
      (λ (same : joined [] p.turns ≡ marks_of (take told q.lines)).
      told_and_more (begins_with_base untold) (joined [] p.turns) untold (marks_of q.lines) (λ h. ap (λ (n : ℕ). marks_of (drop n q.lines)) (none_behind q q.lines told legal.caused h))
      (ap (λ (l : List (Entry ℕ)). l ++ untold) same ∙ sym (map-append (mark_of content_size) (take told q.lines) (drop told q.lines)) ∙ ap marks_of (take-append-drop told q.lines)))
      (λ (none : (told ≡ 0) × HasBegunAnew (joined [] p.turns) q).
      ap (λ (n : ℕ). after_marks (joined [] p.turns) (marks_of (drop n q.lines))) none.0
      ∙ ap (λ (b : Bool). if b then marks_of q.lines else joined [] p.turns ++ marks_of q.lines) (anew_begins (joined [] p.turns) q none.1))
      p.marks

  anew_told : begins_with_base untold ≡ true → (joined [] p.turns ≡ []) ⊎ HasBegunAnew (joined [] p.turns) q
  anew_told h =
      ⊎_elim
      (λ (same : joined [] p.turns ≡ marks_of (take told q.lines)). inl (same ∙ ap (λ (n : ℕ). marks_of (take n q.lines)) (none_behind q q.lines told legal.caused h)))
      (λ (none : (told ≡ 0) × HasBegunAnew (joined [] p.turns) q). inr none.1)
      p.marks

  turn_behind : IsTurnBehind q.rules (joined [] p.turns) (report_of q told)
  turn_behind = turn_of q told (joined [] p.turns) (sym all_marks) legal anew_told

  next_turns : GoOn q.rules [] (p.turns ++ report_of q told ∷ [])
  next_turns = go_on_snoc q.rules [] p.turns (report_of q told) p.record_of turn_behind

pub next_in : (stands : List TurnReport → Type 0) (q : QueueHistory) (told : ℕ) → IsPrinted stands q told → IsLegal q → IsNextIn stands (report_of q told)
next_in stands q told p legal = (p.turns, p.stood, (q.rules, next_turns stands q told p legal))

pub printed_more : (stands after : List TurnReport → Type 0) (q : QueueHistory) (told now : ℕ) → IsPrinted stands q told → IsLegal q
    → ((turns : List TurnReport) → stands turns → IsPublicationRecord (turns ++ report_of q told ∷ []) → after (turns ++ report_of q told ∷ [])) → now ≡ length q.lines → IsPrinted after q now
printed_more stands after q told now p legal prints is = record {
  turns = p.turns ++ report_of q told ∷ [];
  stood = prints p.turns p.stood (q.rules, next_turns stands q told p legal);
  record_of = next_turns stands q told p legal;
  marks = inl (joined_snoc [] p.turns (report_of q told) ∙ all_marks stands q told p legal ∙ ap marks_of (sym (take_all now q.lines (omega (arith, is)))));
  within = omega (arith, is);
}

pub printed_stays : (stands after : List TurnReport → Type 0) (q : QueueHistory) (told : ℕ) → IsPrinted stands q told → ((turns : List TurnReport) → stands turns → after turns) → IsPrinted after q told
printed_stays stands after q told p keeps = record { turns = p.turns; stood = keeps p.turns p.stood; record_of = p.record_of; marks = p.marks; within = p.within }
