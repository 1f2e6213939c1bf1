-- What is told of turns: the statistics of the queue at the end of each, and the marks of its journal that were not told before.
-- What makes a list of turns a record is said of marks alone, which have the sizes of contents in their place.
use Rattle.std.specs.Prelude.{◌≡◌, ◌⊎◌, ℕ, Bool, true, false, if◌then◌else◌, List, [], ◌∷◌, ◌++◌, map, take, drop}
use Rattle.message.specs.Fault.{is_out_of_memory}
use Rattle.message.specs.Content.{ContentText, content_size}
use Rattle.queue_config.specs.AlarmRules.{Rule}
use Rattle.journal.specs.declared.entry.Entry.{Entry}
use Rattle.journal.specs.declared.entry.Event.{Event}
use Rattle.journal.specs.declared.entry.Event.TheVariants.{Base}
use Rattle.journal.specs.Mark.{mark_of}
use Rattle.journal.specs.Weight.{weight_of}
use Rattle.metric_window.specs.declared.flows.Flows.{Flows}
use Rattle.metric_window.specs.declared.gauges.Gauges.{Gauges}
use Rattle.metric_window.specs.declared.row.Row.{Row}
use Rattle.alarm.specs.declared.state.AlarmState.{AlarmState}
use Rattle.queue_core.specs.States.{gauges_of}
use Rattle.queue_core.specs.Metrics.{current_flows, window_rows, alarm_state_in}
use Rattle.queue_core.specs.Queue.{QueueHistory, outcome_at}
use Rattle.queue_core.specs.Legal.{IsLegal}
use Rattle.desk.specs.declared.view.Call.{Call}
use Rattle.desk.specs.History.{IsLegalHistory, state_of}

-- what is told of a turn: the marks that were not told before, the clock, and the numbers at that time
pub record TurnReport : Type 0 where
  pub marks : List (Entry ℕ)
  pub clock : ℕ
  pub lines : ℕ  -- how much the journal weighs
  pub gauges : Gauges
  pub current : Flows
  pub rows : List Row
  pub alarms : List AlarmState

-- the marks of entries
abbrev pub marks_of : List (Entry ContentText) → List (Entry ℕ)
marks_of lines = map (mark_of content_size) lines

-- what is told of a queue, whose first so many marks were told before
abbrev pub report_of : QueueHistory → ℕ → TurnReport
report_of q told = record {
  marks = marks_of (drop told q.lines);
  clock = q.clock;
  lines = weight_of q.lines;
  gauges = gauges_of q.lines q.clock;
  current = current_flows content_size q.lines q.clock;
  rows = window_rows content_size q.lines q.clock;
  alarms = map (λ rule. alarm_state_in content_size q.lines q.clock rule) q.rules;
}

abbrev pub itself : ℕ → ℕ
itself size = size

-- the numbers are those of these marks at the clock: these are the marks of a queue's legal journal
pub record IsSnapshot (rules : List Rule) (marks : List (Entry ℕ)) (t : TurnReport) : Type 0 where
  pub queue : QueueHistory
  pub legal : IsLegal queue
  pub same_rules : queue.rules ≡ rules
  pub same_clock : queue.clock ≡ t.clock
  pub same_marks : marks_of queue.lines ≡ marks
  pub lines : t.lines ≡ weight_of marks
  pub gauges : t.gauges ≡ gauges_of marks t.clock
  pub current : t.current ≡ current_flows itself marks t.clock
  pub rows : t.rows ≡ window_rows itself marks t.clock
  pub alarms : t.alarms ≡ map (λ rule. alarm_state_in itself marks t.clock rule) rules

-- whether an event is a checkpoint, and whether marks begin with one
abbrev pub is_base : {C : Type 0} → Event C → Bool
is_base (Base base) = true
is_base event = false

abbrev pub begins_with_base : List (Entry ℕ) → Bool
begins_with_base [] = false
begins_with_base (mark ∷ marks) = is_base mark.event

-- the marks of a journal behind these, where some more are told: a checkpoint takes the place of all before it
abbrev pub after_marks : List (Entry ℕ) → List (Entry ℕ) → List (Entry ℕ)
after_marks before marks = if begins_with_base marks then marks else before ++ marks

-- a queue has come, by calls that it answered, from one whose legal journal began with these marks: the first of the calls has put a checkpoint in the place of
-- all entries
pub record HasBegunAnew (before : List (Entry ℕ)) (q : QueueHistory) : Type 0 where
  pub queue : QueueHistory
  pub legal : IsLegal queue
  pub told : ℕ
  pub marks : before ≡ marks_of (take told queue.lines)
  pub call : Call
  pub rebases : (outcome_at queue call.at call.command).rebases ≡ true
  pub found : is_out_of_memory call.reply ≡ false
  pub calls : List Call
  pub answered : IsLegalHistory queue (call ∷ calls)
  pub state : q ≡ state_of queue (call ∷ calls)

-- a turn behind these marks: its numbers are those of all marks that the journal has then; and a journal that has begun anew did so behind these
pub record IsTurnBehind (rules : List Rule) (before : List (Entry ℕ)) (t : TurnReport) : Type 0 where
  pub snapshot : IsSnapshot rules (after_marks before t.marks) t
  pub anew : begins_with_base t.marks ≡ true → (before ≡ []) ⊎ HasBegunAnew before snapshot.queue

-- behind these marks, each turn is one behind all that its journal has by what was told until then
abbrev pub GoOn : List Rule → List (Entry ℕ) → List TurnReport → Type 0
GoOn rules before [] = Unit {0}
GoOn rules before (t ∷ ts) = IsTurnBehind rules before t × GoOn rules (after_marks before t.marks) ts

-- a record of printed turns: with one list of rules, each turn's numbers are those of all marks up to it, from the last checkpoint on
abbrev pub IsPublicationRecord : List TurnReport → Type 0
IsPublicationRecord turns = (rules : List Rule) × GoOn rules [] turns

-- a turn that may be printed next, where a press stands for some lists of turns
abbrev pub IsNextIn : (List TurnReport → Type 0) → TurnReport → Type 0
IsNextIn stands turn = (turns : List TurnReport) × stands turns × IsPublicationRecord (turns ++ turn ∷ [])

-- an answer tells of the queue, as it is told behind some of its marks
abbrev pub IsToldOf : {Told : Type 0} → (TurnReport → Told → Type 0) → QueueHistory → Told → Type 0
IsToldOf tells q answer = (told : ℕ) × tells (report_of q told) answer
