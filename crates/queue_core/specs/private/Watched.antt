-- What a queue keeps of its last minutes and of its alarms, against its journal: while a minute lasts, and while minutes end one after another.
use Rattle.std.specs.Prelude.{◌≡◌, ℕ, ◌-◌, ◌*◌, ◌<◌, ◌≤◌, ◌++◌, max, List, map}
use Rattle.std.specs.List.{All, range_with_len}
use Rattle.message.specs.Content.{ContentText, content_size}
use Rattle.queue_config.specs.AlarmRules.{Rule}
use Rattle.journal.specs.declared.entry.Entry.{Entry}
use Rattle.metric_window.specs.declared.flows.Flows.{Flows}
use Rattle.metric_window.specs.declared.row.Row.{Row}
use Rattle.metric_window.specs.Flows.{minute_of, minute_flows}
use Rattle.metric_window.specs.KeptRows.{keep_last}
use Rattle.metric_window.specs.Window.{longest_window}
use Rattle.alarm.specs.AlarmState.{satisfies}
use Rattle.alarm.specs.KeptAlarm.{KeptAlarm}
use Rattle.queue_core.specs.declared.index.MessageIndex.{MessageIndex}
use Rattle.queue_core.specs.declared.watch.Watch.{Watch}
use Rattle.queue_core.specs.Messages.{created_time}
use Rattle.queue_core.specs.Metrics.{minute_end, metric_row}
use Rattle.queue_core.specs.Queue.{QueueHistory}
use Rattle.queue_core.specs.private.Indexed.{IsIndexOf}

-- the rows of so many minutes from one on
abbrev pub rows_from : List (Entry ContentText) → ℕ → ℕ → List Row
rows_from lines first count = map (λ m. metric_row content_size lines m) (range_with_len first count)

-- the first minute that has a row while another lasts
abbrev pub first_shown : List (Entry ContentText) → ℕ → ℕ
first_shown lines present = max (minute_of (created_time lines)) (present - longest_window)

-- the rows that there are while a minute lasts
abbrev pub rows_before : List (Entry ContentText) → ℕ → List Row
rows_before lines present = rows_from lines (first_shown lines present) (present - first_shown lines present)

-- the alarm of a rule that was told these rows
abbrev pub told_alarm : List Row → Rule → KeptAlarm
told_alarm rows rule = record { rule = rule; judged = keep_last rule.minutes (map (λ row. satisfies rule row) rows) }

-- while a minute lasts: the rows before it, what has happened in it, and the alarms, which were told those rows
pub record IsWatchOf (before : List Row) (flows : Flows) (present : ℕ) (rules : List Rule) (w : Watch) : Type 0 where
  pub minute : w.window.minute ≡ present
  pub rows : w.window.rows ≡ before
  pub current : w.window.current ≡ flows
  pub alarms : w.alarms.items ≡ map (told_alarm before) rules
  pub allowed : All (λ rule. rule.minutes ≤ longest_window) rules

-- it is that of a journal
abbrev pub IsWatchAt : List (Entry ContentText) → ℕ → List Rule → Watch → Type 0
IsWatchAt lines present rules w = IsWatchOf (rows_before lines present) (minute_flows content_size lines present) present rules w

-- while minutes end, after the queue's last line: the index has come to a time before which all minutes have ended, the window has the rows from a
-- first minute on, and the alarms were told others before those
pub record IsPassing (q : QueueHistory) (first : ℕ) (before : List Row) (x : MessageIndex) (w : Watch) : Type 0 where
  pub since : ℕ
  pub reached : q.clock ≤ since
  pub early : since ≤ max q.clock (60000 * w.window.minute)
  pub lasting : q.clock < minute_end w.window.minute
  pub index : IsIndexOf q.lines since x
  pub begun : first ≤ w.window.minute
  pub rows : w.window.rows ≡ keep_last longest_window (rows_from q.lines first (w.window.minute - first))
  pub current : w.window.current ≡ minute_flows content_size q.lines w.window.minute
  pub alarms : w.alarms.items ≡ map (told_alarm (before ++ rows_from q.lines first (w.window.minute - first))) q.rules
