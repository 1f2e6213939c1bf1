-- The metric rows of a queue (Amazon SQS metrics for CloudWatch): what flowed in a minute, and what stood there at its last millisecond.
-- Nothing here depends on what stands for a content: a function tells its size in bytes.
use Rattle.std.specs.Prelude.{ℕ, ◌+◌, ◌-◌, ◌*◌, min, nat_lt, List, filter, map, Option, Some, None, unwrap_or, if◌then◌else◌}
use Rattle.std.specs.List.{range_with_len}
use Rattle.journal.specs.declared.entry.Entry.{Entry}
use Rattle.metric_window.specs.declared.flows.Flows.{Flows}
use Rattle.metric_window.specs.declared.gauges.Gauges.{Gauges}
use Rattle.metric_window.specs.declared.row.Row.{Row}
use Rattle.metric_window.specs.Flows.{minute_of, greatest, minute_flows}
use Rattle.metric_window.specs.KeptRows.{row_in}
use Rattle.metric_window.specs.Window.{window_start, window_end, is_in_window}
use Rattle.queue_config.specs.AlarmRules.{Rule}
use Rattle.alarm.specs.declared.state.AlarmState.{AlarmState}
use Rattle.alarm.specs.AlarmState.{alarm_state_of}
use Rattle.queue_core.specs.Messages.{created_time, rows_known}
use Rattle.queue_core.specs.States.{gauges_of}

-- the time at which the next minute begins, in milliseconds
abbrev pub minute_end : ℕ → ℕ
minute_end minute = 60000 * (minute + 1)

-- the entries before the end of a minute
abbrev pub entries_until : {C : Type 0} → List (Entry C) → ℕ → List (Entry C)
entries_until lines minute = filter (λ e. nat_lt e.at (minute_end minute)) lines

-- the counts and the age at a minute's last millisecond, by the entries until then
abbrev pub minute_gauges : {C : Type 0} → List (Entry C) → ℕ → Gauges
minute_gauges lines minute = gauges_of (entries_until lines minute) (minute_end minute - 1)

-- the row of a minute as the entries tell it one by one
abbrev pub told_row : {C : Type 0} → (C → ℕ) → List (Entry C) → ℕ → Row
told_row size lines minute = record { minute = minute; flows = minute_flows size lines minute; gauges = minute_gauges lines minute }

-- the row of a minute: the one that a checkpoint knows, and else as the entries tell it
abbrev pub metric_row : {C : Type 0} → (C → ℕ) → List (Entry C) → ℕ → Row
metric_row size lines minute = unwrap_or (row_in (rows_known lines) minute) (told_row size lines minute)

-- what has happened so far in the clock's minute
abbrev pub current_flows : {C : Type 0} → (C → ℕ) → List (Entry C) → ℕ → Flows
current_flows size lines clock = minute_flows size lines (minute_of clock)

-- the same with one refused call more, up to the greatest number that a row can show
abbrev pub with_one_more_refused : Flows → Flows
with_one_more_refused f = record f { refused = min (f.refused + 1) greatest }

-- the row of a minute, where that is one of the window
abbrev pub row_of : {C : Type 0} → (C → ℕ) → List (Entry C) → ℕ → ℕ → Option Row
row_of size lines clock minute = if is_in_window (created_time lines) clock minute then Some (metric_row size lines minute) else None

-- all rows of the window, oldest first
abbrev pub window_rows : {C : Type 0} → (C → ℕ) → List (Entry C) → ℕ → List Row
window_rows size lines clock =
    map (λ minute. metric_row size lines minute)
    (range_with_len (window_start (created_time lines) clock) (window_end clock - window_start (created_time lines) clock))

-- ---- alarms (this project's own)

-- how many minutes are over since the one in which the queue was created
abbrev pub complete_minutes : {C : Type 0} → List (Entry C) → ℕ → ℕ
complete_minutes lines clock = window_end clock - minute_of (created_time lines)

-- the rows of the last so many minutes that are over, oldest first
abbrev pub last_rows : {C : Type 0} → (C → ℕ) → List (Entry C) → ℕ → ℕ → List Row
last_rows size lines clock count = map (λ minute. metric_row size lines minute) (range_with_len (window_end clock - count) count)

-- the state of the alarm of a rule
abbrev pub alarm_state_in : {C : Type 0} → (C → ℕ) → List (Entry C) → ℕ → Rule → AlarmState
alarm_state_in size lines clock rule = alarm_state_of rule (complete_minutes lines clock) (last_rows size lines clock rule.minutes)
