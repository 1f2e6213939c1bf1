-- The alarm of one rule as it is kept, minute by minute (this project's own).
use Rattle.std.specs.Prelude.{ℕ, Bool, List, [], ◌∷◌, ◌++◌, length}
use Rattle.std.specs.List.{count_by}
use Rattle.circular_buffer.specs.Buffer.{keep_last}
use Rattle.queue_config.specs.AlarmRules.{Rule}
use Rattle.metric_window.specs.declared.row.Row.{Row}
use Rattle.alarm.specs.declared.state.AlarmState.{AlarmState}
use Rattle.alarm.specs.AlarmState.{satisfies, state_with}

-- of each of the last minutes, as many as the rule looks at, whether it was a breach: oldest first
pub record KeptAlarm : Type 0 where
  pub rule : Rule
  pub judged : List Bool

-- no minute is over
abbrev pub new_alarm : Rule → KeptAlarm
new_alarm rule = record { rule = rule; judged = [] }

-- after one minute more
abbrev pub with_minute : KeptAlarm → Row → KeptAlarm
with_minute alarm row = record alarm { judged = keep_last alarm.rule.minutes (alarm.judged ++ satisfies alarm.rule row ∷ []) }

-- after these minutes more, one by one
abbrev pub with_minutes : KeptAlarm → List Row → KeptAlarm
with_minutes alarm [] = alarm
with_minutes alarm (row ∷ rows) = with_minutes (with_minute alarm row) rows

abbrev pub breaches_of : List Bool → ℕ
breaches_of judged = count_by (λ is_breach. is_breach) judged

-- the state: fewer minutes than the rule looks at are kept only where fewer are over
abbrev pub kept_state : KeptAlarm → AlarmState
kept_state alarm = state_with alarm.rule (length alarm.judged) (breaches_of alarm.judged)
