-- The alarms that the tables of a configuration are, and what is judged of them together. All of it is this project's own.
use Rattle.std.specs.Prelude.{ℕ, nat_lt, Bool, false, ◌&&◌, ◌||◌, if◌then◌else◌, List, [], ◌∷◌, codes, Some, None, unwrap_or, Result, Ok, Err, ok_or}
use Rattle.std.specs.List.{count_by, list_any}
use Rattle.std.specs.Str.{bytes_eq}
use Rattle.toml.specs.Data.{Data, as_table}
use Rattle.queue_config.specs.AlarmRules.{Rule, most_minutes, most_threshold, most_alarms, metric_named, operator_named}
use Rattle.queue_config.specs.Config.{configured_uid}
use Rattle.queue_config.specs.ConfigKeys.{◌>>=◌, KeyRow, number_key, name_key, word_key, with_keys, with_each}
use Rattle.queue_config.specs.declared.alarm_text.AlarmTable.{AlarmTable}
use Rattle.queue_config.specs.declared.config.ConfiguredAlarm.{ConfiguredAlarm}
use Rattle.queue_config.specs.declared.config_fault.ConfigFault.{ConfigFault}
use Rattle.queue_config.specs.declared.config_fault.ConfigFault.TheVariants.{WrongKind, OutOfRange, NoSuchTarget}
use Rattle.queue_config.specs.declared.requested_alarms.RequestedAlarm.{RequestedAlarm}

-- ---- tables

abbrev pub alarm_numbers : List (KeyRow AlarmTable)
alarm_numbers =
    number_key (codes "threshold") 0 most_threshold (λ alarm n. record alarm { threshold = Some n })
    ∷ number_key (codes "minutes") 1 most_minutes (λ alarm n. record alarm { minutes = Some n })
    ∷ number_key (codes "breaches") 1 most_minutes (λ alarm n. record alarm { breaches = Some n })
    ∷ []

abbrev pub alarm_keys : List (KeyRow AlarmTable)
alarm_keys =
    name_key (codes "queue") (λ alarm name. record alarm { queue = Some name })
    ∷ name_key (codes "name") (λ alarm name. record alarm { name = Some name })
    ∷ word_key (codes "metric") metric_named (λ alarm metric. record alarm { metric = Some metric })
    ∷ word_key (codes "operator") operator_named (λ alarm operator. record alarm { operator = Some operator })
    ∷ alarm_numbers

-- a table that has said nothing yet
abbrev pub no_alarm_keys : AlarmTable
no_alarm_keys = record { queue = None; name = None; metric = None; operator = None; threshold = None; minutes = None; breaches = None }

-- a rule asks for no more minutes than it looks at
abbrev pub if_rule : Rule → Result Rule ConfigFault
if_rule rule = if nat_lt rule.minutes rule.breaches then Err OutOfRange else Ok rule

-- after its keys, each but the breaches has to be there; these are all of the minutes where nothing is said
abbrev pub rule_of_table : AlarmTable → Result Rule ConfigFault
rule_of_table alarm = do
  name ← ok_or alarm.name WrongKind
  metric ← ok_or alarm.metric WrongKind
  operator ← ok_or alarm.operator WrongKind
  threshold ← ok_or alarm.threshold WrongKind
  minutes ← ok_or alarm.minutes WrongKind
  if_rule (record { name = name; metric = metric; operator = operator; threshold = threshold; minutes = minutes; breaches = unwrap_or alarm.breaches minutes })

-- and so has its queue
abbrev pub alarm_of_table : AlarmTable → Result RequestedAlarm ConfigFault
alarm_of_table alarm = do
  queue ← ok_or alarm.queue WrongKind
  rule ← rule_of_table alarm
  Ok (record { queue = queue; rule = rule })

-- the alarm that a table is
abbrev pub alarm_in : Data → Result RequestedAlarm ConfigFault
alarm_in d = do
  table ← ok_or (as_table d) WrongKind
  alarm ← with_keys alarm_keys no_alarm_keys table
  alarm_of_table alarm

-- ---- all alarms together

-- how many of these alarms are of the queue, by the name that the text gives
abbrev pub alarms_of : List ℕ → List RequestedAlarm → ℕ
alarms_of queue alarms = count_by (λ alarm. bytes_eq queue alarm.queue) alarms

abbrev pub have_too_many_alarms : List RequestedAlarm → Bool
have_too_many_alarms alarms = list_any (λ alarm. nat_lt most_alarms (alarms_of alarm.queue alarms)) alarms

-- of one queue, and of one name
abbrev pub is_same_alarm : RequestedAlarm → RequestedAlarm → Bool
is_same_alarm alarm other = bytes_eq alarm.queue other.queue && bytes_eq alarm.rule.name other.rule.name

abbrev pub have_equal_alarms : List RequestedAlarm → Bool
have_equal_alarms [] = false
have_equal_alarms (alarm ∷ rest) = list_any (λ other. is_same_alarm alarm other) rest || have_equal_alarms rest

-- the alarm with its queue's uid, where the queue is one of those with these names
abbrev pub configured_alarm : List (List ℕ) → RequestedAlarm → Result ConfiguredAlarm ConfigFault
configured_alarm names alarm = do
  uid ← ok_or (configured_uid alarm.queue names) NoSuchTarget
  Ok (record { queue = uid; rule = alarm.rule })

abbrev pub configured_alarms : List (List ℕ) → List RequestedAlarm → Result (List ConfiguredAlarm) ConfigFault
configured_alarms names alarms = with_each (λ alarm. configured_alarm names alarm) [] alarms
