-- The state of an alarm. The metrics but for the last two are those of Amazon SQS in CloudWatch; operators and states are named as CloudWatch names them;
-- what a rule asks for is this project's own.
use Rattle.std.specs.Prelude.{ℕ, nat_le, nat_lt, Bool, if◌then◌else◌, List, codes}
use Rattle.std.specs.List.{count_by}
use Rattle.queue_config.specs.AlarmRules.{Rule}
use Rattle.queue_config.specs.declared.metric.Metric.{Metric}
use Rattle.queue_config.specs.declared.metric.Metric.TheVariants.{NumberOfMessagesSent, SentMessageSize, NumberOfMessagesReceived, NumberOfEmptyReceives, NumberOfMessagesDeleted, ApproximateNumberOfMessagesVisible, ApproximateNumberOfMessagesDelayed, ApproximateNumberOfMessagesNotVisible, ApproximateAgeOfOldestMessage, RefusedCalls, DeadLettersArrived}
use Rattle.queue_config.specs.declared.operator.Operator.{Operator}
use Rattle.queue_config.specs.declared.operator.Operator.TheVariants.{GreaterThanThreshold, GreaterThanOrEqualToThreshold, LessThanThreshold, LessThanOrEqualToThreshold}
use Rattle.metric_window.specs.declared.row.Row.{Row}
use Rattle.alarm.specs.declared.state.AlarmState.{AlarmState}
use Rattle.alarm.specs.declared.state.AlarmState.TheVariants.{InsufficientData, Okay, Alarm}

-- ---- a minute

abbrev pub metric_value : Metric → Row → ℕ
metric_value NumberOfMessagesSent row = row.flows.sent
metric_value SentMessageSize row = row.flows.sent_size
metric_value NumberOfMessagesReceived row = row.flows.received
metric_value NumberOfEmptyReceives row = row.flows.empty_receives
metric_value NumberOfMessagesDeleted row = row.flows.deleted
metric_value ApproximateNumberOfMessagesVisible row = row.gauges.visible
metric_value ApproximateNumberOfMessagesDelayed row = row.gauges.delayed
metric_value ApproximateNumberOfMessagesNotVisible row = row.gauges.in_flight
metric_value ApproximateAgeOfOldestMessage row = row.gauges.age
metric_value RefusedCalls row = row.flows.refused
metric_value DeadLettersArrived row = row.flows.dead_letters_arrived

-- whether a value compares so with a threshold
abbrev pub compares : Operator → ℕ → ℕ → Bool
compares GreaterThanThreshold value threshold = nat_lt threshold value
compares GreaterThanOrEqualToThreshold value threshold = nat_le threshold value
compares LessThanThreshold value threshold = nat_lt value threshold
compares LessThanOrEqualToThreshold value threshold = nat_le value threshold

-- whether a minute is a breach of the rule
abbrev pub satisfies : Rule → Row → Bool
satisfies rule row = compares rule.operator (metric_value rule.metric row) rule.threshold

-- ---- the minutes that a rule looks at

-- the state after so many complete minutes since the queue's creation, with so many breaches among those that the rule looks at
abbrev pub state_with : Rule → ℕ → ℕ → AlarmState
state_with rule complete breaching =
    if nat_lt complete rule.minutes then InsufficientData
    else if nat_le rule.breaches breaching then Alarm
    else Okay

-- how many of these minutes are breaches
abbrev pub breaches_in : Rule → List Row → ℕ
breaches_in rule rows = count_by (λ row. satisfies rule row) rows

-- the state after so many complete minutes, where these are the rows of the last ones, as many as the rule looks at
abbrev pub alarm_state_of : Rule → ℕ → List Row → AlarmState
alarm_state_of rule complete rows = state_with rule complete (breaches_in rule rows)

abbrev pub alarm_state_name : AlarmState → List ℕ
alarm_state_name InsufficientData = codes "INSUFFICIENT_DATA"
alarm_state_name Okay = codes "OK"
alarm_state_name Alarm = codes "ALARM"
