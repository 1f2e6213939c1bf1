-- The rules of alarms: metrics, operators, and what a rule has. The metrics but for the last two are those of Amazon SQS in CloudWatch, and the
-- operators those of CloudWatch's alarms (ComparisonOperator); RefusedCalls, DeadLettersArrived and all ranges are this project's own.
use Rattle.std.specs.Prelude.{ℕ, List, [], ◌∷◌, codes, Option}
use Rattle.queue_config.specs.Named.{named_in}
use Rattle.queue_config.specs.declared.metric.Metric.{Metric}
use Rattle.queue_config.specs.declared.metric.Metric.TheVariants.{NumberOfMessagesSent, SentMessageSize, NumberOfMessagesReceived, NumberOfEmptyReceives, NumberOfMessagesDeleted, ApproximateNumberOfMessagesVisible, ApproximateNumberOfMessagesDelayed, ApproximateNumberOfMessagesNotVisible, ApproximateAgeOfOldestMessage, RefusedCalls, DeadLettersArrived}
use Rattle.queue_config.specs.declared.operator.Operator.{Operator}
use Rattle.queue_config.specs.declared.operator.Operator.TheVariants.{GreaterThanThreshold, GreaterThanOrEqualToThreshold, LessThanThreshold, LessThanOrEqualToThreshold}

-- ---- metrics

-- each by its name
abbrev pub metrics : List (List ℕ × Metric)
metrics =
    (codes "NumberOfMessagesSent", NumberOfMessagesSent)
    ∷ (codes "SentMessageSize", SentMessageSize)
    ∷ (codes "NumberOfMessagesReceived", NumberOfMessagesReceived)
    ∷ (codes "NumberOfEmptyReceives", NumberOfEmptyReceives)
    ∷ (codes "NumberOfMessagesDeleted", NumberOfMessagesDeleted)
    ∷ (codes "ApproximateNumberOfMessagesVisible", ApproximateNumberOfMessagesVisible)
    ∷ (codes "ApproximateNumberOfMessagesDelayed", ApproximateNumberOfMessagesDelayed)
    ∷ (codes "ApproximateNumberOfMessagesNotVisible", ApproximateNumberOfMessagesNotVisible)
    ∷ (codes "ApproximateAgeOfOldestMessage", ApproximateAgeOfOldestMessage)
    ∷ (codes "RefusedCalls", RefusedCalls)
    ∷ (codes "DeadLettersArrived", DeadLettersArrived) ∷ []

-- the metric of a name
abbrev pub metric_named : List ℕ → Option Metric
metric_named = named_in metrics

-- ---- operators

-- each by its name
abbrev pub operators : List (List ℕ × Operator)
operators =
    (codes "GreaterThanThreshold", GreaterThanThreshold)
    ∷ (codes "GreaterThanOrEqualToThreshold", GreaterThanOrEqualToThreshold)
    ∷ (codes "LessThanThreshold", LessThanThreshold)
    ∷ (codes "LessThanOrEqualToThreshold", LessThanOrEqualToThreshold) ∷ []

-- the operator of a name
abbrev pub operator_named : List ℕ → Option Operator
operator_named = named_in operators

-- ---- rules

-- a rule looks at the last so many minutes, and asks that in so many of them the metric compares so with the threshold
pub record Rule : Type 0 where
  pub name : List ℕ
  pub metric : Metric
  pub operator : Operator
  pub threshold : ℕ
  pub minutes : ℕ
  pub breaches : ℕ

abbrev pub most_minutes : ℕ
most_minutes = 180

-- the largest number of a configuration's text: 2^63 - 1
abbrev pub most_threshold : ℕ
most_threshold = 9223372036854775807

-- how many alarms a queue may have: this project's own
abbrev pub most_alarms : ℕ
most_alarms = 16
