-- The ranges of the numbers of a rule.
use Rattle.std.specs.Prelude.{ℕ, ◌≤◌}
use Rattle.queue_config.specs.AlarmRules.{Rule, most_minutes, most_threshold}

abbrev pub IsMinutes : ℕ → Type 0
IsMinutes n = (1 ≤ n) × (n ≤ most_minutes)

-- each number is in its range, and a rule asks for no more minutes than it looks at
pub record IsRule (rule : Rule) : Type 0 where
  pub threshold : rule.threshold ≤ most_threshold
  pub minutes : IsMinutes rule.minutes
  pub least_breaches : 1 ≤ rule.breaches
  pub most_breaches : rule.breaches ≤ rule.minutes
