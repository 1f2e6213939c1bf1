-- Metrics and operators by their names.
use Rattle.std.proofs.Common.{◌≡◌, ℕ, Bool, true, false, cond, List, [], ◌∷◌, map, Bor, Option, Some, option_map, codes, inl, inr, refl, sym}
use Rattle.std.specs.List.{find}
use Rattle.std.specs.Str.{bytes_eq}
use Rattle.std.proofs.lemmas.Slice.Eq.{bytes_eq-Decides}
use Rattle.queue_config.specs.AlarmRules.{metric_named, operator_named}
use Rattle.queue_config.specs.Named.{named_in, HasRow}
use Rattle.queue_config.specs.declared.metric.Metric.{Metric}
use Rattle.queue_config.specs.declared.metric.Metric.TheVariants.{NumberOfMessagesSent, SentMessageSize, NumberOfMessagesReceived, NumberOfEmptyReceives, NumberOfMessagesDeleted, ApproximateNumberOfMessagesVisible, ApproximateNumberOfMessagesDelayed, ApproximateNumberOfMessagesNotVisible, ApproximateAgeOfOldestMessage, RefusedCalls, DeadLettersArrived}
use Rattle.queue_config.specs.declared.operator.Operator.{Operator}
use Rattle.queue_config.specs.declared.operator.Operator.TheVariants.{GreaterThanThreshold, GreaterThanOrEqualToThreshold, LessThanThreshold, LessThanOrEqualToThreshold}

pub metric_by_name : (metric : Metric) → (name : List ℕ) × (metric_named name ≡ Some metric)
metric_by_name NumberOfMessagesSent = (codes "NumberOfMessagesSent", refl)
metric_by_name SentMessageSize = (codes "SentMessageSize", refl)
metric_by_name NumberOfMessagesReceived = (codes "NumberOfMessagesReceived", refl)
metric_by_name NumberOfEmptyReceives = (codes "NumberOfEmptyReceives", refl)
metric_by_name NumberOfMessagesDeleted = (codes "NumberOfMessagesDeleted", refl)
metric_by_name ApproximateNumberOfMessagesVisible = (codes "ApproximateNumberOfMessagesVisible", refl)
metric_by_name ApproximateNumberOfMessagesDelayed = (codes "ApproximateNumberOfMessagesDelayed", refl)
metric_by_name ApproximateNumberOfMessagesNotVisible = (codes "ApproximateNumberOfMessagesNotVisible", refl)
metric_by_name ApproximateAgeOfOldestMessage = (codes "ApproximateAgeOfOldestMessage", refl)
metric_by_name RefusedCalls = (codes "RefusedCalls", refl)
metric_by_name DeadLettersArrived = (codes "DeadLettersArrived", refl)

pub operator_by_name : (operator : Operator) → (name : List ℕ) × (operator_named name ≡ Some operator)
operator_by_name GreaterThanThreshold = (codes "GreaterThanThreshold", refl)
operator_by_name GreaterThanOrEqualToThreshold = (codes "GreaterThanOrEqualToThreshold", refl)
operator_by_name LessThanThreshold = (codes "LessThanThreshold", refl)
operator_by_name LessThanOrEqualToThreshold = (codes "LessThanOrEqualToThreshold", refl)

module _ {X : Type 0} where
  -- a row as the definitions have it
  abbrev pub seen : Bor (List ℕ) × X → List ℕ × X
  seen row = (row.0.now, row.1)

  by_row : (b : Bool) (row : Bor (List ℕ) × X) (found : Option (Bor (List ℕ) × X)) (other : Option (List ℕ × X))
      → option_map (λ r. r.1) found ≡ option_map (λ r. r.1) other → option_map (λ r. r.1) (cond b (Some row) found) ≡ option_map (λ r. r.1) (cond b (Some (seen row)) other)
  by_row true row found other same = refl
  by_row false row found other same = same

  -- what is found in the rows of the code is what the definitions find
  pub named : (name : List ℕ) (rows : List (Bor (List ℕ) × X))
      → option_map (λ row. row.1) (find (λ row. bytes_eq name row.0.now) rows) ≡ named_in (map seen rows) name
  named name [] = refl
  named name (row ∷ rows) =
      by_row (bytes_eq name row.0.now) row (find (λ r. bytes_eq name r.0.now) rows) (find (λ r. bytes_eq name r.0) (map seen rows)) (named name rows)

  one : (b : Bool) (name : List ℕ) (x : X) (row : List ℕ × X) (rows : List (List ℕ × X)) → bytes_eq name row.0 ≡ b
      → option_map (λ r. r.1) (cond b (Some row) (find (λ r. bytes_eq name r.0) rows)) ≡ Some x → (named_in rows name ≡ Some x → HasRow name x rows) → HasRow name x (row ∷ rows)
  one true name x row rows test h more = inl (sym ((bytes_eq-Decides name row.0).0 test), cc)
  one false name x row rows test h more = inr (more h)

  -- what is found by a name stands in a row of that name
  pub has_row : (name : List ℕ) (x : X) (rows : List (List ℕ × X)) → named_in rows name ≡ Some x → HasRow name x rows
  has_row name x [] h = absurd cc
  has_row name x (row ∷ rows) h = one (bytes_eq name row.0) name x row rows refl h (has_row name x rows)
