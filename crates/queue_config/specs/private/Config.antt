-- What holds of the queues and alarms of a configuration that was read.
use Rattle.std.specs.Prelude.{ℕ, ◌≤◌, List, map, length}
use Rattle.std.specs.List.{All, IsDistinct}
use Rattle.std.specs.Str.{bytes_eq}
use Rattle.queue_config.specs.AlarmRules.{most_alarms}
use Rattle.queue_config.specs.declared.config.ConfiguredAlarm.{ConfiguredAlarm}
use Rattle.queue_config.specs.declared.config.ConfiguredQueue.{ConfiguredQueue}
use Rattle.queue_config.specs.Config.{AreConfigured, rules_of}

-- each alarm is of a queue, of which there are so many; no queue has two alarms of one name, or too many
pub record AreAlarms (count : ℕ) (alarms : List ConfiguredAlarm) : Type 0 where
  pub queues : All (λ alarm. (1 ≤ alarm.queue) × (alarm.queue ≤ count)) alarms
  pub names : (uid : ℕ) → IsDistinct bytes_eq (map (λ rule. rule.name) (rules_of alarms uid))
  pub few : (uid : ℕ) → length (rules_of alarms uid) ≤ most_alarms

-- the queues, and the alarms of these queues
pub record IsConfiguration (configured : List ConfiguredQueue) (rules : List ConfiguredAlarm) : Type 0 where
  pub queues : AreConfigured configured
  pub alarms : AreAlarms (length configured) rules
