-- What a program is started with: limits, the queues that are there from the start, and their alarms.
use Rattle.std.specs.Prelude.{◌≡◌, ℕ, ◌+◌, ◌≤◌, ◌==◌, false, List, [], map, length, Option, Some, option_map}
use Rattle.std.specs.List.{All, IsDistinct, filter, position}
use Rattle.std.specs.Option.{ForSome}
use Rattle.std.specs.Str.{bytes_eq}
use Rattle.queue_config.specs.AlarmRules.{Rule}
use Rattle.queue_config.specs.Limits.{QueueLimits, default_limits}
use Rattle.queue_config.specs.declared.config.ConfiguredAlarm.{ConfiguredAlarm}
use Rattle.queue_config.specs.declared.config.ConfiguredQueue.{ConfiguredQueue}
use Rattle.queue_config.specs.declared.policy.RedrivePolicy.{RedrivePolicy}

-- queues and alarms stand in the order of the text
pub record Configuration : Type 0 where
  pub limits : QueueLimits
  pub queues : List ConfiguredQueue
  pub alarms : List ConfiguredAlarm

-- what is configured where nothing is said
abbrev pub default_configuration : Configuration
default_configuration = record { limits = default_limits; queues = []; alarms = [] }

-- how many queues there may be at a time: this project's own
abbrev pub most_queues : ℕ
most_queues = 1000

abbrev pub names_of : List ConfiguredQueue → List (List ℕ)
names_of queues = map (λ q. q.name) queues

-- the uid of the queue that has this name: the queues of a configuration have the uids 1, 2, 3 and so on, in their order
abbrev pub configured_uid : List ℕ → List (List ℕ) → Option ℕ
configured_uid name names = option_map (λ place. place + 1) (position (λ other. bytes_eq name other) names)

-- the dead-letter queue is one of the queues with these names, by its name and by its uid, and not the queue itself
pub record HasTarget (names : List (List ℕ)) (own : List ℕ) (policy : RedrivePolicy) : Type 0 where
  pub target : configured_uid policy.name names ≡ Some policy.target
  pub other : bytes_eq policy.name own ≡ false

-- no two queues of one name, and each dead-letter queue is another of them
pub record AreConfigured (queues : List ConfiguredQueue) : Type 0 where
  pub names : IsDistinct bytes_eq (names_of queues)
  pub count : length queues ≤ most_queues
  pub targets : All (λ queue. ForSome queue.settings.redrive_policy (λ policy. HasTarget (names_of queues) queue.name policy)) queues

-- the rules of the alarms of a queue, in the order of the text
abbrev pub rules_of : List ConfiguredAlarm → ℕ → List Rule
rules_of alarms uid = map (λ alarm. alarm.rule) (filter (λ alarm. alarm.queue == uid) alarms)
