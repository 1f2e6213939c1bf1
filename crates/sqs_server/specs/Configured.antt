-- The queues of a configuration, as the server opens them.
use Rattle.std.specs.Prelude.{◌≡◌, ℕ, ◌+◌, List, [], ◌∷◌, ⊤}
use Rattle.queue_config.specs.Config.{Configuration, rules_of}
use Rattle.queue_config.specs.declared.config.ConfiguredAlarm.{ConfiguredAlarm}
use Rattle.queue_config.specs.declared.config.ConfiguredQueue.{ConfiguredQueue}
use Rattle.queue_config.specs.Limits.{QueueLimits}
use Rattle.queue_core.specs.Kept.{opened_queue}
use Rattle.queue_core.specs.Queue.{QueueHistory}

-- a relation holds of each element, with its number, and of the one at the same place in another list, which is as long
unfoldable pub AllNumbered : {X Y : Type 0} → (ℕ → X → Y → Type 0) → ℕ → List X → List Y → Type 0
AllNumbered R n [] [] = ⊤
AllNumbered R n (x ∷ xs) (y ∷ ys) = R n x y × AllNumbered R (n + 1) xs ys
AllNumbered R n [] (y ∷ ys) = ⊥
AllNumbered R n (x ∷ xs) [] = ⊥

-- a queue was opened at a moment just as it is configured, under some uid, with the alarms that name its place in the configuration
abbrev pub IsOpenedAtPlace : QueueLimits → List ConfiguredAlarm → ℕ → ℕ → ConfiguredQueue → QueueHistory → Type 0
IsOpenedAtPlace limits alarms at place queue opened = (uid : ℕ) × (opened ≡ opened_queue uid queue.name queue.settings limits (rules_of alarms place) at)

-- each queue of a configuration was opened so, in its order; places are counted from 1
abbrev pub AreOpenedInOrder : Configuration → QueueLimits → ℕ → List QueueHistory → Type 0
AreOpenedInOrder config limits at opened = AllNumbered (IsOpenedAtPlace limits config.alarms at) 1 config.queues opened
