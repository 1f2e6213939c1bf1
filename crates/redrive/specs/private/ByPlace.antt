-- The queue at a place of the list, and what is kept of the list.
use Rattle.std.specs.Prelude.{◌≡◌, ℕ, Bool, true, false, map, set, remove, slice_get}
use Rattle.std.specs.Option.{option_map_or}
use Rattle.queue_core.specs.declared.command.Command.{Command}
use Rattle.queue_core.specs.declared.command.Command.TheVariants.{Close}
use Rattle.queue_core.specs.Queue.{QueueHistory}
use Rattle.redrive.specs.Keys.{KeyLists}
use Rattle.redrive.specs.House.{House, IsRegistry}

-- the house with the queue at a place changed
abbrev pub with_place_changed : House → ℕ → (QueueHistory → QueueHistory) → House
with_place_changed w place change = record w { queues = option_map_or (λ q. set w.queues place (change q)) (slice_get w.queues place) w.queues }

-- the house without the queue at a place
abbrev pub without_place : House → ℕ → House
without_place w place = record w { queues = remove w.queues place }

-- whether a command closes a queue
abbrev pub closes_queue : Command → Bool
closes_queue Close = true
closes_queue _ = false

-- a registry, and the uids and names of its queues as they are kept beside them
pub record IsKept (w : House) (k : KeyLists) : Type 0 where
  pub registry : IsRegistry w
  pub uids : k.uids ≡ map (λ q. q.uid) w.queues
  pub names : k.names ≡ map (λ q. q.name) w.queues
