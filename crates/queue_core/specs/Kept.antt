-- A queue as it is opened.
use Rattle.std.specs.Prelude.{ℕ, [], ◌∷◌, List}
use Rattle.queue_config.specs.Settings.{QueueSettings}
use Rattle.queue_config.specs.AlarmRules.{Rule}
use Rattle.queue_config.specs.Limits.{QueueLimits}
use Rattle.journal.specs.declared.entry.Event.TheVariants.{Opened}
use Rattle.queue_core.specs.Queue.{QueueHistory}

-- a queue as it is opened
abbrev pub opened_queue : ℕ → List ℕ → QueueSettings → QueueLimits → List Rule → ℕ → QueueHistory
opened_queue uid name settings limits rules at =
    record { uid = uid; name = name; limits = limits; rules = rules; clock = at; lines = record { at = at; event = Opened uid settings } ∷ []; spare = 0 }
