-- Orders for queues that clients create: what is ordered, and what may become of it.
use Rattle.std.specs.Prelude.{◌≡◌, ◌⊎◌, ℕ, [], IfOk, IfErr}
use Rattle.message.specs.declared.fault.Fault.{Fault}
use Rattle.message.specs.declared.fault.Fault.TheVariants.{QueueDoesNotExist, QueueNameExists, OverLimit, OutOfMemory}
use Rattle.queue_config.specs.Limits.{QueueLimits}
use Rattle.queue_config.specs.Settings.{default_settings, settings_with}
use Rattle.queue_core.specs.Kept.{opened_queue}
use Rattle.queue_core.specs.Queue.{QueueHistory}
use Rattle.sqs_server.specs.declared.order.Made.{Made}
use Rattle.sqs_server.specs.declared.order.OrderedQueue.{OrderedQueue}
use Rattle.sqs_server.specs.declared.stage.Creation.{Creation}

-- what is ordered: a queue of the name, with what is wished in the place of the defaults, at the moment of the request
pub record IsOrder (creation : Creation) (target : ℕ) (ordered : OrderedQueue) : Type 0 where
  pub name : ordered.name ≡ creation.name
  pub settings : ordered.settings ≡ settings_with default_settings creation.wish target
  pub moment : ordered.at ≡ creation.at

-- why no queue is made: one of the name is there, there are as many as there may be, its name was taken out meanwhile, or there is no memory or no thread for it
abbrev pub IsUnmade : Fault → Type 0
IsUnmade fault = (fault ≡ QueueNameExists) ⊎ ((fault ≡ OverLimit) ⊎ ((fault ≡ QueueDoesNotExist) ⊎ (fault ≡ OutOfMemory)))

-- a queue was opened just as it was ordered, under some uid, with some limits and without alarms
abbrev pub IsOpenedFor : OrderedQueue → QueueHistory → Type 0
IsOpenedFor ordered queue = (uid : ℕ) × (limits : QueueLimits) × (queue ≡ opened_queue uid ordered.name ordered.settings limits [] ordered.at)

-- what may become of an order; that the queue was added to a directory its mark shows
abbrev pub IsMadeFor : OrderedQueue → Made → Type 0
IsMadeFor ordered made = IfErr made.outcome IsUnmade × IfOk made.outcome (λ opened. IsOpenedFor ordered opened)

-- what contracts see of where it is told: the order, and the source of the place where it is awaited
pub record AwaitedQueue : Type 0 where
  pub ordered : OrderedQueue
  pub source : ℕ
