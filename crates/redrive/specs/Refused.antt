-- A step that a queue of the registry refuses itself.
use Rattle.std.specs.Prelude.{◌≡◌, ◌≢◌, ℕ, Some}
use Rattle.std.specs.Option.{option_map}
use Rattle.message.specs.declared.fault.Fault.{Fault}
use Rattle.journal.specs.declared.entry.Event.TheVariants.{Refused}
use Rattle.queue_core.specs.declared.command.Command.{Command}
use Rattle.queue_core.specs.Queue.{QueueHistory, reached, rebased_where, outcome_at, with_event}
use Rattle.queue_core.specs.Refusals.{LastsAs}
use Rattle.redrive.specs.House.{House, queue_of_uid}

-- the queue that the command came to, with a checkpoint in the place of its entries where its journal was at the limit, has the one entry more that records the refusal, and
-- stands from then on as without it; every other queue is as it was
pub record IsRefusedBy (old : House) (uid at : ℕ) (command : Command) (fault : Fault) (new : House) : Type 0 where
  pub queue : QueueHistory
  pub there : option_map (λ q. rebased_where (outcome_at q at command).rebases (reached q at command)) (queue_of_uid old uid) ≡ Some queue
  pub entry : queue_of_uid new uid ≡ Some (with_event queue (Refused fault))
  pub lasts : LastsAs (with_event queue (Refused fault)) queue
  pub others : (other : ℕ) → other ≢ uid → queue_of_uid new other ≡ queue_of_uid old other
