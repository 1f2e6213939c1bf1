-- What waits in a queue for its dead-letter queue.
use Rattle.std.specs.Prelude.{ℕ, List, []}
use Rattle.std.specs.Option.{option_map_or}
use Rattle.queue_core.specs.declared.facts.Transfer.{Transfer}
use Rattle.queue_core.specs.Messages.{pending_transfers}
use Rattle.redrive.specs.House.{House, queue_of_uid}

-- the transfers of the queue of a uid that are not confirmed, in the order in which the messages left
abbrev pub waiting_in : House → ℕ → List Transfer
waiting_in w source = option_map_or (λ q. pending_transfers q.lines) (queue_of_uid w source) []
