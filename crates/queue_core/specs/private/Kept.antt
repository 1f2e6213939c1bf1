-- What holds of the journal that a queue keeps.
use Rattle.std.specs.Prelude.{◌≡◌, ℕ, ◌+◌, ◌≤◌, false}
use Rattle.journal.specs.Weight.{weight_of}
use Rattle.queue_core.specs.Messages.{is_closed}
use Rattle.queue_core.specs.Queue.{QueueHistory}
use Rattle.queue_core.specs.Legal.{IsLegal}

-- the journal is legal, and may weigh one more than a queue may fill it with, which only the entry that closes the queue takes
pub record IsKept (q : QueueHistory) (limit : ℕ) : Type 0 where
  pub room : limit ≡ q.limits.max_lines + 1
  pub within : weight_of q.lines ≤ q.limits.max_lines + 1
  pub place_left : is_closed q.lines ≡ false → weight_of q.lines ≤ q.limits.max_lines
  pub legal : IsLegal q
