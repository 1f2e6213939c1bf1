-- What lies on the desk, as the rule sees it.
use Rattle.std.specs.Prelude.{ℕ, List, Option}
use Rattle.queue_core.specs.Queue.{QueueHistory}
use Rattle.desk.specs.declared.made.Made.{Made}

-- the queue, the call that was made to it last, in this turn or in an earlier one, and the place of the press
pub record Lying : Type 0 where
  pub queue : QueueHistory
  pub made : Option Made
  pub place : List ℕ
