-- A journal that a checkpoint has replaced, and which comes back where the command behind it finds no memory.
use Rattle.std.specs.Prelude.{Option, Some, None}
use Rattle.journal.specs.Journal.{Lines}
use Rattle.queue_core.specs.Queue.{QueueHistory}
use Rattle.queue_core.specs.private.Kept.{IsKept}
use Rattle.queue_core.specs.Standing.{StandsFor}

abbrev pub with_journal : QueueHistory → Lines → QueueHistory
with_journal q journal = record q { lines = journal.lines; spare = journal.spare }

-- the queue with it is legal, and stands for the queue as it is
pub record CanComeBack (q : QueueHistory) (journal : Lines) : Type 0 where
  pub kept : IsKept (with_journal q journal) journal.limit
  pub same : StandsFor (with_journal q journal) q

abbrev pub put_back_in : Option Lines → QueueHistory → QueueHistory
put_back_in None q = q
put_back_in (Some journal) q = with_journal q journal
