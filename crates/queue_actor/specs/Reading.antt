-- What is read of a queue without a turn.
use Rattle.std.specs.Prelude.{◌≡◌, ℕ, List}
use Rattle.desk.specs.Printed.{TurnReport, IsPublicationRecord}
use Rattle.queue_core.specs.Queue.{QueueHistory}
use Rattle.board.specs.Queue as queues
use Rattle.board.specs.Sheet.{Sheet}
use Rattle.board.specs.Shown.{sheet_after}

-- a sheet is that of a board that began with a given one, after some record of printed turns
abbrev pub IsReadOf : Sheet → Sheet → Type 0
IsReadOf given sheet = (turns : List TurnReport) × IsPublicationRecord turns × (sheet ≡ sheet_after given turns)

-- a sheet is that of a queue which was opened under a name, after some record of turns that were printed on its board
abbrev pub IsSheetUnder : List ℕ → Sheet → Type 0
IsSheetUnder name sheet = (queue : QueueHistory) × (queue.name ≡ name) × IsReadOf (queues.sheet_of queue) sheet
