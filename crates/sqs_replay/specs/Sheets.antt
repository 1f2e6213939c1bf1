-- The statistics of all queues, by name.
use Rattle.std.specs.Prelude.{List, map}
use Rattle.board.specs.Sheet.{Sheet}
use Rattle.board.specs.Queue.{sheet_of}
use Rattle.statistics_api.specs.Texts.{by_name}
use Rattle.redrive.specs.House.{House}

abbrev pub sheets_of : House → List Sheet
sheets_of w = by_name (map sheet_of w.queues)
