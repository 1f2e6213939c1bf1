-- The sheet of a reader, what it knows, and what it knows later.
use Rattle.std.specs.Prelude.{◌≡◌}
use mathlib.Core.List.{IsPrefix}
use Rattle.desk.specs.Printed.{IsPublicationRecord}
use Rattle.board.specs.Sheet.{Sheet}
use Rattle.board.specs.Shown.{Reader, sheet_after}

-- the sheet of a reader: that after the turns that it has seen
abbrev pub sheet_of : Reader → Sheet
sheet_of reader = sheet_after reader.given reader.turns

-- all turns that a reader has seen are a record
abbrev pub HasRecord : Reader → Type 0
HasRecord reader = IsPublicationRecord reader.turns

-- the same reader later: of the same board, and it has forgotten no turn
pub record IsLater (before after : Reader) : Type 0 where
  pub given : after.given ≡ before.given
  pub book : after.book ≡ before.book
  pub turns : IsPrefix before.turns after.turns
