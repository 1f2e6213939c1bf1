-- The turns that were printed on one board.
use Rattle.std.specs.Prelude.{ℕ, List, [], ◌∷◌}
use Rattle.logbook.specs.Pages.{Book}
use Rattle.desk.specs.Printed.{TurnReport}

-- the book that the turns of a board stand in, and the turns that are known of it
pub record Publications : Type 0 where
  pub book : Book
  pub turns : List TurnReport

-- the place of a board: what tells its book from each other one
abbrev pub place_of : Book → List ℕ
place_of b = b.number ∷ b.log_name ∷ b.cells_name ∷ []
