-- The place of a board, after turns that are put on it.
use Rattle.std.specs.Prelude.{ℕ, List}
use Rattle.board.specs.Printed.{Publications, place_of}

-- the place, behind turns that are put on the board
abbrev pub place_with : List ℕ → Publications → List ℕ
place_with place told = place_of told.book
