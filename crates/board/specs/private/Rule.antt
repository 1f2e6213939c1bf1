-- The rule of a board: what holds of its book and of what those know who print on it and read it.
use Rattle.std.specs.Prelude.{ℕ, ◌≡◌, ◌==◌, ◌⊎◌, true, List, [], ◌∷◌, ◌++◌, length, fold, MatchBool}
use mathlib.Core.Option.{some}
use lib.ListN.{get_elem?}
use Rattle.logbook.specs.Pages.{Cell, Step, View, Book, Named}
use Rattle.desk.specs.Printed.{TurnReport, IsPublicationRecord}
use Rattle.board.specs.Printed.{Publications, place_of}
use Rattle.board.specs.Rule.{place_with}

-- The first word is the number of the turns, which are a record. A book has two words, of which this one leaves the second at 0
pub record IsKept (cells : List Cell) (turns : List TurnReport) : Type 0 where
  pub words : cells ≡ (length turns, true) ∷ (0, true) ∷ []
  pub fits : IsPublicationRecord turns

-- the word that counts the turns
abbrev pub count_of : Book → Named
count_of b = record { tracked = true; key = 0; book = b }

-- the turn was added to all that had been seen, or others stand there
abbrev pub Adds : Step TurnReport → View TurnReport ℕ → ℕ → View TurnReport ℕ → Type 0
Adds s v found w = MatchBool (found == s.old) (w.0 ≡ v.0 ++ s.ask ∷ []) (Unit {0})

-- each view is empty yet, or the place of the turns that lie on the board
abbrev pub IsOfPlace : Publications → List (List ℕ) → Type 0
IsOfPlace told views = (seat : ℕ) (v : List ℕ) → get_elem? views seat ≡ some v → (v ≡ []) ⊎ (v ≡ place_of told.book)

-- the view afterwards is the place of what lies there then
abbrev pub Sees : List ℕ → Publications → Publications → List ℕ → Type 0
Sees v x y w = ((v ≡ []) ⊎ (v ≡ place_of x.book)) × (w ≡ place_of y.book)

-- who puts turns on the board has this place alone: of what lies there, of what is not seen there yet, and of the view
pub record IsAt (place : List ℕ) (shown : Publications) (pending : List Publications) (view : List ℕ) : Type 0 where
  pub lies : place_of shown.book ≡ place
  pub comes : fold place_with place pending ≡ place
  pub known : view ≡ place
