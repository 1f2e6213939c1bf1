-- The exchange that adds a turn keeps the rule of the book.
use Rattle.std.proofs.Common.{◌≡◌, ℕ, ◌+◌, ◌<◌, ◌==◌, Bool, true, false, List, [], ◌∷◌, ◌++◌, length, refl, ap, sym, subst, arith, inl, length-append, None}
use Rattle.std.proofs.lemmas.List.{append-nil}
use Rattle.std.proofs.lemmas.Bool.Decides.{nat_tests}
use mathlib.Core.List.{IsPrefix}
use prog.Atomic.{either}
use Rattle.logbook.specs.Pages.{Cell, cell, keeps, no_nib, step, Moves, Goes}
use Rattle.desk.specs.Printed.{TurnReport, IsPublicationRecord}
use Rattle.board.specs.private.Rule.{IsKept, Adds}
use Rattle.board.proofs.Prefixes.{prefix_whole}

abbrev pub shown : List TurnReport → List TurnReport
shown turns = []

abbrev pub moved : List TurnReport → List TurnReport → ℕ → Type 0
moved xs ys n = Unit {0}

pub adds_goes : (log v : List TurnReport) (turn : TurnReport) (old : ℕ) → length v ≡ old → IsPublicationRecord (v ++ turn ∷ []) → IsPublicationRecord log → IsPrefix v log
    → (b : Bool) → (length log == old) ≡ b
    → Goes IsKept shown moved 0 (v, (no_nib, None)) (λ n. either (n == old) (old + 1) n) (Adds (step 0 old (old + 1) turn) (v, (no_nib, None))) ((length log, true) ∷ (0, true) ∷ []) log
adds_goes log v turn old len may fits pre true is =
    let here : length log ≡ old = grind (arith, nat_tests) in
    let same : v ≡ log = prefix_whole v log pre (omega arith) in
    let fits' : IsPublicationRecord (log ++ turn ∷ []) = subst (λ (l : List TurnReport). IsPublicationRecord (l ++ turn ∷ [])) same may in
    let n : either (length log == old) (old + 1) (length log) ≡ length (log ++ turn ∷ []) = rw is (omega (arith, length-append log (turn ∷ []))) in (
      keeps,
      turn ∷ [],
      None,
      tt,
      record { words = ap (λ (k : ℕ). (k, true) ∷ (0, true) ∷ []) n; fits = fits' },
      inl (refl, refl),
      rw is (ap (λ w. w ++ turn ∷ []) (sym same)),
    )
adds_goes log v turn old len may fits pre false is =
    let all : log ++ [] ≡ log = append-nil log in
    let fits' : IsPublicationRecord (log ++ []) = subst IsPublicationRecord (sym all) fits in
    let n : either (length log == old) (old + 1) (length log) ≡ length (log ++ []) = rw is (ap length (sym all)) in (
      keeps,
      [],
      None,
      tt,
      record { words = ap (λ (k : ℕ). (k, true) ∷ (0, true) ∷ []) n; fits = fits' },
      inl (refl, refl),
      rw is tt,
    )

-- whatever the book is, the exchange adds the turn to all that was seen, or finds that others stand there
pub adds_moves : (v : List TurnReport) (turn : TurnReport) (old : ℕ) → length v ≡ old → IsPublicationRecord (v ++ turn ∷ [])
    → Moves IsKept shown moved 0 (v, (no_nib, None)) (λ n. either (n == old) (old + 1) n) (Adds (step 0 old (old + 1) turn) (v, (no_nib, None)))
adds_moves v turn old len may cs log kept pre away =
    let P : List Cell → Type 0 = λ c. (0 < length c) × ((cell c 0).1 ≡ true)
    × Goes IsKept shown moved 0 (v, (no_nib, None)) (λ n. either (n == old) (old + 1) n) (Adds (step 0 old (old + 1) turn) (v, (no_nib, None))) c log in
    subst P (sym kept.words) (omega arith, refl, adds_goes log v turn old len may kept.fits pre (length log == old) refl)
