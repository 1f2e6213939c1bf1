use Rattle.std.proofs.Common.{◌≡◌, List, [], ◌∷◌, ◌++◌, sym, ◌∙◌, ap, subst}
use Rattle.desk.specs.Printed.{TurnReport, IsPublicationRecord}
use Rattle.board.specs.Printed.{Publications}
use Rattle.board.specs.private.Rule.{count_of}
use Rattle.board.proofs.Adding.{adds_moves}
use Rattle.board.proofs.told.KnownTurns.add.Goals as goal

pub compare_exchange-found-requires : goal.compare_exchange-found-requires
compare_exchange-found-requires c =
    let book = ap (λ (p : Publications). p.book) c.self.view_is in
    let turns = ap (λ (p : Publications). p.turns) c.self.view_is in
    let again = c.again-seen.ensures in
    let offer = c.plain-offer.ensures in
    let pen = c.no_pen-pen.ensures in
    let word : c.args.count.now ≡ count_of c.self.inside.seen.book = c.requires.word ∙ ap count_of (sym book) in
    let fits : IsPublicationRecord (c.self.inside.seen.log ++ c.args.turn.now.value ∷ []) =
    subst (λ (l : List TurnReport). IsPublicationRecord (l ++ c.args.turn.now.value ∷ [])) (sym turns) c.requires.fits in (
      ap (λ w. w.tracked) word,
      ap (λ s. s.book) again ∙ sym (ap (λ w. w.book) word),
      pen.0 ∙ (ap (λ s. s.book) again ∙ sym (ap (λ w. w.book) word)),
      offer.0,
      rw (ap (λ w. w.key) word, ap (λ s. s.log) again, pen.1, offer.1, offer.3) (adds_moves c.self.inside.seen.log c.args.turn.now.value c.self.inside.count (sym c.self.invariant.0) fits),
    )
