use Rattle.std.proofs.Common.{[], ◌∷◌, ◌++◌, drop, ap, sym, subst, ◌∙◌}
use Rattle.logbook.specs.Pages.{Book}
use Rattle.desk.specs.Printed.{TurnReport}
use Rattle.board.specs.Printed.{Publications, place_of}
use Rattle.board.specs.private.Rule.{IsAt, count_of}
use Rattle.board.proofs.publisher.Publisher.publish.Goals as goal

pub invariant_of-self : goal.invariant_of-self
invariant_of-self g c =
    let book = ap (λ (p : Publications). p.book) c.of.ensures ∙ c.in_ok-seen.ensures.book in (
      c.self.invariant.0 ∙ ap count_of (sym book),
      λ x e. subst (λ (b : Book). IsAt (place_of b) x.desk.shown.value (drop x.behind x.log.items) x.desk.place.me.0.client) (sym book) (c.self.invariant.1 x e),
    )

pub returns-clause-told : goal.returns-clause-told
returns-clause-told g c = (
  ap (λ (p : Publications). p.book) c.of-3.ensures ∙ (c.in_ok-seen.ensures.book ∙ ap (λ (p : Publications). p.book) c.self.view_is),
  ap (λ (p : Publications). p.turns) c.of-3.ensures ∙ (c.in_ok-seen.ensures.turns
      ∙ (ap (λ (t : TurnReport). c.self.inside.told.turns ++ t ∷ []) c.of-entry.ensures ∙ ap (λ (p : Publications). p.turns ++ c.args.turn ∷ []) c.self.view_is)),
)

pub returns-clause-some : goal.returns-clause-some
returns-clause-some g c =
    ap (λ (p : Publications). p.turns) (c.put.ensures ∙ c.of.ensures) ∙ (c.in_ok-seen.ensures.turns
    ∙ (ap (λ (t : TurnReport). c.self.inside.told.turns ++ t ∷ []) c.of-entry.ensures ∙ ap (λ (p : Publications). p.turns ++ c.args.turn ∷ []) c.self.view_is))
