use Rattle.std.proofs.Common.{◌≡◌, ℕ, drop, sym, ap, ◌∙◌}
use Rattle.board.specs.Printed.{Publications, place_of}
use Rattle.board.specs.private.Rule.{IsAt}
use Rattle.board.proofs.Placing.{admits, forks, merges, still_at}
use Rattle.board.proofs.publisher.Publisher.reader.Goals as goal

pub reader-requires : goal.reader-requires
reader-requires g c = admits

pub tell-requires : goal.tell-requires
tell-requires g c = forks _ _

pub learn-requires-clause-rule : goal.learn-requires-clause-rule
learn-requires-clause-rule g c = merges _ _ _ _

pub new-requires : goal.new-requires
new-requires g c =
    c.learn.ensures.1
    ∙ (c.tell.ensures.given.1 ∙ ((c.self.invariant.1 c.in-Some.copies c.in-Some.is).known ∙ ap (λ (t : Publications). place_of t.book) (sym c.in_ok-told.ensures)))

pub invariant_of-self-in_err-side : goal.invariant_of-self-in_err-side
invariant_of-self-in_err-side g c = (c.self.invariant.0, λ x e. c.self.invariant.1 x (c.in-Some.is ∙ e))

pub invariant_of-self-2 : goal.invariant_of-self-2
invariant_of-self-2 g c =
    let place = place_of c.self.inside.told.book in let old = c.in-Some.copies in let new = c.tell.new.self in let kept = c.tell.ensures.kept in
    let waits : drop new.behind new.log.items ≡ drop old.behind old.log.items =
    ap (λ (n : ℕ). drop n new.log.items) kept.2 ∙ ap (λ log. drop old.behind log.items) kept.1 in
    let at : IsAt place new.desk.shown.value (drop new.behind new.log.items) new.desk.place.me.0.client =
    still_at place old.desk.shown.value (drop old.behind old.log.items) old.desk.place.me.0.client new.desk.shown.value (drop new.behind new.log.items) new.desk.place.me.0.client
    (ap (λ part. part.value) kept.0) waits kept.3 (c.self.invariant.1 old c.in-Some.is) in (
      c.self.invariant.0,
      λ x e.
          let same : new ≡ x = cc e in
          still_at place new.desk.shown.value (drop new.behind new.log.items) new.desk.place.me.0.client x.desk.shown.value (drop x.behind x.log.items) x.desk.place.me.0.client
          (ap (λ w. w.desk.shown.value) (sym same)) (ap (λ w. drop w.behind w.log.items) (sym same)) (ap (λ w. w.desk.place.me.0.client) (sym same)) at,
    )
