use Rattle.std.proofs.Common.{MatchBool, subst}
use Rattle.queue_actor.specs.Calling.{HasMoved, HasMovedOne}
use Rattle.queue_actor.proofs.MovingLemmas.{whole_and_one, whole_and_last}
use Rattle.queue_actor.proofs.actor.Actor.move_parcels.Goals as goal

pub returns-then-not-move_first-clause-moved : goal.returns-then-not-move_first-clause-moved
returns-then-not-move_first-clause-moved g c =
    let told = g.D.Targets.was_told c.args.targets.now in
    whole_and_last told c.args.at c.args.self.now.pass c.loop.self.pass c.move_first.new.self.pass c.loop.invariant.2
    (subst (λ moved. MatchBool moved (HasMovedOne told c.args.at c.loop.self.pass c.move_first.new.self.pass) (HasMoved told c.args.at c.loop.self.pass c.move_first.new.self.pass)) c.if-not-move_first.true c.move_first.ensures.moved)

pub loop-preserved : goal.loop-preserved
loop-preserved g c =
    let told = g.D.Targets.was_told c.args.targets.now in (
      tt,
      tt,
      whole_and_one told c.args.at c.args.self.now.pass c.loop.self.pass c.move_first.new.self.pass c.loop.invariant.2
          (subst (λ moved. MatchBool moved (HasMovedOne told c.args.at c.loop.self.pass c.move_first.new.self.pass) (HasMoved told c.args.at c.loop.self.pass c.move_first.new.self.pass)) c.if-not-move_first.false c.move_first.ensures.moved),
    )
