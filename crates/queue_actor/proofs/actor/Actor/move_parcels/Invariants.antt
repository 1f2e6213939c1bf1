use Rattle.queue_actor.specs.Calling.{HasMade}
use Rattle.queue_actor.proofs.MovingLemmas.{AreWholeMoves}
use Rattle.queue_actor.proofs.actor.Actor.move_parcels.Given as goal

abbrev pub invariant-loop : goal.invariant-loop
invariant-loop g l =
    (goal.iterator-loop g).can_next l.iterator' × (goal.iterator-loop g).is_finite l.iterator' × HasMade (λ calls. AreWholeMoves (g.D.Targets.was_told l.fn.targets) l.at calls) l.fn.self.pass l.self.pass
