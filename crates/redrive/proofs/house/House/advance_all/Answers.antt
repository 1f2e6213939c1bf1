use Rattle.redrive.proofs.RegistryLemmas.{IsKept-at_moment}
use Rattle.redrive.proofs.house.House.advance_all.Goals as goal

pub invariant_of-self : goal.invariant_of-self
invariant_of-self c = rw c.advance_all.ensures.state (IsKept-at_moment c.self.inside.queues c.self.inside.keys c.self.invariant c.args.at)
