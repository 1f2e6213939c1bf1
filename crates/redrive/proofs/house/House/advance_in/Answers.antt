use Rattle.std.proofs.Common.{◌+◌, ◌≤◌, sym, subst, ◌∙◌}
use Rattle.queue_core.specs.Queue.{at_moment}
use Rattle.redrive.specs.House.{House}
use Rattle.redrive.specs.Cost.{change_ticks}
use Rattle.redrive.proofs.RegistryLemmas.{changed-absent}
use Rattle.redrive.proofs.PlaceLemmas.{place-shown, changed-at, ticks-at, IsKept-moved_at}
use Rattle.redrive.proofs.house.House.advance_in.Goals as goal

pub invariant_of-self : goal.invariant_of-self
invariant_of-self c =
    let w = c.self.inside.queues in
    let here = place-shown c.args.uid c.self.view_is c.place_of.ensures.place c.in-Some.is in
    IsKept-moved_at w c.args.uid c.in-Some.place here c.self.inside.keys c.args.at c.advance_at.new.self c.self.invariant c.advance_at.ensures.state

pub returns-in-Some-clause-state : goal.returns-in-Some-clause-state
returns-in-Some-clause-state c =
    let w = c.self.inside.queues in
    let here = place-shown c.args.uid c.self.view_is c.place_of.ensures.place c.in-Some.is in
    rw (← c.self.view_is) (c.advance_at.ensures.state ∙ changed-at w c.args.uid c.in-Some.place here (λ q. at_moment q c.args.at) c.self.invariant.registry)

pub returns-in_default-clause-state : goal.returns-in_default-clause-state
returns-in_default-clause-state c = sym (changed-absent c.args.self.now c.args.uid _ (sym c.place_of.ensures.place ∙ c.in_default.is))

pub returns-in-Some-clause-cost : goal.returns-in-Some-clause-cost
returns-in-Some-clause-cost c =
    let w = c.self.inside.queues in
    let here = place-shown c.args.uid c.self.view_is c.place_of.ensures.place c.in-Some.is in
    subst (λ (w : House). c.advance_at.new.ticks ≤ c.args.ticks.now + change_ticks w c.args.uid (λ q. at_moment q c.args.at)) c.self.view_is
    (ticks-at w c.args.uid c.in-Some.place here (λ q. at_moment q c.args.at) c.args.ticks.now c.advance_at.new.ticks c.advance_at.ensures.cost)
