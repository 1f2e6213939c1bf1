use Rattle.std.proofs.Common.{sym, subst}
use Rattle.queue_actor.specs.private.Ending.{EndFrom}
use Rattle.queue_actor.proofs.EndLemmas.{earliest_ends, looked_ends}
use Rattle.queue_actor.proofs.actor.Actor.look_over.Goals as goal

pub returns-clause-ends : goal.returns-clause-ends
returns-clause-ends g c =
    let looked = c.look_over_first.ensures.looked in
    looked_ends c.args.soonest c.args.limit c.args.at c.args.known c.args.self.now.pass c.look_over_first.new.self.pass c.args.parked.now.items c.look_over_first.new.parked.items looked.0 looked.1 c.requires.ends

pub returns-then-is_sweep-clause-ends : goal.returns-then-is_sweep-clause-ends
returns-then-is_sweep-clause-ends g c =
    let left = c.look_over_all.new.parked.items in
    subst (λ n. EndFrom n left) (sym c.earliest.ensures) (earliest_ends 18446744073709551615 left)
