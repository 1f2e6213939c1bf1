use Rattle.std.specs.Prelude.{◌≡◌, take}
use Rattle.queue_actor.specs.private.Ending.{earliest}
use Rattle.queue_actor.proofs.actor.earliest.Given as goal

abbrev pub invariant-loop-place : goal.invariant-loop-place
invariant-loop-place g l = l.soonest ≡ earliest 18446744073709551615 (take l.place l.parked.items)
