use Rattle.std.specs.Prelude.{◌≡◌, true}
use Rattle.std.specs.List.{All}
use Rattle.queue_actor.specs.Serving.{may_wait}
use Rattle.queue_actor.specs.Waiting.{TakesAnswers}
use Rattle.queue_actor.specs.private.Ending.{EndFrom}
use Rattle.queue_actor.proofs.ServingLemmas.{Serving}
use Rattle.queue_actor.proofs.actor.Actor.run.Given as goal

abbrev pub invariant-loop : goal.invariant-loop
invariant-loop g l =
    (goal.iterator-loop g).can_next l.iterator' × (goal.iterator-loop g).is_finite l.iterator'
    × Serving (g.D.Targets.was_told l.fn.directory) (g.D.Targets.was_taken_out l.fn.directory) (g.D.Targets.was_retargeted l.fn.directory)
    g.I.Inbox.brings g.I.Inbox.is_over g.I.Inbox.gives g.I.Inbox.was_left l.uid l.limit l.fn.self.pass l.fn.mailbox l.self.pass l.parked.items l.last l.mailbox
    × TakesAnswers g.I.Inbox.brings g.I.Inbox.is_over g.I.Inbox.may_give g.I.Inbox.gives g.I.Inbox.was_left l.parked.items l.last l.mailbox
    × EndFrom l.soonest l.parked.items
    × All (λ r. may_wait r ≡ true) l.parked.items
