use Rattle.std.proofs.Common.{◌-◌}
use Rattle.queue_actor.proofs.ServingLemmas.{Looking}
use Rattle.queue_actor.proofs.actor.Actor.look_over_all.Given as goal

abbrev pub invariant-loop : goal.invariant-loop
invariant-loop g l =
    Looking g.I.Inbox.brings g.I.Inbox.is_over g.I.Inbox.may_give g.I.Inbox.gives g.I.Inbox.was_left l.limit l.at l.known l.fn.self.pass l.fn.parked.items l.fn.mailbox l.quiet l.self.pass l.parked.items l.mailbox
    (l.end - l.counter)
