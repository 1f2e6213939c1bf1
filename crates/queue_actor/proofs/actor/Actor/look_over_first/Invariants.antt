use Rattle.std.specs.VecDeque.{deque_len}
use Rattle.queue_actor.proofs.ServingLemmas.{Passing}
use Rattle.queue_actor.proofs.actor.Actor.look_over_first.Given as goal

abbrev pub decreases-loop-poll : goal.decreases-loop-poll
decreases-loop-poll g l = deque_len l.parked

abbrev pub invariant-loop-poll : goal.invariant-loop-poll
invariant-loop-poll g l =
    Passing g.I.Inbox.brings g.I.Inbox.is_over g.I.Inbox.may_give g.I.Inbox.gives g.I.Inbox.was_left l.limit l.at l.known l.fn.self.pass l.fn.parked.items l.fn.mailbox l.quiet l.self.pass l.parked.items l.mailbox
