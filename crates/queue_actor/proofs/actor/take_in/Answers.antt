use Rattle.std.proofs.Common.{subst}
use Rattle.queue_actor.specs.Waiting.{TakesAnswers, waiting_with, moment_with}
use Rattle.queue_actor.proofs.actor.take_in.Goals as goal

pub admit-is_closed-requires : goal.admit-is_closed-requires
admit-is_closed-requires g c = record {
  may = subst (λ m. TakesAnswers g.I.Inbox.brings g.I.Inbox.is_over g.I.Inbox.may_give g.I.Inbox.gives g.I.Inbox.was_left (waiting_with c.args.parked.now.items m) (moment_with c.args.last m) c.args.mailbox.now) c.in-Ask.is c.requires.may;
}

pub returns-in-Tick-clause-may : goal.returns-in-Tick-clause-may
returns-in-Tick-clause-may g c =
    subst (λ m. TakesAnswers g.I.Inbox.brings g.I.Inbox.is_over g.I.Inbox.may_give g.I.Inbox.gives g.I.Inbox.was_left (waiting_with c.args.parked.now.items m) (moment_with c.args.last m) c.args.mailbox.now) c.in-Tick.is c.requires.may

pub returns-in-End-clause-may : goal.returns-in-End-clause-may
returns-in-End-clause-may g c =
    subst (λ m. TakesAnswers g.I.Inbox.brings g.I.Inbox.is_over g.I.Inbox.may_give g.I.Inbox.gives g.I.Inbox.was_left (waiting_with c.args.parked.now.items m) (moment_with c.args.last m) c.args.mailbox.now) c.in-End.is c.requires.may
