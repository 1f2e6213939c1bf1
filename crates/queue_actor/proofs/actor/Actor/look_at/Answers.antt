use Rattle.std.proofs.Common.{refl, subst, MatchBool, inl, inr, [], ◌∷◌}
use Rattle.queue_actor.specs.Course.{MailboxEvent}
use Rattle.queue_actor.specs.Calling.{KeepsWaiting}
use Rattle.queue_actor.proofs.actor.Actor.look_at.Goals as goal

pub returns-then-is_left-clause-looked : goal.returns-then-is_left-clause-looked
returns-then-is_left-clause-looked g c =
    let left = subst (λ b. MatchBool b (g.I.Inbox.was_left c.args.mailbox.now c.args.poll.reply) (Unit {0})) c.if-is_left.true c.is_left.ensures in
    (MailboxEvent.Left c.args.poll.reply ∷ [], inl (refl, refl), (left, refl))

pub returns-clause-looked : goal.returns-clause-looked
returns-clause-looked g c =
    let keeps = subst (λ b. KeepsWaiting c.args.limit c.args.at c.args.quiet c.args.poll.wait_until b c.args.self.now.pass c.keeps_waiting.new.self.pass) c.if-keeps_waiting.false c.keeps_waiting.ensures in (
      MailboxEvent.Gave c.args.poll.reply c.answer.ensures.0 ∷ [],
      inr (keeps, (c.answer.ensures.0, c.answer.ensures.1, refl)),
      (c.answer.new.mailbox, c.answer.ensures.2, refl),
    )
