use Rattle.std.proofs.Common.{refl, subst, MatchBool, inl, inr, [], ◌∷◌}
use Rattle.queue_actor.specs.Course.{MailboxEvent}
use Rattle.queue_actor.proofs.actor.answer_awaited.Goals as goal

pub returns-then-not-is_left : goal.returns-then-not-is_left
returns-then-not-is_left g c = (
  MailboxEvent.Gave c.args.ask.reply c.answer.ensures.0 ∷ [],
  inr (c.answer.ensures.0, c.answer.ensures.1, refl),
  (c.answer.new.mailbox, c.answer.ensures.2, refl),
)

pub returns-else-not-is_left : goal.returns-else-not-is_left
returns-else-not-is_left g c =
    let left = subst (λ b. MatchBool b (g.I.Inbox.was_left c.args.mailbox.now c.args.ask.reply) (Unit {0})) c.if-not-is_left.false c.is_left.ensures in
    (MailboxEvent.Left c.args.ask.reply ∷ [], inl refl, (left, refl))
