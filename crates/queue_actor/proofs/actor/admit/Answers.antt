use Rattle.std.proofs.Common.{refl, sym, ◌∙◌, subst, MatchBool, inl, inr, [], ◌∷◌, ◌++◌, append-nil}
use Rattle.queue_actor.specs.Course.{MailboxEvent}
use Rattle.queue_actor.specs.Waiting.{TakesAnswers}
use Rattle.queue_actor.proofs.ServingLemmas.{admits_served, admits_answered, takes_now, takes_served}
use Rattle.queue_actor.proofs.actor.admit.Goals as goal

pub returns-then-is_left-clause-admitted : goal.returns-then-is_left-clause-admitted
returns-then-is_left-clause-admitted g c =
    let left = subst (λ b. MatchBool b (g.I.Inbox.was_left c.args.mailbox.now c.args.ask.reply) (Unit {0})) c.if-is_left.true c.is_left.ensures in (
      MailboxEvent.Left c.args.ask.reply ∷ [],
      admits_served c.args.ask c.args.parked.now.items c.makes_room.new.parked.items (MailboxEvent.Left c.args.ask.reply ∷ []) c.makes_room.ensures.same (sym c.is_receive.ensures ∙ c.if-is_receive.true) (inl refl),
      refl,
      (left, refl),
    )

pub returns-then-is_left-clause-may : goal.returns-then-is_left-clause-may
returns-then-is_left-clause-may g c =
    let left = subst (λ b. MatchBool b (g.I.Inbox.was_left c.args.mailbox.now c.args.ask.reply) (Unit {0})) c.if-is_left.true c.is_left.ensures in
    subst (λ asks. TakesAnswers g.I.Inbox.brings g.I.Inbox.is_over g.I.Inbox.may_give g.I.Inbox.gives g.I.Inbox.was_left asks c.args.ask.moment c.args.mailbox.now) (append-nil c.args.parked.now.items ∙ sym c.makes_room.ensures.same)
    (takes_served g.I.Inbox.brings g.I.Inbox.is_over g.I.Inbox.may_give g.I.Inbox.gives g.I.Inbox.was_left c.args.ask.moment c.args.ask.moment c.args.mailbox.now c.args.mailbox.now c.args.ask c.args.parked.now.items [] (MailboxEvent.Left c.args.ask.reply ∷ [])
    c.requires.may (inl refl) (left, refl))

pub answer_now-requires : goal.answer_now-requires
answer_now-requires g c = record {
  may = takes_now g.I.Inbox.brings g.I.Inbox.is_over g.I.Inbox.may_give g.I.Inbox.gives g.I.Inbox.was_left (c.args.parked.now.items ++ c.args.ask ∷ []) c.args.parked.now.items [] c.args.ask.moment c.args.mailbox.now c.args.ask c.requires.may refl;
}

pub returns-clause-admitted : goal.returns-clause-admitted
returns-clause-admitted g c =
    let e = c.answer_now.ensures in (
      MailboxEvent.Gave c.args.ask.reply e.0 ∷ [],
      admits_answered c.args.ask c.args.parked.now.items c.makes_room.new.parked.items (MailboxEvent.Gave c.args.ask.reply e.0 ∷ []) c.makes_room.ensures.same (e.0, e.1, refl),
      (e.2, e.3),
      (c.answer_now.new.mailbox, e.4, refl),
    )

pub returns-clause-may : goal.returns-clause-may
returns-clause-may g c =
    let e = c.answer_now.ensures in
    subst (λ asks. TakesAnswers g.I.Inbox.brings g.I.Inbox.is_over g.I.Inbox.may_give g.I.Inbox.gives g.I.Inbox.was_left asks c.args.ask.moment c.answer_now.new.mailbox) (append-nil c.args.parked.now.items ∙ sym c.makes_room.ensures.same)
    (takes_served g.I.Inbox.brings g.I.Inbox.is_over g.I.Inbox.may_give g.I.Inbox.gives g.I.Inbox.was_left c.args.ask.moment c.args.ask.moment c.args.mailbox.now c.answer_now.new.mailbox c.args.ask c.args.parked.now.items [] (MailboxEvent.Gave c.args.ask.reply e.0 ∷ [])
    c.requires.may (inr (e.0, e.1, refl)) (c.answer_now.new.mailbox, e.4, refl))
