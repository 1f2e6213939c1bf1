use Rattle.std.proofs.Common.{◌≡◌, [], subst, sym, ◌∙◌}
use Rattle.queue_actor.proofs.ServingLemmas.{Answering, answering_begins, answering_goes, answering_ends, nothing_left, takes_behind, takes_now}
use Rattle.queue_actor.proofs.actor.answer_all.Goals as goal

pub loop-poll-init : goal.loop-poll-init
loop-poll-init g c = answering_begins g.I.Inbox.brings g.I.Inbox.is_over g.I.Inbox.may_give g.I.Inbox.gives g.I.Inbox.was_left c.args.at c.args.parked.items c.args.mailbox.now

pub answer_awaited-requires : goal.answer_awaited-requires
answer_awaited-requires g c =
    let h = c.loop-poll.invariant in
    record {
      may = takes_now g.I.Inbox.brings g.I.Inbox.is_over g.I.Inbox.may_give g.I.Inbox.gives g.I.Inbox.was_left c.loop-poll.parked.items [] c.pop_front.new.self.items c.args.at c.loop-poll.mailbox c.in-Some.poll
          (takes_behind g.I.Inbox.brings g.I.Inbox.is_over g.I.Inbox.may_give g.I.Inbox.gives g.I.Inbox.was_left c.args.parked.items c.loop-poll.parked.items c.args.at c.args.at c.args.mailbox.now c.loop-poll.mailbox
          h.happened c.requires.may h.goes h.waits)
          c.in-Some.ensures.items;
    }

pub loop-poll-preserved : goal.loop-poll-preserved
loop-poll-preserved g c = answering_goes g.I.Inbox.brings g.I.Inbox.is_over g.I.Inbox.may_give g.I.Inbox.gives g.I.Inbox.was_left c.args.at c.args.parked.items c.args.mailbox.now c.in-Some.poll
    c.pop_front.new.self.items c.loop-poll.mailbox c.answer_awaited.new.mailbox c.answer_awaited.ensures.0
    (subst (λ xs. Answering g.I.Inbox.brings g.I.Inbox.is_over g.I.Inbox.may_give g.I.Inbox.gives g.I.Inbox.was_left c.args.at c.args.parked.items c.args.mailbox.now xs c.loop-poll.mailbox) c.in-Some.ensures.items c.loop-poll.invariant)
    c.answer_awaited.ensures.1 c.answer_awaited.ensures.2

pub returns : goal.returns
returns g c =
    let empty : c.loop-poll.parked.items ≡ [] = nothing_left _ (sym c.loop-poll.parked.ok.0 ∙ c.in_default.ensures.cases.0) in
    answering_ends g.I.Inbox.brings g.I.Inbox.is_over g.I.Inbox.may_give g.I.Inbox.gives g.I.Inbox.was_left c.args.at c.args.parked.items c.args.mailbox.now c.loop-poll.mailbox
    (subst (λ xs. Answering g.I.Inbox.brings g.I.Inbox.is_over g.I.Inbox.may_give g.I.Inbox.gives g.I.Inbox.was_left c.args.at c.args.parked.items c.args.mailbox.now xs c.loop-poll.mailbox) empty c.loop-poll.invariant)
