use Rattle.std.proofs.Common.{◌≡◌, [], ◌∷◌, drop, subst, sym, ap, ◌∙◌}
use Rattle.queue_actor.proofs.ServingLemmas.{IsOver, Passing, nothing_left, passing_begins, passing_ends, passing_goes, passing_stops, passing_takes, takes_behind}
use Rattle.queue_actor.proofs.actor.Actor.look_over_first.Given as given
use Rattle.queue_actor.proofs.actor.Actor.look_over_first.Goals as goal
use Rattle.queue_actor.proofs.actor.Actor.look_over_first.Goals.{After-push_front_reserved, In_default}

pub loop-poll-init : goal.loop-poll-init
loop-poll-init g c =
    passing_begins g.I.Inbox.brings g.I.Inbox.is_over g.I.Inbox.may_give g.I.Inbox.gives g.I.Inbox.was_left c.args.limit c.args.at c.args.known c.args.self.now.pass c.args.parked.now.items c.args.mailbox.now c.requires.early

pub look_at-requires : goal.look_at-requires
look_at-requires g c = record {
  may = passing_takes g.I.Inbox.brings g.I.Inbox.is_over g.I.Inbox.may_give g.I.Inbox.gives g.I.Inbox.was_left c.args.limit c.args.at c.args.known c.args.self.now.pass c.args.parked.now.items c.args.mailbox.now c.loop-poll.quiet c.loop-poll.self.pass
      c.pop_front.new.self.items c.loop-poll.mailbox c.in-Some.poll c.requires.may
      (subst (λ polls. Passing g.I.Inbox.brings g.I.Inbox.is_over g.I.Inbox.may_give g.I.Inbox.gives g.I.Inbox.was_left c.args.limit c.args.at c.args.known c.args.self.now.pass c.args.parked.now.items c.args.mailbox.now c.loop-poll.quiet c.loop-poll.self.pass polls c.loop-poll.mailbox)
      c.in-Some.ensures.items c.loop-poll.invariant);
}

-- what is known where the poll goes on waiting, of the polls as they lie then
stopped : (g : given.Over) (c : After-push_front_reserved g) → IsOver g.I.Inbox.brings g.I.Inbox.is_over g.I.Inbox.may_give g.I.Inbox.gives g.I.Inbox.was_left c.args.limit c.args.at c.args.known c.args.self.now.pass c.args.parked.now.items c.args.mailbox.now c.look_at.new.self.pass c.push_front_reserved.new.self.items c.look_at.new.mailbox
stopped g c =
    let same : c.in-Some-look_at.poll ≡ c.in-Some.poll = c.in-Some-look_at.ensures.same in
    let polls : c.push_front_reserved.new.self.items ≡ c.in-Some.poll ∷ c.pop_front.new.self.items = c.push_front_reserved.ensures.items ∙ ap (λ p. p ∷ c.pop_front.new.self.items) same in
    subst (λ ps. IsOver g.I.Inbox.brings g.I.Inbox.is_over g.I.Inbox.may_give g.I.Inbox.gives g.I.Inbox.was_left c.args.limit c.args.at c.args.known c.args.self.now.pass c.args.parked.now.items c.args.mailbox.now c.look_at.new.self.pass ps c.look_at.new.mailbox) (sym polls)
    (passing_stops g.I.Inbox.brings g.I.Inbox.is_over g.I.Inbox.may_give g.I.Inbox.gives g.I.Inbox.was_left c.args.limit c.args.at c.args.known c.args.self.now.pass c.args.parked.now.items c.args.mailbox.now c.loop-poll.quiet c.loop-poll.self.pass c.look_at.new.self.pass
    c.pop_front.new.self.items c.loop-poll.mailbox c.look_at.new.mailbox c.in-Some.poll c.in-Some-look_at.ensures.looked.0
    (subst (λ polls. Passing g.I.Inbox.brings g.I.Inbox.is_over g.I.Inbox.may_give g.I.Inbox.gives g.I.Inbox.was_left c.args.limit c.args.at c.args.known c.args.self.now.pass c.args.parked.now.items c.args.mailbox.now c.loop-poll.quiet c.loop-poll.self.pass polls c.loop-poll.mailbox)
    c.in-Some.ensures.items c.loop-poll.invariant) c.in-Some-look_at.ensures.looked.1 c.in-Some-look_at.ensures.looked.2)

pub returns-in-Some-look_at-clause-looked : goal.returns-in-Some-look_at-clause-looked
returns-in-Some-look_at-clause-looked g c =
    let all = stopped g c in
    (all.0, all.1, all.2)

pub returns-in-Some-look_at-clause-may : goal.returns-in-Some-look_at-clause-may
returns-in-Some-look_at-clause-may g c =
    let all = stopped g c in
    takes_behind g.I.Inbox.brings g.I.Inbox.is_over g.I.Inbox.may_give g.I.Inbox.gives g.I.Inbox.was_left c.args.parked.now.items c.push_front_reserved.new.self.items c.args.at c.args.at c.args.mailbox.now c.look_at.new.mailbox all.0 c.requires.may all.2 all.3

pub loop-poll-preserved : goal.loop-poll-preserved
loop-poll-preserved g c =
    passing_goes g.I.Inbox.brings g.I.Inbox.is_over g.I.Inbox.may_give g.I.Inbox.gives g.I.Inbox.was_left c.args.limit c.args.at c.args.known c.args.self.now.pass c.args.parked.now.items c.args.mailbox.now c.loop-poll.quiet c.loop-poll.self.pass c.look_at.new.self.pass
    c.pop_front.new.self.items c.loop-poll.mailbox c.look_at.new.mailbox c.in-Some.poll c.in_default-look_at.ensures.looked.0
    (subst (λ polls. Passing g.I.Inbox.brings g.I.Inbox.is_over g.I.Inbox.may_give g.I.Inbox.gives g.I.Inbox.was_left c.args.limit c.args.at c.args.known c.args.self.now.pass c.args.parked.now.items c.args.mailbox.now c.loop-poll.quiet c.loop-poll.self.pass polls c.loop-poll.mailbox)
    c.in-Some.ensures.items c.loop-poll.invariant) c.in_default-look_at.ensures.looked.1 c.in_default-look_at.ensures.looked.2

-- what is known where no poll is left
ended : (g : given.Over) (c : In_default g) → IsOver g.I.Inbox.brings g.I.Inbox.is_over g.I.Inbox.may_give g.I.Inbox.gives g.I.Inbox.was_left c.args.limit c.args.at c.args.known c.args.self.now.pass c.args.parked.now.items c.args.mailbox.now c.loop-poll.self.pass c.pop_front.new.self.items c.loop-poll.mailbox
ended g c =
    let empty : c.loop-poll.parked.items ≡ [] = nothing_left _ (sym c.loop-poll.parked.ok.0 ∙ c.in_default.ensures.cases.0) in
    let none : c.pop_front.new.self.items ≡ [] = c.in_default.ensures.rest ∙ ap (drop 1) empty in
    subst (λ polls. IsOver g.I.Inbox.brings g.I.Inbox.is_over g.I.Inbox.may_give g.I.Inbox.gives g.I.Inbox.was_left c.args.limit c.args.at c.args.known c.args.self.now.pass c.args.parked.now.items c.args.mailbox.now c.loop-poll.self.pass polls c.loop-poll.mailbox) (sym none)
    (passing_ends g.I.Inbox.brings g.I.Inbox.is_over g.I.Inbox.may_give g.I.Inbox.gives g.I.Inbox.was_left c.args.limit c.args.at c.args.known c.args.self.now.pass c.args.parked.now.items c.args.mailbox.now c.loop-poll.quiet c.loop-poll.self.pass c.loop-poll.mailbox
    (subst (λ polls. Passing g.I.Inbox.brings g.I.Inbox.is_over g.I.Inbox.may_give g.I.Inbox.gives g.I.Inbox.was_left c.args.limit c.args.at c.args.known c.args.self.now.pass c.args.parked.now.items c.args.mailbox.now c.loop-poll.quiet c.loop-poll.self.pass polls c.loop-poll.mailbox) empty c.loop-poll.invariant))

pub returns-clause-looked : goal.returns-clause-looked
returns-clause-looked g c =
    let all = ended g c in
    (all.0, all.1, all.2)

pub returns-clause-may : goal.returns-clause-may
returns-clause-may g c =
    let all = ended g c in
    takes_behind g.I.Inbox.brings g.I.Inbox.is_over g.I.Inbox.may_give g.I.Inbox.gives g.I.Inbox.was_left c.args.parked.now.items c.pop_front.new.self.items c.args.at c.args.at c.args.mailbox.now c.loop-poll.mailbox all.0 c.requires.may all.2 all.3
