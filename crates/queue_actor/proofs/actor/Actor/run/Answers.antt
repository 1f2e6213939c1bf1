use Rattle.std.proofs.Common.{◌≡◌, true, [], subst, sym, ap}
use Rattle.std.proofs.lemmas.List.Elements.{All-nil, All-same}
use Rattle.queue_actor.specs.Calling.{LooksAtTick}
use Rattle.queue_actor.specs.Serving.{TakesIn, Serves, may_wait}
use Rattle.queue_actor.specs.Waiting.{TakesAnswers}
use Rattle.queue_actor.proofs.EndLemmas.{looked_all, none_ends, taken_ends, taken_may}
use Rattle.queue_actor.proofs.ServingLemmas.{Serving, serving_begins, serving_goes, serving_ends, serving_is_ended, takes_brought, takes_over}
use Rattle.queue_actor.proofs.actor.Actor.run.Goals as goal

pub loop-init : goal.loop-init
loop-init g c = (
  tt,
  tt,
  subst (λ last. Serving (g.D.Targets.was_told c.args.directory.now) (g.D.Targets.was_taken_out c.args.directory.now) (g.D.Targets.was_retargeted c.args.directory.now) g.I.Inbox.brings g.I.Inbox.is_over g.I.Inbox.gives g.I.Inbox.was_left c.args.self.now.uid c.limits.inside.in_flight c.args.self.now.pass c.args.mailbox.now c.args.self.now.pass c.new-parked.result.items last c.args.mailbox.now)
      (sym c.zero-last.ensures)
      (serving_begins (g.D.Targets.was_told c.args.directory.now) (g.D.Targets.was_taken_out c.args.directory.now) (g.D.Targets.was_retargeted c.args.directory.now) g.I.Inbox.brings g.I.Inbox.is_over g.I.Inbox.gives g.I.Inbox.was_left c.args.self.now.uid c.limits.inside.in_flight c.args.self.now.pass c.args.mailbox.now c.new-parked.result.items c.new-parked.ensures.items),
  subst (λ last. TakesAnswers g.I.Inbox.brings g.I.Inbox.is_over g.I.Inbox.may_give g.I.Inbox.gives g.I.Inbox.was_left c.new-parked.result.items last c.args.mailbox.now) (sym c.zero-last.ensures)
      (subst (λ asks. TakesAnswers g.I.Inbox.brings g.I.Inbox.is_over g.I.Inbox.may_give g.I.Inbox.gives g.I.Inbox.was_left asks 0 c.args.mailbox.now) (sym c.new-parked.ensures.items) c.requires.may),
  none_ends _ c.new-parked.result.items c.new-parked.ensures.items,
  All-same (λ r. may_wait r ≡ true) c.new-parked.result.items [] c.new-parked.ensures.items (All-nil (λ r. may_wait r ≡ true)),
)

pub end-requires : goal.end-requires
end-requires g c = record {
  may = takes_over g.I.Inbox.brings g.I.Inbox.is_over g.I.Inbox.may_give g.I.Inbox.gives g.I.Inbox.was_left c.loop.parked.items c.loop.last c.loop.mailbox c.next-in-loop.new.self c.loop.invariant.3 c.in_default.ensures.none;
}

pub returns-in_default-clause-served : goal.returns-in_default-clause-served
returns-in_default-clause-served g c =
    let limit : c.limits.inside.in_flight ≡ c.args.self.now.limits.in_flight = ap (λ l. l.in_flight) c.limits.view_is in
    let ended = c.end.ensures.served in
    let all = serving_ends (g.D.Targets.was_told c.args.directory.now) (g.D.Targets.was_taken_out c.args.directory.now) (g.D.Targets.was_retargeted c.args.directory.now) g.I.Inbox.brings g.I.Inbox.is_over g.I.Inbox.gives g.I.Inbox.was_left c.args.self.now.uid c.limits.inside.in_flight c.args.self.now.pass c.args.mailbox.now
    c.loop.self.pass c.loop.parked.items c.loop.last c.loop.mailbox ended.0 c.end.new.self.pass c.next-in-loop.new.self c.end.new.mailbox
    c.loop.invariant.2 c.in_default.ensures.none ended.1 ended.2 in (
      all.0,
      all.1,
      subst (λ n. Serves (g.D.Targets.was_told c.args.directory.now) (g.D.Targets.was_taken_out c.args.directory.now) (g.D.Targets.was_retargeted c.args.directory.now) c.args.self.now.uid n c.args.self.now.pass [] 0 all.0 all.1 c.end.new.self.pass) limit all.2,
      all.3,
    )

pub take_in-at-requires : goal.take_in-at-requires
take_in-at-requires g c = record {
  may = takes_brought g.I.Inbox.brings g.I.Inbox.is_over g.I.Inbox.may_give g.I.Inbox.gives g.I.Inbox.was_left c.loop.parked.items c.loop.last c.loop.mailbox c.next-in-loop.new.self c.in-Some-next.mail
      c.loop.invariant.5 c.loop.invariant.3 c.in-Some-next.ensures.some;
}

pub returns-then-is_last-clause-served : goal.returns-then-is_last-clause-served
returns-then-is_last-clause-served g c =
    let limit : c.limits.inside.in_flight ≡ c.args.self.now.limits.in_flight = ap (λ l. l.in_flight) c.limits.view_is in
    let taken = c.take_in-at.ensures.taken in
    let ended = c.end-then-is_last.ensures.served in
    let at = c.take_in-at.result.0 in
    let takes = subst (λ b. TakesIn (g.D.Targets.was_taken_out c.args.directory.now) (g.D.Targets.was_retargeted c.args.directory.now) c.args.self.now.uid c.in-Some-next.mail c.loop.last c.loop.parked.items taken.0 c.take_in-at.new.parked.items at b) c.if-is_last.true taken.1 in
    let all = serving_is_ended (g.D.Targets.was_told c.args.directory.now) (g.D.Targets.was_taken_out c.args.directory.now) (g.D.Targets.was_retargeted c.args.directory.now) g.I.Inbox.brings g.I.Inbox.is_over g.I.Inbox.gives g.I.Inbox.was_left c.args.self.now.uid c.limits.inside.in_flight c.args.self.now.pass c.args.mailbox.now
    c.loop.self.pass c.loop.parked.items c.loop.last c.loop.mailbox c.in-Some-next.mail at taken.0 ended.0 c.take_in-at.new.parked.items
    c.end-then-is_last.new.self.pass c.next-in-loop.new.self c.take_in-at.new.mailbox c.end-then-is_last.new.mailbox
    c.loop.invariant.2 c.in-Some-next.ensures.some takes taken.2 ended.1 ended.2 in (
      all.0,
      all.1,
      subst (λ n. Serves (g.D.Targets.was_told c.args.directory.now) (g.D.Targets.was_taken_out c.args.directory.now) (g.D.Targets.was_retargeted c.args.directory.now) c.args.self.now.uid n c.args.self.now.pass [] 0 all.0 all.1 c.end-then-is_last.new.self.pass) limit all.2,
      all.3,
    )

pub loop-preserved : goal.loop-preserved
loop-preserved g c =
    let taken = c.take_in-at.ensures.taken in
    let looked = c.look_over-soonest.ensures.looked in
    let at = c.take_in-at.result.0 in
    let at_tick = subst (λ b. LooksAtTick c.limits.inside.in_flight at b c.look_at_tick-quiet.result c.loop.self.pass c.look_at_tick-quiet.new.self.pass) c.is_tick-is_tick.ensures c.look_at_tick-quiet.ensures in
    let takes = subst (λ b. TakesIn (g.D.Targets.was_taken_out c.args.directory.now) (g.D.Targets.was_retargeted c.args.directory.now) c.args.self.now.uid c.in-Some-next.mail c.loop.last c.loop.parked.items taken.0 c.take_in-at.new.parked.items at b) c.if-is_last.false taken.1 in (
      tt,
      tt,
      serving_goes (g.D.Targets.was_told c.args.directory.now) (g.D.Targets.was_taken_out c.args.directory.now) (g.D.Targets.was_retargeted c.args.directory.now) g.I.Inbox.brings g.I.Inbox.is_over g.I.Inbox.gives g.I.Inbox.was_left c.args.self.now.uid c.limits.inside.in_flight c.args.self.now.pass c.args.mailbox.now
          c.loop.self.pass c.loop.parked.items c.loop.last c.loop.mailbox
          c.in-Some-next.mail at taken.0 looked.0 c.take_in-at.new.parked.items c.look_over-soonest.new.parked.items c.move_parcels.new.self.pass
          c.next-in-loop.new.self c.take_in-at.new.mailbox c.look_over-soonest.new.mailbox
          c.loop.invariant.2 c.in-Some-next.ensures.some takes taken.2
          (c.look_at_tick-quiet.result, c.look_at_tick-quiet.new.self.pass, c.look_over-soonest.new.self.pass, at_tick, looked.1, c.move_parcels.ensures.moved) looked.2,
      c.look_over-soonest.ensures.may,
      c.look_over-soonest.ensures.ends,
      looked_all (λ r. may_wait r ≡ true) c.limits.inside.in_flight at c.look_at_tick-quiet.result c.look_at_tick-quiet.new.self.pass c.look_over-soonest.new.self.pass c.take_in-at.new.parked.items c.look_over-soonest.new.parked.items looked.0 looked.1
          (taken_may (g.D.Targets.was_taken_out c.args.directory.now) (g.D.Targets.was_retargeted c.args.directory.now) c.args.self.now.uid c.in-Some-next.mail c.loop.last c.loop.parked.items taken.0 c.take_in-at.new.parked.items at c.take_in-at.result.1 taken.1 c.loop.invariant.5),
    )

pub look_over-soonest-requires-clause-ends : goal.look_over-soonest-requires-clause-ends
look_over-soonest-requires-clause-ends g c =
    taken_ends (g.D.Targets.was_taken_out c.args.directory.now) (g.D.Targets.was_retargeted c.args.directory.now) c.args.self.now.uid c.in-Some-next.mail c.loop.last c.loop.parked.items c.take_in-at.ensures.taken.0 c.take_in-at.new.parked.items c.take_in-at.result.0 c.take_in-at.result.1
    c.loop.soonest c.end_with-earliest_end.result c.end_with-earliest_end.ensures c.take_in-at.ensures.taken.1 c.loop.invariant.4
