use Rattle.std.proofs.Common.{◌≡◌, ◌+◌, ◌-◌, ◌∷◌, ◌++◌, [], IfSome, is_some, subst, sym, ap, ◌∙◌, arith}
use Rattle.queue_actor.proofs.ServingLemmas.{Looking, looking_begins, looking_takes, looking_goes, looking_same, looking_ends, with_last, takes_behind}
use Rattle.queue_actor.proofs.actor.Actor.look_over_all.Goals as goal
use Rattle.queue_actor.proofs.actor.Actor.look_over_all.Goals.{in-Some-kept, in_default-kept}

pub loop-init : goal.loop-init
loop-init g c = looking_begins g.I.Inbox.brings g.I.Inbox.is_over g.I.Inbox.may_give g.I.Inbox.gives g.I.Inbox.was_left c.args.limit c.args.at c.args.known c.args.self.now.pass c.args.parked.now.items c.args.mailbox.now (c.len-end.result - 0) (omega (arith, c.len-end.ensures, c.args.parked.now.ok.0))

pub look_at-kept-requires : goal.look_at-kept-requires
look_at-kept-requires g c =
    let turns = c.len-end.result - (c.loop.counter + 1) in
    let more : c.len-end.result - c.loop.counter ≡ turns + 1 = omega (arith, c.loop-test.true) in
    let now = subst (λ n. Looking g.I.Inbox.brings g.I.Inbox.is_over g.I.Inbox.may_give g.I.Inbox.gives g.I.Inbox.was_left c.args.limit c.args.at c.args.known c.args.self.now.pass c.args.parked.now.items c.args.mailbox.now c.loop.quiet c.loop.self.pass c.loop.parked.items c.loop.mailbox n) more c.loop.invariant in
    record {
      may = looking_takes g.I.Inbox.brings g.I.Inbox.is_over g.I.Inbox.may_give g.I.Inbox.gives g.I.Inbox.was_left c.args.limit c.args.at c.args.known c.args.self.now.pass c.args.parked.now.items c.args.mailbox.now c.loop.quiet c.loop.self.pass c.loop.parked.items c.pop_front.new.self.items
          c.loop.mailbox turns c.in-Some.poll c.requires.may now c.in-Some.ensures.items;
    }

pub loop-preserved : goal.loop-preserved
loop-preserved g c =
    let turns = c.len-end.result - (c.loop.counter + 1) in
    let more : c.len-end.result - c.loop.counter ≡ turns + 1 = omega (arith, c.loop-test.true) in
    let now = subst (λ n. Looking g.I.Inbox.brings g.I.Inbox.is_over g.I.Inbox.may_give g.I.Inbox.gives g.I.Inbox.was_left c.args.limit c.args.at c.args.known c.args.self.now.pass c.args.parked.now.items c.args.mailbox.now c.loop.quiet c.loop.self.pass c.loop.parked.items c.loop.mailbox n) more c.loop.invariant in
    let looked = c.look_at-kept.ensures.looked in
    let kept = c.look_at-kept.result in
    let others = c.pop_front.new.self.items in
    let poll = c.in-Some.poll in
    let goes = looking_goes g.I.Inbox.brings g.I.Inbox.is_over g.I.Inbox.may_give g.I.Inbox.gives g.I.Inbox.was_left c.args.limit c.args.at c.args.known c.args.self.now.pass c.args.parked.now.items c.args.mailbox.now c.loop.quiet (is_some kept) c.loop.self.pass c.look_at-kept.new.self.pass
    c.loop.parked.items others c.loop.mailbox c.look_at-kept.new.mailbox turns poll looked.0 now c.in-Some.ensures.items looked.1 looked.2 in
    let polls : with_last others (is_some kept) poll ≡ c.match-kept.parked.items = elim c.match-kept.branch [
      | in-Some-kept w ↦
          let same : w.in-Some-kept.poll ≡ poll = subst (λ r. IfSome r (λ k. k ≡ poll)) w.in-Some-kept.is c.look_at-kept.ensures.same in
          ap (λ k. with_last others (is_some k) poll) w.in-Some-kept.is ∙ ap (λ p. others ++ p ∷ []) (sym same)
          ∙ sym (ap (λ p. p.items) w.parked-is ∙ w.push_back_reserved.ensures.items)
      | in_default-kept w ↦ ap (λ k. with_last others (is_some k) poll) w.in_default-kept.is ∙ sym (ap (λ p. p.items) w.parked-is)
    ] in
    looking_same g.I.Inbox.brings g.I.Inbox.is_over g.I.Inbox.may_give g.I.Inbox.gives g.I.Inbox.was_left c.args.limit c.args.at c.args.known c.args.self.now.pass c.args.parked.now.items c.args.mailbox.now (is_some kept) c.look_at-kept.new.self.pass (with_last others (is_some kept) poll)
    c.look_at-kept.new.mailbox turns c.is_some-quiet.result c.match-kept.parked.items (sym c.is_some-quiet.ensures) polls goes

pub returns-clause-looked : goal.returns-clause-looked
returns-clause-looked g c =
    let all = looking_ends g.I.Inbox.brings g.I.Inbox.is_over g.I.Inbox.may_give g.I.Inbox.gives g.I.Inbox.was_left c.args.limit c.args.at c.args.known c.args.self.now.pass c.args.parked.now.items c.args.mailbox.now c.loop.quiet c.loop.self.pass c.loop.parked.items c.loop.mailbox
    (subst (λ n. Looking g.I.Inbox.brings g.I.Inbox.is_over g.I.Inbox.may_give g.I.Inbox.gives g.I.Inbox.was_left c.args.limit c.args.at c.args.known c.args.self.now.pass c.args.parked.now.items c.args.mailbox.now c.loop.quiet c.loop.self.pass c.loop.parked.items c.loop.mailbox n)
    (omega (arith, c.loop-test.false)) c.loop.invariant) in
    (all.0, all.1, all.2)

pub returns-clause-may : goal.returns-clause-may
returns-clause-may g c =
    let all = looking_ends g.I.Inbox.brings g.I.Inbox.is_over g.I.Inbox.may_give g.I.Inbox.gives g.I.Inbox.was_left c.args.limit c.args.at c.args.known c.args.self.now.pass c.args.parked.now.items c.args.mailbox.now c.loop.quiet c.loop.self.pass c.loop.parked.items c.loop.mailbox
    (subst (λ n. Looking g.I.Inbox.brings g.I.Inbox.is_over g.I.Inbox.may_give g.I.Inbox.gives g.I.Inbox.was_left c.args.limit c.args.at c.args.known c.args.self.now.pass c.args.parked.now.items c.args.mailbox.now c.loop.quiet c.loop.self.pass c.loop.parked.items c.loop.mailbox n)
    (omega (arith, c.loop-test.false)) c.loop.invariant) in
    takes_behind g.I.Inbox.brings g.I.Inbox.is_over g.I.Inbox.may_give g.I.Inbox.gives g.I.Inbox.was_left c.args.parked.now.items c.loop.parked.items c.args.at c.args.at c.args.mailbox.now c.loop.mailbox all.0 c.requires.may all.2 all.3
