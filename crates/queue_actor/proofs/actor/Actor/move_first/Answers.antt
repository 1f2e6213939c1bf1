use Rattle.std.proofs.Common.{sym, ◌∙◌, subst, inl, inr}
use Rattle.queue_actor.proofs.MovingLemmas.{Confirms, moved_none, moved_refused, moved_asked}
use Rattle.queue_actor.proofs.actor.Actor.move_first.Goals as goal
use Rattle.queue_actor.proofs.actor.Actor.move_first.Goals.{in-Accepted, in-Gone}

pub returns-in_default-clause-moved : goal.returns-in_default-clause-moved
returns-in_default-clause-moved g c =
    moved_none (g.D.Targets.was_told c.args.targets.now) c.args.at c.args.self.now.pass c.ask-reply.result c.ask-reply.new.self.pass c.ask-reply.ensures.call
    (sym c.parcel_of.ensures ∙ c.in_default.is)

pub returns-in-Refused-clause-moved : goal.returns-in-Refused-clause-moved
returns-in-Refused-clause-moved g c =
    let told = g.D.Targets.was_told c.args.targets.now in
    moved_refused told c.args.at c.args.self.now.pass c.ask-reply.result c.ask-reply.new.self.pass c.in-Some.parcel c.ask-reply.ensures.call
    (sym c.parcel_of.ensures ∙ c.in-Some.is) (subst (λ d. told c.args.at c.in-Some.parcel d) c.in-Refused.is c.deliver.ensures)

pub returns-clause-moved : goal.returns-clause-moved
returns-clause-moved g c =
    let told = g.D.Targets.was_told c.args.targets.now in
    let confirms : Confirms told c.args.at c.in-Some.parcel c.match-deliver.command =
    elim c.match-deliver.branch [
      | in-Accepted w ↦ inl (w.in-Accepted.field-0, subst (λ d. told c.args.at c.in-Some.parcel d) w.in-Accepted.is c.deliver.ensures, w.command-is)
      | in-Gone w ↦ inr (w.in-Gone.field-0, subst (λ d. told c.args.at c.in-Some.parcel d) w.in-Gone.is c.deliver.ensures, w.command-is)
    ] in
    moved_asked told c.args.at c.args.self.now.pass c.ask-reply.new.self.pass c.ask.new.self.pass c.in-Some.parcel c.match-deliver.command c.ask-reply.result c.ask.result
    c.is_ok.result c.is_ok.ensures.value c.ask-reply.ensures.call (sym c.parcel_of.ensures ∙ c.in-Some.is) c.ask.ensures.call confirms
