use Rattle.std.proofs.Common.{◌≡◌, Ok, IfOk, IfSome, ap, inl, inr, refl, subst, sym, ◌∙◌}
use Rattle.desk.specs.Views.{Pass}
use Rattle.sqs_server.proofs.front.Front.create.Goals as goal

pub returns-in-Ok-Some : goal.returns-in-Ok-Some
returns-in-Ok-Some g c = (Ok c.in-Ok.target, c.in-Ok.ensures, inr (inr (c.busy.result, inr c.busy.ensures, refl)), tt)

pub returns-in-Ok-Some-2 : goal.returns-in-Ok-Some-2
returns-in-Ok-Some-2 g c =
    let found = subst (λ known. IfSome known (λ queue. queue.pass.start.name ≡ c.args.creation.name)) c.in-Ok-Some.field-0-is
    (subst (λ answer. IfOk answer (λ known. IfSome known (λ queue. queue.pass.start.name ≡ c.args.creation.name))) c.in-Ok-Some.is c.find.ensures.name) in
    let name = ap (λ (pass : Pass). pass.start.name) c.of.ensures.2 ∙ found in
    let opened = ap (λ (pass : Pass). pass.start.uid) c.of.ensures.2 ∙ c.in-Ok-Some.queue.opened ∙ sym c.of.ensures.0 in
    (Ok c.in-Ok.target, c.in-Ok.ensures, inr (inl (c.of.result, (name, opened), c.send.ensures)), tt)
