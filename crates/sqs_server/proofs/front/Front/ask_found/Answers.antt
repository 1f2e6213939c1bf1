use Rattle.std.proofs.Common.{◌∙◌, ap, inl, sym}
use Rattle.desk.specs.Views.{Pass}
use Rattle.sqs_server.proofs.front.Front.ask_found.Goals as goal

pub returns-in-Ok-Some : goal.returns-in-Ok-Some
returns-in-Ok-Some g c =
    let opened = ap (λ (pass : Pass). pass.start.uid) c.of.ensures.2 ∙ c.in-Ok-Some.queue.opened ∙ sym c.of.ensures.0 in
    inl (c.of.result, c.of.ensures.0 ∙ (rw c.in-Ok-Some.field-0-is at c.in-Ok-Some.ensures.uid), opened, c.ask.ensures)
