use Rattle.std.proofs.Common.{List, length, sym, ap, ◌∙◌, arith}
use Rattle.queue_core.specs.declared.facts.Message.{Message}
use Rattle.queue_core.specs.Messages.{messages}
use Rattle.plain_queue.proofs.NumberingLemmas.{next_message}
use Rattle.plain_queue.proofs.numbering.MessagesIterator.next.Goals as goal

pub returns-clause-steps : goal.returns-clause-steps
returns-clause-steps c =
    sym c.self.view_is ∙ next_message (messages c.self.inside.lines.now) c.self.inside.number c.in_ok-begun.begun.message c.in_ok-begun.ensures.first

pub returns-clause-goes : goal.returns-clause-goes
returns-clause-goes c =
    let next = ap (λ (ms : List Message). length ms)
    (sym c.self.view_is ∙ next_message (messages c.self.inside.lines.now) c.self.inside.number c.in_ok-begun.begun.message c.in_ok-begun.ensures.first) in
    record { on = λ f. (tt, tt, omega (arith, next)); keeps = tt; rests = λ f. tt }
