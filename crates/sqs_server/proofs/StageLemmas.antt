-- What was sent to an actor.
use Rattle.std.proofs.Common.{◌≡◌, ◌≢◌, ℕ, ap, ◌∙◌}
use Rattle.std.specs.Prelude.{⊤}
use Rattle.std.specs.Arc.{arc_value}
use Rattle.board.specs.Printed.{Publications}
use Rattle.queue_actor.specs.Asking.{Asking, IfSent, IfUnsent}
use Rattle.queue_actor.specs.Questions.{Awaited, question, question_of}
use Rattle.queue_actor.specs.declared.mail.Ask.{Ask}
use Rattle.queue_core.specs.declared.command.Command.{Command}
use Rattle.sqs_server.specs.declared.queues.Queue.{Queue}
use Rattle.sqs_server.specs.Stages.{Mails}
use Rattle.sqs_server.specs.Times.{wait_limit}

-- an ask whose wait ends at a moment that was computed before, in a mailbox that says nothing
pub mails : {R : Type 0} (queue : Queue R) (at : ℕ) (command : Command) (seconds until : ℕ) (asking : Asking) → until ≡ wait_limit at seconds →
    IfSent asking (λ asked source. (asked ≡ question (arc_value queue.desk) queue.pass at command until)
    × ((ask : Ask Publications Awaited Publications) × (question_of ask ≡ asked) × (ask.reply.asked ≡ asked) × (ask.reply.source ≡ source) × ⊤)) →
    IfUnsent asking (λ kept. (kept ≡ queue.pass) × ⊤) → asking ≢ Asking.Over → Mails queue at command seconds asking
mails queue at command seconds until (Asking.Sent asked source) e sent unsent begun =
    (sent.0 ∙ ap (question (arc_value queue.desk) queue.pass at command) e, tt, begun)
mails queue at command seconds until (Asking.Unsent pass) e sent unsent begun = (tt, unsent.0, begun)
mails queue at command seconds until Asking.Over e sent unsent begun = (tt, tt, begun)
