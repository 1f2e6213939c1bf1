use Rattle.std.proofs.Common.{Option, ap, ◌∙◌}
use Rattle.std.specs.Prelude.{option_and_then}
use Rattle.queue_core.specs.declared.command.Command.TheVariants.{Arrive}
use Rattle.queue_core.specs.Queue.{QueueHistory, outcome_of, reply_without_memory}
use Rattle.redrive.proofs.house.House.arrival_answer.Goals as goal

pub returns-in-Some : goal.returns-in-Some
returns-in-Some c = λ parcel from.
    c.arrival_answer.ensures parcel from ∙ ap (λ (o : Option QueueHistory). option_and_then (λ q. reply_without_memory (outcome_of q (Arrive parcel))) o) c.in-Some.ensures.state
