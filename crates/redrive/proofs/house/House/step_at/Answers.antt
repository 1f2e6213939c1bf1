use Rattle.std.proofs.Common.{ap}
use Rattle.std.specs.Prelude.{is_some}
use Rattle.queue_core.specs.Queue.{QueueHistory}
use Rattle.redrive.proofs.KeyedLemmas.{find-position}
use Rattle.redrive.proofs.RegistryLemmas.{some_queue, stays-after_command, found-after_command}
use Rattle.redrive.proofs.house.House.step_at.Goals as goal

pub step_refusal-requires : goal.step_refusal-requires
step_refusal-requires c = ap is_some (find-position (λ (q : QueueHistory). q.uid) c.args.found.uid c.args.self.now.queues c.args.found.place some_queue c.requires)

pub returns-in-None-clause-stays : goal.returns-in-None-clause-stays
returns-in-None-clause-stays c =
    stays-after_command c.args.self.now c.command_at.new.self c.args.at c.args.command.now c.command_at.result c.args.found c.command_at.ensures.state c.requires

pub returns-in-None-clause-names : goal.returns-in-None-clause-names
returns-in-None-clause-names c =
    found-after_command c.args.self.now c.command_at.new.self c.args.at c.args.command.now c.command_at.result c.args.found.uid c.command_at.ensures.state
