use Rattle.std.proofs.Common.{sym, ◌∙◌}
use Rattle.queue_core.specs.Queue.{QueueHistory}
use Rattle.redrive.proofs.KeyedLemmas.{find-no_position}
use Rattle.redrive.proofs.RegistryLemmas.{command-absent_answer, changed-absent}
use Rattle.redrive.proofs.house.House.command_in.Goals as goal

pub returns-in-None-clause-answer : goal.returns-in-None-clause-answer
returns-in-None-clause-answer c =
    sym (command-absent_answer c.args.self.now c.args.uid c.args.at c.args.command.now (sym c.place_of.ensures.place ∙ c.in-None.is))

pub returns-in-None-clause-exact : goal.returns-in-None-clause-exact
returns-in-None-clause-exact c none = returns-in-None-clause-answer c

pub returns-in-None-clause-room : goal.returns-in-None-clause-room
returns-in-None-clause-room c =
    rw (find-no_position (λ (q : QueueHistory). q.uid) c.args.uid c.args.self.now.queues (sym c.place_of.ensures.place ∙ c.in-None.is)) tt

pub returns-in-None-clause-state : goal.returns-in-None-clause-state
returns-in-None-clause-state c = sym (changed-absent c.args.self.now c.args.uid _ (sym c.place_of.ensures.place ∙ c.in-None.is))
