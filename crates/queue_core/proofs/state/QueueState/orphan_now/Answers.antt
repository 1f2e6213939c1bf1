use Rattle.std.proofs.Common.{refl}
use Rattle.queue_core.specs.declared.command.Command.TheVariants as commands
use Rattle.queue_core.proofs.commands.InPlaceLemmas.{placed}
use Rattle.queue_core.proofs.commands.LegalLemmas.{caused_in, event-orphaned, answer-orphaned}
use Rattle.queue_core.proofs.state.QueueState.orphan_now.Goals as goal

pub add-requires : goal.add-requires
add-requires c = caused_in c.args.self.now _ (commands.Orphan c.args.target) tt
    (event-orphaned c.args.self.now c.requires.open c.args.target)
    (placed c.args.self.now (commands.Orphan c.args.target) c.requires.place)

pub returns-clause-answer : goal.returns-clause-answer
returns-clause-answer c = answer-orphaned c.args.self.now c.requires.open c.args.self.now c.args.target c.waiting_count-count.result refl c.waiting_count-count.ensures

pub returns-clause-room : goal.returns-clause-room
returns-clause-room c = λ room alone. answer-orphaned c.args.self.now c.requires.open c.args.self.now c.args.target c.waiting_count-count.result refl c.waiting_count-count.ensures
