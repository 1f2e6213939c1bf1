use Rattle.queue_core.specs.declared.command.Command.TheVariants as commands
use Rattle.queue_core.proofs.commands.InPlaceLemmas.{placed}
use Rattle.queue_core.proofs.commands.LegalLemmas.{caused_in, event-purged}
use Rattle.queue_core.proofs.state.QueueState.purge_now.Goals as goal

pub add-requires : goal.add-requires
add-requires c = caused_in c.args.self.now _ (commands.Purge) tt
    (event-purged c.args.self.now c.requires.open)
    (placed c.args.self.now (commands.Purge) c.requires.place)
