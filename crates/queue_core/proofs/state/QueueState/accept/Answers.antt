use Rattle.queue_core.specs.declared.command.Command.TheVariants as commands
use Rattle.queue_core.proofs.commands.InPlaceLemmas.{placed}
use Rattle.queue_core.proofs.commands.LegalLemmas.{caused_in, event-arrived}
use Rattle.queue_core.proofs.state.QueueState.accept.Goals as goal

pub add-requires : goal.add-requires
add-requires c = caused_in c.args.self.now _ (commands.Arrive c.args.parcel) (c.keep_parcel.ensures.content, (c.keep_parcel.ensures.name, c.keep_parcel.ensures.sent))
    (event-arrived c.args.self.now c.requires.open c.args.parcel c.requires.new)
    (placed c.args.self.now (commands.Arrive c.args.parcel) c.requires.place)
