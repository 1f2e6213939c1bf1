use Rattle.std.proofs.Common.{sym, ◌∙◌}
use Rattle.queue_core.specs.declared.command.Command.TheVariants as commands
use Rattle.queue_core.proofs.commands.InPlaceLemmas.{placed}
use Rattle.queue_core.proofs.commands.LegalLemmas.{caused_in, event-invalid, event-deleted}
use Rattle.queue_core.proofs.state.QueueState.delete_now.Goals as goal

pub refuse-requires-clause-caused : goal.refuse-requires-clause-caused
refuse-requires-clause-caused c = caused_in c.args.self.now _ (commands.Delete c.args.handle) tt
    (event-invalid c.args.self.now c.requires.open c.args.handle (sym c.is_valid_handle.ensures ∙ c.if-not-is_valid_handle.true))
    (placed c.args.self.now (commands.Delete c.args.handle) c.requires.place)

pub add-requires : goal.add-requires
add-requires c = caused_in c.args.self.now _ (commands.Delete c.args.handle) tt
    (rw c.deletion-event.ensures (event-deleted c.args.self.now c.requires.open c.args.handle (sym c.is_valid_handle.ensures ∙ c.if-not-is_valid_handle.false)))
    (placed c.args.self.now (commands.Delete c.args.handle) c.requires.place)
