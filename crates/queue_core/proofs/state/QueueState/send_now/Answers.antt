use Rattle.std.proofs.Common.{sym, ◌∙◌}
use Rattle.queue_core.specs.declared.command.Command.TheVariants as commands
use Rattle.queue_core.proofs.commands.InPlaceLemmas.{placed}
use Rattle.queue_core.proofs.commands.LegalLemmas.{caused_in, event-too_large, event-sent}
use Rattle.queue_core.proofs.state.QueueState.send_now.Goals as goal

pub refuse-requires-clause-caused : goal.refuse-requires-clause-caused
refuse-requires-clause-caused c = caused_in c.args.self.now _ (commands.Send c.args.content c.args.delay) (c.is_too_large.ensures.allowed, c.requires.delay)
    (event-too_large c.args.self.now c.requires.open c.args.content c.args.delay (sym c.is_too_large.ensures.size ∙ c.if-is_too_large.true))
    (placed c.args.self.now (commands.Send c.args.content c.args.delay) c.requires.place)

pub add-requires : goal.add-requires
add-requires c = caused_in c.args.self.now _ (commands.Send c.args.content c.args.delay) (c.is_too_large.ensures.allowed, c.requires.delay)
    (rw c.delay_or_own-delay.ensures (event-sent c.args.self.now c.requires.open c.args.content c.args.delay (sym c.is_too_large.ensures.size ∙ c.if-is_too_large.false)))
    (placed c.args.self.now (commands.Send c.args.content c.args.delay) c.requires.place)
