use Rattle.std.proofs.Common.{sym, ◌∙◌}
use Rattle.queue_core.specs.declared.command.Command.TheVariants as commands
use Rattle.queue_core.proofs.commands.InPlaceLemmas.{placed}
use Rattle.queue_core.proofs.commands.LegalLemmas.{caused_in, event-change_refused, event-changed}
use Rattle.queue_core.proofs.state.QueueState.change_now.Goals as goal

pub refuse-requires-clause-caused : goal.refuse-requires-clause-caused
refuse-requires-clause-caused c = caused_in c.args.self.now _ (commands.Change c.args.handle c.args.timeout) c.requires.range
    (event-change_refused c.args.self.now c.requires.open c.args.handle c.args.timeout c.in-Some.fault (sym c.change_refusal.ensures.refusal ∙ c.in-Some.is))
    (placed c.args.self.now (commands.Change c.args.handle c.args.timeout) c.requires.place)

pub add-requires : goal.add-requires
add-requires c = caused_in c.args.self.now _ (commands.Change c.args.handle c.args.timeout) c.requires.range
    (event-changed c.args.self.now c.requires.open c.args.handle c.args.timeout (sym c.change_refusal.ensures.refusal ∙ c.in-None.is))
    (placed c.args.self.now (commands.Change c.args.handle c.args.timeout) c.requires.place)
