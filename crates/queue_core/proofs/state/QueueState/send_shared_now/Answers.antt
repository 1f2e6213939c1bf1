use Rattle.std.proofs.Common.{sym, ◌∙◌}
use Rattle.queue_core.specs.declared.command.Command.TheVariants as commands
use Rattle.queue_core.proofs.commands.InPlaceLemmas.{placed}
use Rattle.queue_core.proofs.commands.LegalLemmas.{caused_in, event-too_large}
use Rattle.queue_core.proofs.costs.BoundLemmas.{bound-later}
use Rattle.queue_core.proofs.state.QueueState.send_shared_now.Goals as goal

pub refuse-requires-clause-caused : goal.refuse-requires-clause-caused
refuse-requires-clause-caused c = caused_in c.args.self.now _ (commands.Send c.args.content.now c.args.delay) (c.is_too_large.ensures.allowed, c.requires.range)
    (event-too_large c.args.self.now c.requires.open c.args.content.now c.args.delay (sym c.is_too_large.ensures.size ∙ c.if-is_too_large.true))
    (placed c.args.self.now (commands.Send c.args.content.now c.args.delay) c.requires.place)

pub returns-in_err-content-clause-cost : goal.returns-in_err-content-clause-cost
returns-in_err-content-clause-cost c = λ p before come. bound-later before c.args.ticks.now p _ come
