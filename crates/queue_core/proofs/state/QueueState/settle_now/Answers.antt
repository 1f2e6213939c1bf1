use Rattle.std.proofs.Common.{sym, ◌∙◌}
use Rattle.queue_core.specs.declared.command.Command.TheVariants as commands
use Rattle.queue_core.proofs.commands.InPlaceLemmas.{placed}
use Rattle.queue_core.proofs.commands.LegalLemmas.{caused_in, event-settled}
use Rattle.queue_core.proofs.costs.BoundLemmas.{bound-later}
use Rattle.queue_core.proofs.state.QueueState.settle_now.Goals as goal

pub add-requires : goal.add-requires
add-requires c = caused_in c.args.self.now _ (commands.Settle c.args.number) tt
    (event-settled c.args.self.now c.requires.open c.args.number (sym c.is_pending.ensures ∙ c.if-not-is_pending.false))
    (placed c.args.self.now (commands.Settle c.args.number) c.requires.place)

pub returns-then-not-is_pending-clause-cost : goal.returns-then-not-is_pending-clause-cost
returns-then-not-is_pending-clause-cost c = λ p before come. bound-later before c.args.ticks.now p _ come
