use Rattle.std.proofs.Common.{sym, ◌∙◌}
use Rattle.queue_core.specs.declared.command.Command.TheVariants as commands
use Rattle.queue_core.proofs.commands.InPlaceLemmas.{close_place}
use Rattle.queue_core.proofs.commands.LegalLemmas.{caused_in, event-closed}
use Rattle.queue_core.proofs.costs.BoundLemmas.{bound-later}
use Rattle.queue_core.proofs.state.QueueState.close.Goals as goal

pub add-requires : goal.add-requires
add-requires c = caused_in c.move_to.new.self _ (commands.Close) tt
    (event-closed c.move_to.new.self (sym c.is_closed.ensures ∙ c.if-is_closed.false))
    (close_place c.move_to.new.self)

pub returns-then-is_closed-clause-cost : goal.returns-then-is_closed-clause-cost
returns-then-is_closed-clause-cost c = bound-later _ _ _ _ c.move_to.ensures.come

pub returns-clause-cost : goal.returns-clause-cost
returns-clause-cost c = c.add.ensures.cost _ _ c.move_to.ensures.come
