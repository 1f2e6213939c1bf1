use Rattle.std.proofs.Common.{sym, ap, subst, ◌∙◌}
use Rattle.queue_core.specs.Legal.{IsLegal}
use Rattle.queue_core.specs.Queue.{QueueHistory, outcome_of}
use Rattle.desk.proofs.PrintLemmas.{stays, goes, asks_alone, asks_there}
use Rattle.desk.proofs.held.come.Goals as goal

pub returns-then-leaves_clock-clause-rebases : goal.returns-then-leaves_clock-clause-rebases
returns-then-leaves_clock-clause-rebases c = asks_alone c.args.state.now c.args.at c.args.command.now (sym c.leaves_clock.ensures ∙ c.if-leaves_clock.true)

pub returns-then-leaves_clock-clause-state : goal.returns-then-leaves_clock-clause-state
returns-then-leaves_clock-clause-state c = stays c.args.state.now c.args.at c.args.command.now (sym c.leaves_clock.ensures ∙ c.if-leaves_clock.true)

pub returns-clause-rebases : goal.returns-clause-rebases
returns-clause-rebases c =
    c.rebases.ensures.answer ∙ ap (λ (q : QueueHistory). (outcome_of q c.args.command.now).rebases) c.advance.ensures.state
    ∙ asks_there c.args.state.now c.args.at c.args.command.now (sym c.leaves_clock.ensures ∙ c.if-leaves_clock.false)

pub returns-clause-state : goal.returns-clause-state
returns-clause-state c = c.advance.ensures.state ∙ goes c.args.state.now c.args.at c.args.command.now (sym c.leaves_clock.ensures ∙ c.if-leaves_clock.false)

pub returns-clause-legal : goal.returns-clause-legal
returns-clause-legal c = λ yes. subst IsLegal (returns-clause-state c) c.rebases.ensures.legal
