use Rattle.std.proofs.Common.{◌+◌, ◌≤◌, arith, ap, subst, ◌∙◌}
use Rattle.queue_core.specs.Queue.{QueueHistory, after_answer}
use Rattle.queue_core.specs.Cost.{most_ticks}
use Rattle.desk.specs.History.{IsAnswered}
use Rattle.desk.proofs.PrintLemmas.{answered_again, left_again}
use Rattle.desk.proofs.held.answer.Goals as goal

pub returns-clause-answer : goal.returns-clause-answer
returns-clause-answer c =
    answered_again c.args.state.now c.args.at c.args.command.now c.perform-reply.result
    (subst (λ (x : QueueHistory). IsAnswered x c.args.at c.args.command.now c.perform-reply.result) c.come-rebases.ensures.state
    (record { answer = c.perform-reply.ensures.answer; exact = c.perform-reply.ensures.exact; room = c.perform-reply.ensures.room }))

pub returns-clause-state : goal.returns-clause-state
returns-clause-state c =
    c.perform-reply.ensures.state ∙ ap (λ (x : QueueHistory). after_answer x c.args.at c.args.command.now c.perform-reply.result) c.come-rebases.ensures.state
    ∙ left_again c.args.state.now c.args.at c.args.command.now c.perform-reply.result

pub returns-clause-cost : goal.returns-clause-cost
returns-clause-cost c =
    let come = subst (λ (x : QueueHistory). c.come-rebases.new.ticks ≤ c.args.ticks.now + most_ticks c.args.state.now x) c.come-rebases.ensures.state c.come-rebases.ensures.cost in
    let done =
    subst (λ (x : QueueHistory). c.perform-reply.new.ticks ≤ c.come-rebases.new.ticks + most_ticks x c.perform-reply.new.self) c.come-rebases.ensures.state c.perform-reply.ensures.cost in
    omega (arith, come, done)
