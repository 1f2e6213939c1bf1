use Rattle.std.proofs.Common.{◌≡◌, ◌+◌, List, ◌∷◌, drop, sym, ap, ◌∙◌, arith}
use Rattle.std.proofs.lemmas.List.{drop_more}
use Rattle.message.specs.Fault.{Meets}
use Rattle.queue_core.specs.declared.command.TimedCommand.{TimedCommand}
use Rattle.queue_core.specs.Queue.{IsExact, IsExactWithRoom}
use Rattle.queue_core.proofs.commands.RunLemmas.{Continues-step, Continues-end, pays_step, pays_end}
use Rattle.queue_core.proofs.state.QueueState.run.Goals as goal

pub returns-clause-answers : goal.returns-clause-answers
returns-clause-answers c =
    (Continues-end (λ q outcome answer. Meets answer outcome.reply) c.args.self.now c.args.steps.now c.loop-step.answers.items c.loop-step.self c.loop-step.step-index (omega arith) c.loop-step.invariant.continues).0

pub returns-clause-state : goal.returns-clause-state
returns-clause-state c =
    (Continues-end (λ q outcome answer. Meets answer outcome.reply) c.args.self.now c.args.steps.now c.loop-step.answers.items c.loop-step.self c.loop-step.step-index (omega arith) c.loop-step.invariant.continues).1

pub returns-clause-exact : goal.returns-clause-exact
returns-clause-exact c =
    (Continues-end (λ q outcome answer. IsExact outcome answer) c.args.self.now c.args.steps.now c.loop-step.answers.items c.loop-step.self c.loop-step.step-index (omega arith) c.loop-step.invariant.exact).0

pub returns-clause-room : goal.returns-clause-room
returns-clause-room c =
    (Continues-end (λ q outcome answer. IsExactWithRoom q outcome answer) c.args.self.now c.args.steps.now c.loop-step.answers.items c.loop-step.self c.loop-step.step-index (omega arith) c.loop-step.invariant.with_room).0

pub returns-clause-cost : goal.returns-clause-cost
returns-clause-cost c = pays_end c.args.ticks.now c.args.self.now c.args.steps.now c.loop-step.answers.items c.loop-step.ticks c.loop-step.self c.loop-step.step-index (omega arith) c.loop-step.invariant.pays

pub loop-step-preserved : goal.loop-step-preserved
loop-step-preserved c =
    let step : TimedCommand = c.step-item.result in
    let left : List TimedCommand = drop c.loop-step.step-index c.args.steps.now in
    let next : List TimedCommand = drop (c.loop-step.step-index + 1) c.args.steps.now in
    let here : left ≡ step ∷ next = drop_more c.args.steps.now c.loop-step.step-index step (omega arith) ∙ ap (λ (s : TimedCommand). s ∷ next) (sym c.step-item.is) in
    record {
      counted = (let more = c.push_reserved.ensures.len in let so_far = c.loop-step.invariant.counted in omega arith);
      room = rw c.push_reserved.ensures.capacity c.loop-step.invariant.room;
      continues = rw c.push_reserved.ensures.items (Continues-step (λ q outcome answer. Meets answer outcome.reply) c.args.self.now c.args.steps.now c.loop-step.answers.items c.loop-step.self left next step c.perform-answer.result c.perform-answer.new.self
          c.loop-step.invariant.continues here c.perform-answer.ensures.answer c.perform-answer.ensures.state);
      pays = rw c.push_reserved.ensures.items (pays_step c.args.ticks.now c.args.self.now c.args.steps.now c.loop-step.answers.items c.loop-step.ticks c.perform-answer.new.ticks c.loop-step.self left next step c.perform-answer.result
          c.perform-answer.new.self c.loop-step.invariant.pays here c.perform-answer.ensures.cost c.perform-answer.ensures.state);
      exact = rw c.push_reserved.ensures.items (Continues-step (λ q outcome answer. IsExact outcome answer) c.args.self.now c.args.steps.now c.loop-step.answers.items c.loop-step.self left next step c.perform-answer.result c.perform-answer.new.self
          c.loop-step.invariant.exact here c.perform-answer.ensures.exact c.perform-answer.ensures.state);
      with_room = rw c.push_reserved.ensures.items (Continues-step (λ q outcome answer. IsExactWithRoom q outcome answer) c.args.self.now c.args.steps.now c.loop-step.answers.items c.loop-step.self left next step c.perform-answer.result
          c.perform-answer.new.self c.loop-step.invariant.with_room here c.perform-answer.ensures.room c.perform-answer.ensures.state);
    }
