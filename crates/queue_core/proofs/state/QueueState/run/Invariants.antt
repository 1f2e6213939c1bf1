use Rattle.std.proofs.Common.{◌≡◌, ◌≤◌, drop, length, vec_len, vec_capacity}
use Rattle.message.specs.Fault.{Meets}
use Rattle.queue_core.specs.Queue.{IsExact, IsExactWithRoom}
use Rattle.queue_core.proofs.commands.RunLemmas.{Continues, Pays}
use Rattle.queue_core.proofs.state.QueueState.run.Given as goal

abbrev pub invariant-loop-step : goal.invariant-loop-step
invariant-loop-step l = record {
  counted : vec_len l.answers ≡ l.step-index;
  room : length l.steps ≤ vec_capacity l.answers;
  continues : Continues (λ q outcome answer. Meets answer outcome.reply) l.fn.self l.steps l.answers.items l.self (drop l.step-index l.steps);
  pays : Pays l.fn.ticks l.fn.self l.steps l.answers.items l.ticks l.self (drop l.step-index l.steps);
  exact : Continues (λ q outcome answer. IsExact outcome answer) l.fn.self l.steps l.answers.items l.self (drop l.step-index l.steps);
  with_room : Continues (λ q outcome answer. IsExactWithRoom q outcome answer) l.fn.self l.steps l.answers.items l.self (drop l.step-index l.steps);
}
