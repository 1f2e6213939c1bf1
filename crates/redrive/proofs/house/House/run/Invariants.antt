use Rattle.std.proofs.Common.{◌≡◌, ◌≤◌, drop, length, vec_len, vec_capacity}
use Rattle.redrive.proofs.RunLemmas.{Continues}
use Rattle.redrive.proofs.house.House.run.Given as goal

abbrev pub invariant-loop-step : goal.invariant-loop-step
invariant-loop-step l = record {
  counted : vec_len l.answers ≡ l.step-index;
  room : length l.steps ≤ vec_capacity l.answers;
  continues : Continues l.fn.ticks l.fn.self l.steps l.answers.items l.ticks l.self (drop l.step-index l.steps);
}
