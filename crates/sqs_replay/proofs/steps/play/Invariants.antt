use Rattle.std.proofs.Common.{◌≡◌, ℕ, List}
use Rattle.redrive.specs.House.{found_uid, StandsAt}
use Rattle.sqs_replay.specs.Served.{most_commands, steps_served}
use Rattle.sqs_replay.proofs.StepLemmas.{GoesOn}
use Rattle.sqs_replay.proofs.steps.play.Given as goal

abbrev pub invariant-loop-step : goal.invariant-loop-step
invariant-loop-step l =
    GoesOn (steps_served l.fn.house l.found.uid l.at l.fn.first) l.house l.found.uid l.at l.step
    × StandsAt l.house l.found × ((name : List ℕ) → found_uid l.house name ≡ found_uid l.fn.house name)

abbrev pub decreases-loop-step : goal.decreases-loop-step
decreases-loop-step l = most_commands l.step
