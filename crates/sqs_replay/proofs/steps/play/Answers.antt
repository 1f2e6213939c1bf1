use Rattle.std.proofs.Common.{◌≤◌, inl, refl, ◌∙◌, arith}
use Rattle.sqs_replay.specs.Served.{most_behind, most_commands, steps_served}
use Rattle.sqs_replay.proofs.StepLemmas.{GoesOn-next, most-next}
use Rattle.sqs_replay.proofs.steps.play.Goals as goal

pub loop-step-init : goal.loop-step-init
loop-step-init c = (inl (most_commands c.args.first, omega arith, refl), c.requires, λ name. refl)

pub loop-step-smaller : goal.loop-step-smaller
loop-step-smaller c =
    let most : most_commands c.in_ok-step-in-Ask.step ≤ most_behind c.in-Ask.then =
    most-next c.args.found.uid c.in-Ask.then _ c.in_ok-step-in-Ask.step c.in_ok-step-in-Ask.ensures.step in
    rw c.in-Ask.is (omega arith)

pub loop-step-preserved : goal.loop-step-preserved
loop-step-preserved c = (
  GoesOn-next (steps_served c.args.house.now c.args.found.uid c.args.at c.args.first) c.loop-step.house c.args.found.uid c.args.at
      c.in-Ask.command c.in-Ask.seconds c.in-Ask.then c.loop-step.step c.in_ok-step-in-Ask.step c.next_step.new.house
      c.loop-step.invariant.0 c.in-Ask.is c.in_ok-step-in-Ask.ensures.step c.in_ok-step-in-Ask.ensures.state,
  c.next_step.ensures.stays,
  λ name. c.next_step.ensures.names name ∙ c.loop-step.invariant.2 name,
)
