use Rattle.std.proofs.Common.{◌≡◌, Result, subst, rules}
use Rattle.message.specs.declared.fault.Fault.{Fault}
use Rattle.redrive.specs.House.{step_answer}
use Rattle.request_plan.specs.declared.plan.Performed.{Performed}
use Rattle.request_plan.specs.Plan.{Follows, after}
use Rattle.sqs_replay.specs.Served.{outcome_of}
use Rattle.sqs_replay.proofs.StepLemmas.{follows_comes}
use Rattle.sqs_replay.proofs.steps.next_step.Goals as goal

pub returns-clause-step : goal.returns-clause-step
returns-clause-step c =
    let told : c.match-step_at.outcome ≡ outcome_of c.args.command (step_answer c.args.house.now c.args.found.uid c.args.at c.args.command) = search rules in
    follows_comes c.args.then c.after.result _
    (subst (λ (o : Result Performed Fault). Follows c.args.then c.after.result (after c.args.found.uid c.args.then o)) told c.after.ensures)
