use Rattle.sqs_server.specs.Responses.{MayEnd}
use Rattle.sqs_server.proofs.front.Front.run.Goals as goal

pub returns-in-Waits-clause-leads : goal.returns-in-Waits-clause-leads
returns-in-Waits-clause-leads g c = λ ended may. c.loop.invariant.1 ended (MayEnd.waits c.in-Waits.ensures.leads may)

pub loop-preserved : goal.loop-preserved
loop-preserved g c = (
  λ fact held. c.turn.ensures.kept fact (c.loop.invariant.0 fact held),
  λ ended may. c.loop.invariant.1 ended (MayEnd.goes (rw c.in-Goes-On.field-0-is at c.in-Goes-On.ensures.leads) may),
)

pub returns-in-Goes-Ends-clause-leads : goal.returns-in-Goes-Ends-clause-leads
returns-in-Goes-Ends-clause-leads g c = c.loop.invariant.1 _ (MayEnd.ends (rw c.in-Goes-Ends.field-0-is at c.in-Goes-Ends.ensures.leads))
