use Rattle.std.proofs.Common.{Ok, Err, refl}
use Rattle.sqs_server.proofs.BodyLemmas.{some_from}
use Rattle.sqs_server.proofs.front.Front.await_body.Goals as goal

pub poll-requires : goal.poll-requires
poll-requires g c = (tt, some_from _ c.args.arriving.here)

pub returns-in-Pending-clause-leads : goal.returns-in-Pending-clause-leads
returns-in-Pending-clause-leads g c = (_, refl, refl, refl, c.in-Pending.ensures.same)

pub returns-in-Ready-Ok-clause-leads : goal.returns-in-Ready-Ok-clause-leads
returns-in-Ready-Ok-clause-leads g c = (Ok c.in-Ready-Ok.body, rw c.in-Ready-Ok.field-0-is at c.in-Ready-Ok.ensures.value, c.read.ensures)

pub returns-in-Ready-Err-clause-leads : goal.returns-in-Ready-Err-clause-leads
returns-in-Ready-Err-clause-leads g c = (Err c.in-Ready-Err.error, rw c.in-Ready-Err.field-0-is at c.in-Ready-Err.ensures.value, (c.sent_of_error.result, c.sent_of_error.ensures, refl))
