use Rattle.std.proofs.Common.{refl, inl}
use Rattle.sqs_server.proofs.StageLemmas.{mails}
use Rattle.sqs_server.proofs.front.Front.send.Goals as goal

pub returns-in-Ok : goal.returns-in-Ok
returns-in-Ok g c = inl (
  record { uid = c.args.queue.uid; mailbox = c.args.queue.mailbox; at = c.args.at; purpose = c.args.purpose; duties = c.args.queue.duties; future = c.in-Ok.future },
  refl,
  refl,
  refl,
  refl,
  mails c.args.queue c.args.at c.args.command c.args.seconds c.wait_limit-until.result c.in-Ok.future c.wait_limit-until.ensures
      c.in-Ok.ensures.sent c.in-Ok.ensures.unsent c.in-Ok.ensures.begun,
)
