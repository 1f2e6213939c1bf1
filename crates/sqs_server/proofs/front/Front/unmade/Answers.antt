use Rattle.sqs_server.proofs.Refusals.{made_refused}
use Rattle.sqs_server.proofs.front.Front.unmade.Goals as goal

pub returns-in_default : goal.returns-in_default
returns-in_default g c = made_refused c.args.self.now.port _ _ _ c.in_default.not-QueueNameExists c.refuses.ensures
