use Rattle.sqs_server.proofs.Refusals.{look_refused}
use Rattle.sqs_server.proofs.front.Front.unseen.Goals as goal

pub returns-in_default : goal.returns-in_default
returns-in_default g c = look_refused c.args.self.now.port _ _ _ c.in_default.not-ActorGone c.refuses.ensures
