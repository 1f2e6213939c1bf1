use Rattle.std.proofs.Common.{sym, subst}
use Rattle.sqs_server.specs.Stages.{Returned}
use Rattle.sqs_server.proofs.front.Front.answered.Goals as goal

pub returns-in-Ok : goal.returns-in-Ok
returns-in-Ok g c = subst (λ given. Returned c.args.self.now.port c.args.exchange given c.regain.result) (sym c.in-Ok.is) c.regain.ensures
