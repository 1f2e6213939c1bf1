use Rattle.std.proofs.Common.{refl, subst}
use Rattle.http_body_util.specs.Collected.{IsCollectOf}
use Rattle.sqs_server.proofs.answering.collecting.Goals as goal

pub returns : goal.returns
returns g c = λ size same. (_, refl, refl, same, subst (IsCollectOf c.collect-body.result) c.new.ensures c.collect-body.ensures)
