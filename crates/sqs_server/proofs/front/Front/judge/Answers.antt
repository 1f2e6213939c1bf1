use Rattle.std.proofs.Common.{Ok, Err, ◌≡◌, IfErr, subst}
use Rattle.message.specs.Fault.{Meets}
use Rattle.sqs_server.specs.Head.{action_of, asked_of}
use Rattle.sqs_server.proofs.front.Front.judge.Goals as goal

pub returns-in-Ok : goal.returns-in-Ok
returns-in-Ok g c =
    let asked = Ok c.in-Ok.request in (
      asked,
      subst (λ target. Meets asked (asked_of target c.args.bytes.now)) c.target_of.ensures c.in-Ok.ensures.asked,
      subst (λ target. IfErr (action_of target) (λ fault. asked ≡ Err fault)) c.target_of.ensures c.in-Ok.ensures.target,
      (c.moment.result, c.begin.ensures.0, c.begin.ensures.1, c.begin.ensures.2),
      tt,
    )

pub returns-in-Err : goal.returns-in-Err
returns-in-Err g c =
    let asked = Err c.in-Err.fault in (
      asked,
      subst (λ target. Meets asked (asked_of target c.args.bytes.now)) c.target_of.ensures c.in-Err.ensures.asked,
      subst (λ target. IfErr (action_of target) (λ fault. asked ≡ Err fault)) c.target_of.ensures c.in-Err.ensures.target,
      tt,
      c.refuses.ensures,
    )
