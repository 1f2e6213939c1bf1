use Rattle.std.proofs.Common.{Ok, Err, inl}
use Rattle.sqs_server.proofs.front.Front.set.Goals as goal

pub returns : goal.returns
returns g c = inl (c.in-Ok.queue, c.in-Ok.ensures.found, (Ok c.in-Ok-target_uid.target, c.in-Ok-target_uid.ensures, c.send.ensures, tt))

pub returns-in-Err-target_uid : goal.returns-in-Err-target_uid
returns-in-Err-target_uid g c =
    inl (c.in-Ok.queue, c.in-Ok.ensures.found, (Err c.in-Err-target_uid.fault, c.in-Err-target_uid.ensures, tt, c.refuses.ensures))
