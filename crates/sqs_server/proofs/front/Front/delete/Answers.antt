use Rattle.std.proofs.Common.{inl}
use Rattle.sqs_server.proofs.front.Front.delete.Goals as goal

pub returns-in-Ok : goal.returns-in-Ok
returns-in-Ok g c = inl (c.in-Ok.queue, c.in-Ok.ensures.found, c.send.ensures)
