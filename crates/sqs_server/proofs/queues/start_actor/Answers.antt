use denote.Param.Send.{sendable}
use Rattle.std.proofs.Crossing.{crosses}
use Rattle.sqs_server.proofs.ServerSending.{serving_send}
use Rattle.sqs_server.proofs.queues.start_actor.Goals as goal

pub spawn-requires-send-F : goal.spawn-requires-send-F
spawn-requires-send-F g c κs = search (serving_send, sendable, crosses) depth 40 fits 100000
