use denote.Param.Send.{sendable}
use Rattle.std.proofs.Crossing.{crosses}
use Rattle.sqs_server.proofs.ServerSending.{maker_send}
use Rattle.sqs_server.proofs.queues.start_maker.Goals as goal

pub spawn-requires-send-F : goal.spawn-requires-send-F
spawn-requires-send-F g c κs = search (maker_send, sendable, crosses) depth 40 fits 100000
