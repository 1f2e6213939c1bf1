use denote.Param.Send.{sendable}
use Rattle.std.proofs.Crossing.{crosses}
use Rattle.sqs_server.proofs.ServerSending.{directory_send, directory_sync}
use Rattle.sqs_server.proofs.queues.start_clock.Goals as goal

pub spawn-telling-requires-send-F : goal.spawn-telling-requires-send-F
spawn-telling-requires-send-F g c κs = search (directory_send, directory_sync, sendable, crosses) depth 40 fits 100000
