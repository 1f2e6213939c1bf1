use denote.Param.Send.{sendable}
use Rattle.std.proofs.Crossing.{crosses}
use Rattle.sqs_server.proofs.ServerSending.{statistics_worker_send}
use Rattle.sqs_server.proofs.serving.Port.TheSendSync as port
use Rattle.sqs_server.proofs.serving.show.Goals as goal

pub spawn-requires-send-F : goal.spawn-requires-send-F
spawn-requires-send-F g c κs =
    let sent = statistics_worker_send _ g.R.Wait c.type_bounds.send-R in
    search (port.the_send, sendable, crosses) depth 40 fits 100000
