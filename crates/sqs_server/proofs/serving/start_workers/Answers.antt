use denote.Param.Send.{sendable}
use Rattle.std.proofs.Crossing.{crosses}
use Rattle.sqs_server.proofs.ServerSending.{request_worker_send}
use Rattle.sqs_server.proofs.serving.start_workers.Goals as goal

pub spawn-requires-send-F : goal.spawn-requires-send-F
spawn-requires-send-F g c κs =
    let sent = request_worker_send _ g.R.Wait c.type_bounds.send-R in
    search (sendable, crosses) depth 40 fits 100000
