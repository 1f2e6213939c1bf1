use denote.Param.Send.{sendable}
use Rattle.std.proofs.Crossing.{crosses}
use Rattle.desk.proofs.Sending.{pass_send, desk_sync}
use Rattle.desk.proofs.tests.threads.Place.work.Goals as goal

pub for_each_mut-requires-send-T : goal.for_each_mut-requires-send-T
for_each_mut-requires-send-T g c κs within = search (pass_send, desk_sync, sendable, crosses) depth 40 fits 100000
