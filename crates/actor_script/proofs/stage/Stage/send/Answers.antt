use denote.Param.Send.{sendable}
use Rattle.std.proofs.Crossing.{crosses}
use Rattle.queue_actor.proofs.ActorSending.{directory_send, directory_sync}
use Rattle.actor_script.proofs.stage.Stage.send.Goals as goal

pub spawn-requires-send-F : goal.spawn-requires-send-F
spawn-requires-send-F g c κs = search (directory_send, directory_sync, sendable, crosses) depth 40 fits 100000
