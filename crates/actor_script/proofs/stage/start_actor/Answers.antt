use denote.RattleType.{RattleType}
use denote.Param.Send.{IsSend, sendable, struct_send, recorded_send}
use denote.Struct.Declared as parts
use denote.Struct.Field.{unit-field}
use Rattle.std.proofs.Crossing.{crosses}
use Rattle.std.proofs.alloc.Global.TheSendSync as global
use Rattle.crossbeam_channel.proofs.channel.Receiver.TheSendSync as channel
use Rattle.desk.proofs.Sending.{pass_send, desk_send, desk_sync}
use Rattle.desk.specs.contracts.printing.NoPress as nopress
use Rattle.desk.specs.contracts.printing.NoPressPress.TheImpl as impl
use Rattle.queue_actor.proofs.Sending.{envelope_send}
use Rattle.queue_actor.proofs.ActorSending.{duties_send, duties_sync, directory_send, directory_sync}
use Rattle.queue_actor.specs.contracts.actor.Actor as actor
use Rattle.actor_script.specs.contracts.stage.Service as service
use Rattle.actor_script.proofs.stage.start_actor.Goals as goal

actor_field_send : IsSend (actor.the_field nopress.the_row (unit-field).row impl.ghosts).row
actor_field_send = search (desk_send, desk_sync, pass_send, duties_send, duties_sync, sendable, crosses) depth 40 fits 100000

-- part by part, in the order of the fields
service_send : (T : RattleType) → IsSend T → IsSend (service.the_row T)
service_send T s =
    recorded_send
    (service.the_field T).row
    _
    _
    (service.the_type T).to_one
    (
    struct_send
    (parts.shape (service.the_type T)) (
      s,
      (
        global.the_field_send,
        (
          actor_field_send,
          (
            search (channel.the_send, envelope_send, sendable, crosses) depth 40 fits 100000,
            (
              search (directory_send, directory_sync, sendable, crosses) depth 40 fits 100000,
              (search (sendable, crosses) depth 40 fits 100000, tt),
            ),
          ),
        ),
      ),
    )
    )

pub spawn-requires-send-F : goal.spawn-requires-send-F
spawn-requires-send-F g c κs = search (service_send, sendable, crosses) depth 40 fits 100000
