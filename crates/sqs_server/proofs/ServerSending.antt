-- What goes between the threads of the server, whose desks print on boards. Each type by the types of its fields, so that no search goes through all of them.
use denote.RattleType.{RattleType}
use denote.Param.Send.{IsSend, IsSync, sendable, struct_send, recorded_send}
use denote.Struct.Declared as parts
use Rattle.std.proofs.Crossing.{crosses}
use Rattle.std.proofs.alloc.Global.TheSendSync as global
use Rattle.crossbeam_channel.proofs.channel.Receiver.TheSendSync as channel
use Rattle.board.proofs.Sending.{publisher_send}
use Rattle.board.specs.contracts.publisher.Publisher as publisher
use Rattle.board.specs.contracts.publisher.PublisherPress.TheImpl as impl
use Rattle.board.specs.contracts.told.KnownTurns as told
use Rattle.desk.proofs.Sending.{pass_sends, desk_sends, desk_syncs}
use Rattle.desk.specs.contracts.desk.Desk as desk
use Rattle.desk.specs.contracts.pass.Pass as pass
use Rattle.desk.specs.declared.printing.Press.{Ghosts}
use Rattle.counted_slot.proofs.Counted.TheSendSync as counted
use Rattle.queue_actor.proofs.Sending.{envelope_sends, inner_send, inner_sync}
use Rattle.queue_actor.proofs.ActorSending.{duties_send, duties_sync, mark_send, mark_sync, directory_sends, directory_syncs}
use Rattle.queue_actor.specs.contracts.actor.Actor as actor
use Rattle.queue_actor.specs.contracts.directory.Directory as directory
use Rattle.queue_actor.specs.contracts.envelope.Envelope as envelope
use Rattle.std.specs.declared.sync.Wait as wait
use Rattle.sqs_server.proofs.attendance.Attendance.TheSendSync as attendance
use Rattle.sqs_server.proofs.bodies.Bodies.TheSendSync as bodies
use Rattle.sqs_server.proofs.notices.Notices.TheSendSync as notices
use Rattle.sqs_server.proofs.register.Register.TheSendSync as register
use Rattle.sqs_server.proofs.serving.Port.TheSendSync as port
use Rattle.sqs_server.specs.contracts.front.Front as front
use Rattle.sqs_server.specs.contracts.front.Hall as hall
use Rattle.sqs_server.specs.contracts.order.Made as made
use Rattle.sqs_server.specs.contracts.order.MadeSlot as slot
use Rattle.sqs_server.specs.contracts.order.Order as order
use Rattle.sqs_server.specs.contracts.queues.Maker as maker
use Rattle.sqs_server.specs.contracts.queues.Serving as serving
use Rattle.sqs_server.specs.contracts.serving.StatisticsWorker as statistics_worker
use Rattle.sqs_server.specs.contracts.serving.RequestWorker as request_worker

-- what is ordered, and what becomes of it
made_send : IsSend made.the_row
made_send = search (mark_send, sendable, crosses) depth 40 fits 100000

made_sync : IsSync made.the_row
made_sync = search (mark_sync, sendable, crosses) depth 40 fits 100000

slot_send : IsSend slot.the_row
slot_send = search (made_send, made_sync, inner_send, inner_sync, counted.the_send, counted.the_sync, sendable, crosses) depth 40 fits 100000

order_send : IsSend order.the_row
order_send = search (slot_send, sendable, crosses) depth 40 fits 100000

-- what a queue is served with, where the runtime may go to another thread
module _ (T : RattleType) (w : wait.Ghosts T.Denot) (s : IsSend T) where
  abbrev Prints : RattleType
  Prints = publisher.the_row T

  abbrev g : Ghosts Prints.Denot told.the_row.Denot
  g = impl.ghosts T w impl.no_dict impl.no_dict

  prints_send : IsSend Prints
  prints_send = publisher_send T s

  desk_send : IsSend (desk.the_row Prints told.the_row g)
  desk_send = desk_sends Prints told.the_row g prints_send

  desk_sync : IsSync (desk.the_row Prints told.the_row g)
  desk_sync = desk_syncs Prints told.the_row g prints_send

  pass_send : IsSend (pass.the_row Prints told.the_row g)
  pass_send = pass_sends Prints told.the_row g prints_send

  envelope_send : IsSend (envelope.the_row Prints told.the_row g)
  envelope_send = envelope_sends Prints told.the_row g prints_send

  -- part by part, as a field of what goes with it
  actor_field_send : IsSend (actor.the_field Prints told.the_row g).row
  actor_field_send = search (desk_send, desk_sync, pass_send, duties_send, duties_sync, sendable, crosses) depth 40 fits 100000

  pub directory_send : IsSend (directory.the_row Prints told.the_row g)
  directory_send = directory_sends Prints told.the_row g prints_send

  pub directory_sync : IsSync (directory.the_row Prints told.the_row g)
  directory_sync = directory_syncs Prints told.the_row g prints_send

pub hall_send : (T : RattleType) (w : wait.Ghosts T.Denot) → IsSend T → IsSend (hall.the_row T w)
hall_send T w s =
    let one = directory_send T w s in
    let both = directory_sync T w s in
    search (order_send, register.the_send, register.the_sync, bodies.the_send, bodies.the_sync, sendable, crosses) depth 40 fits 100000

pub hall_sync : (T : RattleType) (w : wait.Ghosts T.Denot) → IsSend T → IsSync (hall.the_row T w)
hall_sync T w s =
    let one = directory_send T w s in
    let both = directory_sync T w s in
    search (order_send, register.the_send, register.the_sync, bodies.the_send, bodies.the_sync, sendable, crosses) depth 40 fits 100000

-- part by part, as a field of what goes with it
front_field_send : (T : RattleType) (w : wait.Ghosts T.Denot) → IsSend T → IsSend (front.the_field T w).row
front_field_send T w s =
    let one = hall_send T w s in
    let both = hall_sync T w s in
    struct_send
    (parts.shape (front.the_type T w))
    (s, (global.the_field_send, (search (sendable, crosses) depth 40 fits 100000, (search (sendable, crosses) depth 40 fits 100000, tt))))

-- ---- threads of their own

pub serving_send : (T : RattleType) (w : wait.Ghosts T.Denot) → IsSend T → IsSend (serving.the_row T w)
serving_send T w s =
    recorded_send
    (serving.the_field T w).row
    _
    _
    (serving.the_type T w).to_one
    (
    struct_send
    (parts.shape (serving.the_type T w)) (
      s,
      (
        global.the_field_send,
        (
          actor_field_send T w s,
          (
            (let one = envelope_send T w s in search (channel.the_send, sendable, crosses) depth 40 fits 100000),
            ((let one = directory_send T w s in let both = directory_sync T w s in search (sendable, crosses) depth 40 fits 100000), tt),
          ),
        ),
      ),
    )
    )

pub maker_send : (T : RattleType) (w : wait.Ghosts T.Denot) → IsSend T → IsSend (maker.the_row T w)
maker_send T w s =
    let one = directory_send T w s in
    let both = directory_sync T w s in
    search (order_send, channel.the_send, sendable, crosses) depth 40 fits 100000

pub statistics_worker_send : (T : RattleType) (w : wait.Ghosts T.Denot) → IsSend T → IsSend (statistics_worker.the_row T w)
statistics_worker_send T w s =
    let one = directory_send T w s in
    let both = directory_sync T w s in
    recorded_send
    (statistics_worker.the_field T w).row
    _
    _
    (statistics_worker.the_type T w).to_one
    (
    struct_send
    (parts.shape (statistics_worker.the_type T w)) (
      s,
      (
        search (sendable, crosses) depth 40 fits 100000,
        (
          search (register.the_send, register.the_sync, sendable, crosses) depth 40 fits 100000,
          (attendance.the_field_send, (notices.the_field_send, tt)),
        ),
      ),
    )
    )

pub request_worker_send : (T : RattleType) (w : wait.Ghosts T.Denot) → IsSend T → IsSend (request_worker.the_row T w)
request_worker_send T w s =
    recorded_send
    (request_worker.the_field T w).row
    _
    _
    (request_worker.the_type T w).to_one
    (
    struct_send
    (parts.shape (request_worker.the_type T w)) (
      s,
      (
        port.the_field_send,
        (
          front_field_send T w s,
          (
            attendance.the_field_send,
            (search (sendable, crosses) depth 40 fits 100000, (notices.the_field_send, tt)),
          ),
        ),
      ),
    )
    )
