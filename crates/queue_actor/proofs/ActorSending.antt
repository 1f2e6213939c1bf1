-- A directory may be shared by threads, and an actor may go to another thread, with any press that may.
use denote.RattleType.{RattleType}
use denote.Param.Send.{IsSend, IsSync, sendable}
use denote.Struct.Field.{unit-field}
use Rattle.std.proofs.Crossing.{crosses}
use Rattle.std.proofs.sync.OnceLock.TheSendSync as once
use Rattle.redrive.specs.contracts.catalog.Catalog as catalog
use Rattle.board.proofs.Sending.{reader_send}
use Rattle.desk.specs.contracts.desk.Desk as desk
use Rattle.desk.specs.contracts.pass.Pass as pass
use Rattle.desk.specs.contracts.printing.NoPress as nopress
use Rattle.desk.specs.contracts.printing.NoPressPress.TheImpl as impl
use Rattle.desk.specs.declared.printing.Press.{Ghosts}
use Rattle.desk.proofs.Sending.{pass_sends, desk_sends, desk_syncs}
use Rattle.queue_actor.specs.contracts.actor.Actor as actor
use Rattle.queue_actor.specs.contracts.directory.Served as served
use Rattle.queue_actor.specs.contracts.directory.DirectoryEntries as entries
use Rattle.queue_actor.specs.contracts.directory.Directory as directory
use Rattle.queue_actor.specs.contracts.directory.Directory.TheInside as inside
use Rattle.queue_actor.specs.contracts.duties.Duties as duties
use Rattle.queue_actor.specs.contracts.mark.ServedMark as mark
use Rattle.queue_actor.specs.contracts.readers.Shown as shown
use Rattle.queue_actor.specs.contracts.readers.Readers as readers
use Rattle.queue_actor.proofs.Sending.{envelope_sends}

catalog_send : IsSend catalog.the_row
catalog_send = search (sendable, crosses) depth 40 fits 100000

pub duties_send : IsSend duties.the_row
duties_send = search (once.the_send, sendable, crosses) depth 40 fits 100000

pub duties_sync : IsSync duties.the_row
duties_sync = search (once.the_sync, sendable, crosses) depth 40 fits 100000

pub mark_send : IsSend mark.the_row
mark_send = search (sendable, crosses) depth 40 fits 100000

pub mark_sync : IsSync mark.the_row
mark_sync = search (sendable, crosses) depth 40 fits 100000

shown_send : IsSend shown.the_row
shown_send = search (reader_send, sendable, crosses) depth 40 fits 100000

readers_send : IsSend readers.the_row
readers_send = search (shown_send, sendable, crosses) depth 40 fits 100000

module _ (P T : RattleType) (g : Ghosts P.Denot T.Denot) (sent : IsSend P) where
  desk_arc_send : IsSend (desk.the_row P T g)
  desk_arc_send = desk_sends P T g sent

  desk_arc_sync : IsSync (desk.the_row P T g)
  desk_arc_sync = desk_syncs P T g sent

  pass_own_send : IsSend (pass.the_row P T g)
  pass_own_send = pass_sends P T g sent

  pub actor_sends : IsSend (actor.the_row P T g)
  actor_sends = search (desk_arc_send, desk_arc_sync, pass_own_send, duties_send, duties_sync, sendable, crosses) depth 40 fits 100000

  pub served_sends : IsSend (served.the_row P T g)
  served_sends =
      let letter = envelope_sends P T g sent in
      search (desk_arc_send, desk_arc_sync, pass_own_send, duties_send, duties_sync, sendable, crosses) depth 40 fits 100000

  entries_sends : IsSend (entries.the_row P T g)
  entries_sends = search (served_sends, catalog_send, sendable, crosses) depth 40 fits 100000

  inside_sends : IsSend (inside.the_row P T g)
  inside_sends = search (entries_sends, readers_send, sendable, crosses) depth 40 fits 100000

  inside_syncs : IsSync (inside.the_row P T g)
  inside_syncs = search (entries_sends, readers_send, sendable, crosses) depth 40 fits 100000

  pub directory_sends : IsSend (directory.the_row P T g)
  directory_sends = search (inside_sends, sendable)

  pub directory_syncs : IsSync (directory.the_row P T g)
  directory_syncs = search (inside_syncs, sendable)

-- with the press that prints nothing
nopress_send : IsSend nopress.the_row
nopress_send = search sendable

pub actor_send : IsSend (actor.the_row nopress.the_row (unit-field).row impl.ghosts)
actor_send = actor_sends nopress.the_row (unit-field).row impl.ghosts nopress_send

pub served_send : IsSend (served.the_row nopress.the_row (unit-field).row impl.ghosts)
served_send = served_sends nopress.the_row (unit-field).row impl.ghosts nopress_send

pub directory_send : IsSend (directory.the_row nopress.the_row (unit-field).row impl.ghosts)
directory_send = directory_sends nopress.the_row (unit-field).row impl.ghosts nopress_send

pub directory_sync : IsSync (directory.the_row nopress.the_row (unit-field).row impl.ghosts)
directory_sync = directory_syncs nopress.the_row (unit-field).row impl.ghosts nopress_send
