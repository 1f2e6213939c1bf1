-- Mail, answers and futures may go to another thread, with any press that may. Each type by the types of its fields, so that no search goes through all of them.
use denote.RattleType.{RattleType}
use denote.Memory.{part_of, raw_all}
use denote.Param.Send.{IsSend, IsSync, AllSend, AllSync, cell_keyless, sendable}
use denote.Struct.Declared.{fields}
use denote.Struct.Field.{unit-field}
use Rattle.std.specs.Prelude.{◌+◌, []}
use Rattle.std.proofs.Crossing.{crosses}
use Rattle.std.proofs.MapsCrossing as maps
use Rattle.std.specs.contracts.option.Option as option
use Rattle.atomic_table.specs.contracts.shared.Seat as seat
use Rattle.counted_slot.proofs.Counted.TheSendSync as counted
use Rattle.futures.proofs.task.source.Source.TheSendSync as source
use Rattle.futures.proofs.task.sealed.Sealed.TheSendSync as sealed
use Rattle.futures.specs.contracts.task.waker.Route as route
use Rattle.futures.specs.contracts.task.waker.Waker as waker
use Rattle.futures.specs.contracts.channel.oneshot.state.State as state
use Rattle.futures.specs.contracts.channel.oneshot.Inner as inner
use Rattle.message.specs.contracts.content.Content as content
use Rattle.queue_config.specs.contracts.settings.Settings as settings
use Rattle.queue_core.specs.contracts.reply.Reply as reply
use Rattle.desk.specs.contracts.desk.Desk as desk
use Rattle.desk.specs.contracts.held.Held as held
use Rattle.desk.specs.contracts.pass.Pass as pass
use Rattle.desk.specs.contracts.printing.NoPress as nopress
use Rattle.desk.specs.contracts.printing.NoPressPress.TheImpl as impl
use Rattle.desk.specs.contracts.view.View as view
use Rattle.desk.specs.declared.printing.Press.{Ghosts}
use Rattle.desk.proofs.Sending.{content_send, settings_send, pass_sends, desk_sends, desk_syncs}
use Rattle.queue_actor.specs.contracts.answer.Answer as answer
use Rattle.queue_actor.specs.contracts.answer.Answer.TheInside as Inside
use Rattle.queue_actor.specs.contracts.future.AskFuture as future
use Rattle.queue_actor.specs.contracts.mail.Ask as ask
use Rattle.queue_actor.specs.contracts.envelope.Envelope as envelope
use Rattle.queue_actor.specs.contracts.envelope.Envelope.TheInside as EnvelopeInside
use Rattle.queue_actor.specs.contracts.mail.Mail as mail
use Rattle.queue_actor.specs.contracts.slot.AnswerPlace as place
use Rattle.queue_actor.specs.contracts.slot.AnswerSlot as slot

content_sync : IsSync content.the_row
content_sync = search (sendable, crosses, maps.crosses) depth 40 fits 100000

settings_sync : IsSync settings.the_row
settings_sync = search (sendable, crosses) depth 40 fits 100000

reply_sync : IsSync reply.the_row
reply_sync = search (content_send, content_sync, settings_sync, sendable, crosses) depth 40 fits 100000

pub reply_send : IsSend reply.the_row
reply_send = search (content_send, settings_send, sendable, crosses) depth 40 fits 100000

route_send : IsSend route.the_row
route_send = search (sealed.the_send, sendable, crosses) depth 40 fits 100000

route_sync : IsSync route.the_row
route_sync = search (sealed.the_sync, sendable, crosses) depth 40 fits 100000

waker_send : IsSend waker.the_row
waker_send = search (route_send, route_sync, sendable, crosses) depth 40 fits 100000

-- what tells that an answer came
abbrev Nothing : RattleType
Nothing = (unit-field).row

state_send : IsSend (state.the_row Nothing)
state_send = search (waker_send, sendable, crosses) depth 40 fits 100000

pub inner_send : IsSend (inner.the_row Nothing)
inner_send = search (state_send, source.the_send, sendable, crosses) depth 40 fits 100000

pub inner_sync : IsSync (inner.the_row Nothing)
inner_sync = search (state_send, source.the_sync, sendable, crosses) depth 40 fits 100000

module _ (P T : RattleType) (g : Ghosts P.Denot T.Denot) (sent : IsSend P) where
  desk_arc_send : IsSend (desk.the_row P T g)
  desk_arc_send = desk_sends P T g sent

  desk_arc_sync : IsSync (desk.the_row P T g)
  desk_arc_sync = desk_syncs P T g sent

  pass_own_send : IsSend (pass.the_row P T g)
  pass_own_send = pass_sends P T g sent

  -- a pass may be seen by several threads: it owns nothing but its seat, which is no thread's own
  pass_own_sync : IsSync (pass.the_row P T g)
  unfolding part_of
  pass_own_sync =
      let own = pass_sends P T g sent in
      let seats = seat.the_row (option.the_row (held.the_row P T g)) view.the_row in
      record { shared = λ d b o κ x. ((((λ q vs. (cell_keyless q (raw_all seats.mir) vs b (o + 0), ((own.owned d [] x).0 (vs, tt)).1.0)), tt), λ q. tt), tt) }

  fields_sends : AllSend (fields (Inside.the_type P T g))
  fields_sends = (search (desk_arc_send, desk_arc_sync, sendable, crosses) depth 40 fits 100000, (search (pass_own_send, sendable, crosses) depth 40 fits 100000, (search (sendable, crosses) depth 40 fits 100000, (search (reply_send, sendable, crosses) depth 40 fits 100000, tt))))

  fields_syncs : AllSync (fields (Inside.the_type P T g))
  fields_syncs = (search (desk_arc_send, desk_arc_sync, sendable, crosses) depth 40 fits 100000, (search (pass_own_sync, sendable, crosses) depth 40 fits 100000, (search (sendable, crosses) depth 40 fits 100000, (search (reply_sync, sendable, crosses) depth 40 fits 100000, tt))))

  inside_sends : IsSend (Inside.the_row P T g)
  inside_sends = search (fields_sends, sendable) depth 40 fits 100000

  inside_syncs : IsSync (Inside.the_row P T g)
  inside_syncs = search (fields_syncs, sendable) depth 40 fits 100000

  abbrev Answers : RattleType
  Answers = answer.the_row P T g

  pub answer_sends : IsSend Answers
  answer_sends = search (inside_sends, sendable)

  answer_syncs : IsSync Answers
  answer_syncs = search (inside_syncs, sendable)

  pub slot_sends : IsSend (slot.the_row P T g)
  slot_sends = search (answer_sends, answer_syncs, inner_send, inner_sync, counted.the_send, counted.the_sync, sendable, crosses) depth 40 fits 100000

  -- as a field of what goes with it
  place_field_sends : IsSend (place.the_field P T g).row
  place_field_sends = search (answer_sends, answer_syncs, inner_send, inner_sync, counted.the_send, counted.the_sync, sendable, crosses) depth 40 fits 100000

  ask_fields_sends : AllSend (fields (ask.the_type P (slot.the_row P T g) T g))
  ask_fields_sends = (search (desk_arc_send, desk_arc_sync, sendable, crosses) depth 40 fits 100000, (search (pass_own_send, sendable, crosses) depth 40 fits 100000, (search (sendable, crosses) depth 40 fits 100000, (search (sendable, crosses) depth 40 fits 100000, (search (sendable) depth 40 fits 100000, (search (slot_sends, sendable) depth 40, tt))))))

  -- as a field of what goes with it
  mail_field_sends : IsSend (mail.the_field P (slot.the_row P T g) T g).row
  mail_field_sends = search (ask_fields_sends, sendable, crosses) depth 40 fits 100000

  envelope_inside_sends : IsSend (EnvelopeInside.the_row P T g)
  envelope_inside_sends = search (mail_field_sends, sendable, crosses) depth 40 fits 100000

  pub envelope_sends : IsSend (envelope.the_row P T g)
  envelope_sends = search (envelope_inside_sends, sendable)

  pub future_sends : IsSend (future.the_row P T g)
  future_sends = search (place_field_sends, pass_own_send, sendable, crosses) depth 40 fits 100000

-- with the press that prints nothing
nopress_send : IsSend nopress.the_row
nopress_send = search sendable

pub answer_send : IsSend (answer.the_row nopress.the_row (unit-field).row impl.ghosts)
answer_send = answer_sends nopress.the_row (unit-field).row impl.ghosts nopress_send

pub envelope_send : IsSend (envelope.the_row nopress.the_row (unit-field).row impl.ghosts)
envelope_send = envelope_sends nopress.the_row (unit-field).row impl.ghosts nopress_send

pub future_send : IsSend (future.the_row nopress.the_row (unit-field).row impl.ghosts)
future_send = future_sends nopress.the_row (unit-field).row impl.ghosts nopress_send
