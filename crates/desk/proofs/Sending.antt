-- A desk may be shared by threads or go to another, and so may a pass. Each type by the types of its fields, so that no search goes through all of them.
use denote.RattleType.{RattleType}
use denote.Param.Send.{IsSend, IsSync, AllSend, struct_send, recorded_send, view_send, sendable}
use denote.Struct.Declared.{fields, shape}
use denote.Struct.Struct.{Struct}
use denote.Struct.Field.{unit-field}
use Rattle.std.proofs.Crossing.{crosses}
use Rattle.std.proofs.MapsCrossing as maps
use Rattle.atomic_table.proofs.shared.Seat.TheSendSync as seat
use Rattle.atomic_table.proofs.shared.Shared.TheSendSync as shared
use Rattle.atomic_table.proofs.send_lease.SendLease.TheSendSync as lease
use Rattle.message.specs.contracts.content.Content as content
use Rattle.message.specs.contracts.name.QueueName as name
use Rattle.queue_config.specs.contracts.settings.Settings as settings
use Rattle.queue_config.specs.contracts.limits.Limits as limits
use Rattle.queue_config.specs.contracts.alarm_rule.AlarmRule as rule
use Rattle.journal.specs.contracts.moment.Moment as moment
use Rattle.journal.specs.contracts.numbers.Numbers as numbers
use Rattle.journal.specs.contracts.base.KeptMessage as kept_message
use Rattle.journal.specs.contracts.base.Parts as parts
use Rattle.journal.specs.contracts.base.Base as checkpoint
use Rattle.journal.specs.contracts.entry.Event as event
use Rattle.journal.specs.contracts.entry.Entry as entry
use Rattle.journal.specs.contracts.journal.Journal as journal
use Rattle.journal.specs.contracts.ticks.Ticks as ticks
use Rattle.metric_window.proofs.Sending.{window_send}
use Rattle.alarm.proofs.Sending.{alarm_send}
use Rattle.queue_core.specs.contracts.tally.Tally as tally
use Rattle.queue_core.specs.contracts.record.Record as kept
use Rattle.queue_core.specs.contracts.indices.Indices as indices
use Rattle.queue_core.specs.contracts.index.MessageIndex as index
use Rattle.queue_core.specs.contracts.accepted.Accepted as accepted
use Rattle.queue_core.specs.contracts.watch.Watch as watch
use Rattle.queue_core.specs.contracts.state.QueueState as queue
use Rattle.queue_core.specs.contracts.state.QueueState.TheInside as inside
use Rattle.desk.specs.declared.printing.Press.{Ghosts}
use Rattle.desk.specs.contracts.made.Made as made
use Rattle.desk.specs.contracts.held.Held as held
use Rattle.desk.specs.contracts.desk.Desk as desk
use Rattle.desk.specs.contracts.pass.Pass as pass
use Rattle.desk.specs.contracts.printing.NoPress as nopress
use Rattle.desk.specs.contracts.printing.NoPressPress.TheImpl as impl

pub content_send : IsSend content.the_row
content_send = search (sendable, crosses, maps.crosses) depth 40 fits 100000

numbers_send : IsSend numbers.the_row
numbers_send = search (sendable, crosses) depth 40 fits 100000

pub settings_send : IsSend settings.the_row
settings_send = search (sendable, crosses) depth 40 fits 100000

kept_message_send : IsSend (kept_message.the_row content.the_row)
kept_message_send = search (content_send, sendable, crosses) depth 40 fits 100000

parts_send : IsSend (parts.the_row content.the_row)
parts_send = search (kept_message_send, settings_send, sendable, crosses) depth 40 fits 100000

checkpoint_send : IsSend (checkpoint.the_row content.the_row)
checkpoint_send = search (parts_send, sendable, crosses) depth 40 fits 100000

event_send : IsSend (event.the_row content.the_row)
event_send = search (content_send, numbers_send, settings_send, checkpoint_send, sendable, crosses) depth 40 fits 100000

entry_send : IsSend (entry.the_row content.the_row)
entry_send = search (content_send, numbers_send, settings_send, checkpoint_send, sendable, crosses) depth 40 fits 100000

journal_send : IsSend journal.the_row
journal_send = search (entry_send, sendable, crosses) depth 40 fits 100000

ticks_send : IsSend ticks.the_row
ticks_send = search (sendable, crosses) depth 40 fits 100000

made_send : IsSend made.the_row
made_send = search (sendable, crosses) depth 40 fits 100000

name_send : IsSend name.the_row
name_send = search (sendable, crosses) depth 40 fits 100000

limits_send : IsSend limits.the_row
limits_send = search (sendable, crosses) depth 40 fits 100000

rule_send : IsSend rule.the_row
rule_send = search (name_send, sendable, crosses) depth 40 fits 100000

moment_send : IsSend moment.the_row
moment_send = search (sendable, crosses) depth 40 fits 100000

tally_send : IsSend (tally.the_field).row
tally_send = search (settings_send, sendable, crosses) depth 40 fits 100000

indices_send : IsSend (indices.the_field).row
indices_send = search (sendable, crosses) depth 40 fits 100000

kept_send : IsSend kept.the_row
kept_send = search (content_send, sendable, crosses) depth 40 fits 100000

index_send : IsSend (index.the_field).row
index_send = search (kept_send, indices_send, sendable, crosses) depth 40 fits 100000

accepted_send : IsSend (accepted.the_field).row
accepted_send = search (sendable, crosses) depth 40 fits 100000

watch_send : IsSend (watch.the_field).row
watch_send = search (window_send, alarm_send, sendable, crosses) depth 40 fits 100000

-- part by part, in the order of the queue's fields
inside_send : IsSend inside.the_row
inside_send =
    let all : AllSend (fields inside.the_type) =
    (search sendable, (name_send, (limits_send, (search (rule_send, sendable, crosses) depth 40 fits 100000, (moment_send, (journal_send, (tally_send, (index_send, (accepted_send, (watch_send, tt)))))))))) in
    let T = inside.the_type in
    recorded_send (Struct (shape T)) T.D T.to T.to_one (struct_send (shape T) all)

queue_send : IsSend queue.the_row
queue_send = view_send _ _ _ _ _ inside_send

-- with any press that may go to another thread
held_sends : (P T : RattleType) (g : Ghosts P.Denot T.Denot) → IsSend P → IsSend (held.the_row P T g)
held_sends P T g sent = search (queue_send, ticks_send, made_send, sendable, crosses) depth 40 fits 100000

pub pass_sends : (P T : RattleType) (g : Ghosts P.Denot T.Denot) → IsSend P → IsSend (pass.the_row P T g)
pass_sends P T g sent = let held : IsSend (held.the_row P T g) = held_sends P T g sent in search (seat.the_send, sendable, crosses) depth 40 fits 100000

pub desk_syncs : (P T : RattleType) (g : Ghosts P.Denot T.Denot) → IsSend P → IsSync (desk.the_row P T g)
desk_syncs P T g sent = let held : IsSend (held.the_row P T g) = held_sends P T g sent in search (shared.the_sync, lease.the_sync, sendable, crosses) depth 40 fits 100000

pub desk_sends : (P T : RattleType) (g : Ghosts P.Denot T.Denot) → IsSend P → IsSend (desk.the_row P T g)
desk_sends P T g sent = let held : IsSend (held.the_row P T g) = held_sends P T g sent in search (shared.the_send, lease.the_send, sendable, crosses) depth 40 fits 100000

nopress_send : IsSend nopress.the_row
nopress_send = search sendable

pub pass_send : IsSend (pass.the_row nopress.the_row (unit-field).row impl.ghosts)
pass_send = pass_sends nopress.the_row (unit-field).row impl.ghosts nopress_send

pub desk_sync : IsSync (desk.the_row nopress.the_row (unit-field).row impl.ghosts)
desk_sync = desk_syncs nopress.the_row (unit-field).row impl.ghosts nopress_send

pub desk_send : IsSend (desk.the_row nopress.the_row (unit-field).row impl.ghosts)
desk_send = desk_sends nopress.the_row (unit-field).row impl.ghosts nopress_send
