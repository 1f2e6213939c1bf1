use Rattle.queue_core.specs.declared.reply.Reply.TheVariants as replies
use Rattle.queue_core.proofs.commands.InPlaceLemmas.{looked, performed_answer, performed_exact, performed_room, performed_state}
use Rattle.queue_core.proofs.state.QueueState.perform.Goals as goal

pub returns-in-Look-clause-answer : goal.returns-in-Look-clause-answer
returns-in-Look-clause-answer c = rw (c.in-Look.is, c.look.ensures.answer) (looked c.args.self.now c.args.at)

pub returns-in-Look-clause-exact : goal.returns-in-Look-clause-exact
returns-in-Look-clause-exact c = λ exact. rw (c.in-Look.is, c.look.ensures.answer) (looked c.args.self.now c.args.at)

pub returns-in-Receive-clause-answer : goal.returns-in-Receive-clause-answer
returns-in-Receive-clause-answer c = rw c.in-Receive.is c.receive_checked.ensures.answer

pub returns-in-Receive-clause-state : goal.returns-in-Receive-clause-state
returns-in-Receive-clause-state c = rw c.in-Receive.is c.receive_checked.ensures.state

pub returns-in-Receive-clause-room : goal.returns-in-Receive-clause-room
returns-in-Receive-clause-room c = rw c.in-Receive.is c.receive_checked.ensures.room

pub returns-in-Look-clause-room : goal.returns-in-Look-clause-room
returns-in-Look-clause-room c = λ room alone. rw (c.in-Look.is, c.look.ensures.answer) (looked c.args.self.now c.args.at)

pub returns-in-Send-clause-answer : goal.returns-in-Send-clause-answer
returns-in-Send-clause-answer c = rw c.in-Send.is c.send_checked.ensures.answer

pub returns-in-Send-clause-exact : goal.returns-in-Send-clause-exact
returns-in-Send-clause-exact c = rw c.in-Send.is c.send_checked.ensures.exact

pub returns-in-Send-clause-room : goal.returns-in-Send-clause-room
returns-in-Send-clause-room c = rw c.in-Send.is c.send_checked.ensures.room

pub returns-in-Send-clause-state : goal.returns-in-Send-clause-state
returns-in-Send-clause-state c = rw c.in-Send.is c.send_checked.ensures.state

pub returns-in-Change-clause-answer : goal.returns-in-Change-clause-answer
returns-in-Change-clause-answer c = rw c.in-Change.is c.change_checked.ensures.answer

pub returns-in-Change-clause-exact : goal.returns-in-Change-clause-exact
returns-in-Change-clause-exact c = rw c.in-Change.is c.change_checked.ensures.exact

pub returns-in-Change-clause-room : goal.returns-in-Change-clause-room
returns-in-Change-clause-room c = rw c.in-Change.is c.change_checked.ensures.room

pub returns-in-Change-clause-state : goal.returns-in-Change-clause-state
returns-in-Change-clause-state c = rw c.in-Change.is c.change_checked.ensures.state

pub returns-in-Delete-clause-answer : goal.returns-in-Delete-clause-answer
returns-in-Delete-clause-answer c = performed_answer {T = Unit {0}} (λ x. replies.Done) c.args.self.now c.args.at c.args.command.now c.delete.result c.as_done.result c.in-Delete.is c.as_done.ensures c.delete.ensures.answer

pub returns-in-Delete-clause-exact : goal.returns-in-Delete-clause-exact
returns-in-Delete-clause-exact c = performed_exact {T = Unit {0}} (λ x. replies.Done) c.args.self.now c.args.at c.args.command.now c.delete.result c.as_done.result c.in-Delete.is c.as_done.ensures c.delete.ensures.exact

pub returns-in-Delete-clause-room : goal.returns-in-Delete-clause-room
returns-in-Delete-clause-room c = performed_room {T = Unit {0}} (λ x. replies.Done) c.args.self.now c.args.at c.args.command.now c.delete.result c.as_done.result c.in-Delete.is c.as_done.ensures c.delete.ensures.room

pub returns-in-Delete-clause-state : goal.returns-in-Delete-clause-state
returns-in-Delete-clause-state c = performed_state {T = Unit {0}} (λ x. replies.Done) c.args.self.now c.args.at c.args.command.now c.delete.result c.as_done.result c.in-Delete.is c.as_done.ensures _ c.delete.ensures.state

pub returns-in-Purge-clause-answer : goal.returns-in-Purge-clause-answer
returns-in-Purge-clause-answer c = performed_answer {T = Unit {0}} (λ x. replies.Done) c.args.self.now c.args.at c.args.command.now c.purge.result c.as_done-in-Purge.result c.in-Purge.is c.as_done-in-Purge.ensures c.purge.ensures.answer

pub returns-in-Purge-clause-exact : goal.returns-in-Purge-clause-exact
returns-in-Purge-clause-exact c = performed_exact {T = Unit {0}} (λ x. replies.Done) c.args.self.now c.args.at c.args.command.now c.purge.result c.as_done-in-Purge.result c.in-Purge.is c.as_done-in-Purge.ensures c.purge.ensures.exact

pub returns-in-Purge-clause-room : goal.returns-in-Purge-clause-room
returns-in-Purge-clause-room c = performed_room {T = Unit {0}} (λ x. replies.Done) c.args.self.now c.args.at c.args.command.now c.purge.result c.as_done-in-Purge.result c.in-Purge.is c.as_done-in-Purge.ensures c.purge.ensures.room

pub returns-in-Purge-clause-state : goal.returns-in-Purge-clause-state
returns-in-Purge-clause-state c = performed_state {T = Unit {0}} (λ x. replies.Done) c.args.self.now c.args.at c.args.command.now c.purge.result c.as_done-in-Purge.result c.in-Purge.is c.as_done-in-Purge.ensures _ c.purge.ensures.state

pub returns-in-Set-clause-answer : goal.returns-in-Set-clause-answer
returns-in-Set-clause-answer c = performed_answer {T = Unit {0}} (λ x. replies.Done) c.args.self.now c.args.at c.args.command.now c.set.result c.as_done-in-Set.result c.in-Set.is c.as_done-in-Set.ensures c.set.ensures.answer

pub returns-in-Set-clause-exact : goal.returns-in-Set-clause-exact
returns-in-Set-clause-exact c = performed_exact {T = Unit {0}} (λ x. replies.Done) c.args.self.now c.args.at c.args.command.now c.set.result c.as_done-in-Set.result c.in-Set.is c.as_done-in-Set.ensures c.set.ensures.exact

pub returns-in-Set-clause-room : goal.returns-in-Set-clause-room
returns-in-Set-clause-room c = performed_room {T = Unit {0}} (λ x. replies.Done) c.args.self.now c.args.at c.args.command.now c.set.result c.as_done-in-Set.result c.in-Set.is c.as_done-in-Set.ensures c.set.ensures.room

pub returns-in-Set-clause-state : goal.returns-in-Set-clause-state
returns-in-Set-clause-state c = performed_state {T = Unit {0}} (λ x. replies.Done) c.args.self.now c.args.at c.args.command.now c.set.result c.as_done-in-Set.result c.in-Set.is c.as_done-in-Set.ensures _ c.set.ensures.state

pub returns-in-Arrive-clause-answer : goal.returns-in-Arrive-clause-answer
returns-in-Arrive-clause-answer c = performed_answer (λ x. replies.Arrived x) c.args.self.now c.args.at c.args.command.now c.arrive_shared.result c.as_arrived.result c.in-Arrive.is c.as_arrived.ensures c.arrive_shared.ensures.answer

pub returns-in-Arrive-clause-exact : goal.returns-in-Arrive-clause-exact
returns-in-Arrive-clause-exact c = performed_exact (λ x. replies.Arrived x) c.args.self.now c.args.at c.args.command.now c.arrive_shared.result c.as_arrived.result c.in-Arrive.is c.as_arrived.ensures c.arrive_shared.ensures.exact

pub returns-in-Arrive-clause-room : goal.returns-in-Arrive-clause-room
returns-in-Arrive-clause-room c = performed_room (λ x. replies.Arrived x) c.args.self.now c.args.at c.args.command.now c.arrive_shared.result c.as_arrived.result c.in-Arrive.is c.as_arrived.ensures c.arrive_shared.ensures.room

pub returns-in-Arrive-clause-state : goal.returns-in-Arrive-clause-state
returns-in-Arrive-clause-state c = performed_state (λ x. replies.Arrived x) c.args.self.now c.args.at c.args.command.now c.arrive_shared.result c.as_arrived.result c.in-Arrive.is c.as_arrived.ensures _ c.arrive_shared.ensures.state

pub returns-in-Settle-clause-answer : goal.returns-in-Settle-clause-answer
returns-in-Settle-clause-answer c = performed_answer (λ x. replies.Settled x) c.args.self.now c.args.at c.args.command.now c.settle.result c.as_settled.result c.in-Settle.is c.as_settled.ensures c.settle.ensures.answer

pub returns-in-Settle-clause-exact : goal.returns-in-Settle-clause-exact
returns-in-Settle-clause-exact c = performed_exact (λ x. replies.Settled x) c.args.self.now c.args.at c.args.command.now c.settle.result c.as_settled.result c.in-Settle.is c.as_settled.ensures c.settle.ensures.exact

pub returns-in-Settle-clause-room : goal.returns-in-Settle-clause-room
returns-in-Settle-clause-room c = performed_room (λ x. replies.Settled x) c.args.self.now c.args.at c.args.command.now c.settle.result c.as_settled.result c.in-Settle.is c.as_settled.ensures c.settle.ensures.room

pub returns-in-Settle-clause-state : goal.returns-in-Settle-clause-state
returns-in-Settle-clause-state c = performed_state (λ x. replies.Settled x) c.args.self.now c.args.at c.args.command.now c.settle.result c.as_settled.result c.in-Settle.is c.as_settled.ensures _ c.settle.ensures.state

pub returns-in-Orphan-clause-answer : goal.returns-in-Orphan-clause-answer
returns-in-Orphan-clause-answer c = performed_answer (λ x. replies.Orphaned x) c.args.self.now c.args.at c.args.command.now c.orphan.result c.as_orphaned.result c.in-Orphan.is c.as_orphaned.ensures c.orphan.ensures.answer

pub returns-in-Orphan-clause-exact : goal.returns-in-Orphan-clause-exact
returns-in-Orphan-clause-exact c = performed_exact (λ x. replies.Orphaned x) c.args.self.now c.args.at c.args.command.now c.orphan.result c.as_orphaned.result c.in-Orphan.is c.as_orphaned.ensures c.orphan.ensures.exact

pub returns-in-Orphan-clause-room : goal.returns-in-Orphan-clause-room
returns-in-Orphan-clause-room c = performed_room (λ x. replies.Orphaned x) c.args.self.now c.args.at c.args.command.now c.orphan.result c.as_orphaned.result c.in-Orphan.is c.as_orphaned.ensures c.orphan.ensures.room

pub returns-in-Orphan-clause-state : goal.returns-in-Orphan-clause-state
returns-in-Orphan-clause-state c = performed_state (λ x. replies.Orphaned x) c.args.self.now c.args.at c.args.command.now c.orphan.result c.as_orphaned.result c.in-Orphan.is c.as_orphaned.ensures _ c.orphan.ensures.state

pub returns-in-Close-clause-answer : goal.returns-in-Close-clause-answer
returns-in-Close-clause-answer c = performed_answer {T = Unit {0}} (λ x. replies.Done) c.args.self.now c.args.at c.args.command.now c.close.result c.as_done-in-Close.result c.in-Close.is c.as_done-in-Close.ensures c.close.ensures.answer

pub returns-in-Close-clause-exact : goal.returns-in-Close-clause-exact
returns-in-Close-clause-exact c = performed_exact {T = Unit {0}} (λ x. replies.Done) c.args.self.now c.args.at c.args.command.now c.close.result c.as_done-in-Close.result c.in-Close.is c.as_done-in-Close.ensures c.close.ensures.exact

pub returns-in-Close-clause-room : goal.returns-in-Close-clause-room
returns-in-Close-clause-room c = performed_room {T = Unit {0}} (λ x. replies.Done) c.args.self.now c.args.at c.args.command.now c.close.result c.as_done-in-Close.result c.in-Close.is c.as_done-in-Close.ensures c.close.ensures.room

pub returns-in-Close-clause-state : goal.returns-in-Close-clause-state
returns-in-Close-clause-state c = performed_state {T = Unit {0}} (λ x. replies.Done) c.args.self.now c.args.at c.args.command.now c.close.result c.as_done-in-Close.result c.in-Close.is c.as_done-in-Close.ensures _ c.close.ensures.state

pub returns-in-Receive-clause-exact : goal.returns-in-Receive-clause-exact
returns-in-Receive-clause-exact c = rw c.in-Receive.is c.receive_checked.ensures.exact
