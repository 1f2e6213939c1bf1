use Rattle.std.proofs.Common.{refl}
use Rattle.std.proofs.lemmas.Result.{err_from_is_err_and}
use Rattle.queue_core.specs.declared.command.Command.TheVariants as commands
use Rattle.queue_core.specs.declared.reply.Reply.TheVariants as replies
use Rattle.queue_core.specs.Queue.{outcome_in}
use Rattle.queue_core.proofs.commands.RoomLemmas.{finished_answer, finished_exact, finished_room, finished_state, finished_cost, back_of, refused_answer, refused_exact, refused_room, refused_state, short_exact, short_room}
use Rattle.queue_core.proofs.state.QueueState.send.Goals as goal

pub returns-clause-answer : goal.returns-clause-answer
returns-clause-answer c = finished_answer (λ y. replies.Sent y) c.args.self.now c.args.at (commands.Send c.args.content c.args.delay) refl c.begin.new.self c.make_way.new.self c.send_now-answer.new.self c.put_back.new.self c.in_ok-replaced.replaced c.send_now-answer.result c.put_back.result
    c.begin.ensures.state c.in_ok-begin.ensures.ok c.in_ok-replaced.ensures.ok c.put_back.ensures.answer
    c.send_now-answer.ensures.answer

pub returns-clause-exact : goal.returns-clause-exact
returns-clause-exact c = finished_exact (λ y. replies.Sent y) c.args.self.now c.args.at (commands.Send c.args.content c.args.delay) refl c.begin.new.self c.make_way.new.self c.send_now-answer.new.self c.put_back.new.self c.in_ok-replaced.replaced c.send_now-answer.result c.put_back.result
    c.begin.ensures.state c.in_ok-begin.ensures.ok c.in_ok-replaced.ensures.ok c.put_back.ensures.answer
    c.send_now-answer.ensures.exact

pub returns-clause-room : goal.returns-clause-room
returns-clause-room c = finished_room (λ y. replies.Sent y) c.args.self.now c.args.at (commands.Send c.args.content c.args.delay) refl c.begin.new.self c.make_way.new.self c.send_now-answer.new.self c.put_back.new.self c.in_ok-replaced.replaced c.send_now-answer.result c.put_back.result
    c.begin.ensures.state c.in_ok-begin.ensures.ok c.in_ok-replaced.ensures.ok c.put_back.ensures.answer
    c.send_now-answer.ensures.room

pub returns-clause-state : goal.returns-clause-state
returns-clause-state c = finished_state (λ y. replies.Sent y) c.args.self.now c.args.at (commands.Send c.args.content c.args.delay) refl c.begin.new.self c.make_way.new.self c.send_now-answer.new.self c.put_back.new.self c.in_ok-replaced.replaced c.send_now-answer.result c.put_back.result
    c.begin.ensures.state c.in_ok-begin.ensures.ok c.in_ok-replaced.ensures.ok c.put_back.ensures.answer
    c.send_now-answer.ensures.state c.in_ok-replaced.ensures.back c.put_back.ensures.state

pub returns-clause-cost : goal.returns-clause-cost
returns-clause-cost c = finished_cost (λ y. replies.Sent y) c.args.self.now c.args.at (commands.Send c.args.content c.args.delay) refl c.begin.new.self c.make_way.new.self c.send_now-answer.new.self c.put_back.new.self c.in_ok-replaced.replaced c.send_now-answer.result c.put_back.result
    c.begin.ensures.state c.in_ok-begin.ensures.ok c.in_ok-replaced.ensures.ok c.put_back.ensures.answer
    c.send_now-answer.ensures.state c.in_ok-replaced.ensures.back c.put_back.ensures.state
    c.args.ticks.now c.begin.new.ticks c.send_now-answer.new.ticks c.make_way.ensures.legal c.begin.ensures.come c.send_now-answer.ensures.cost

pub put_back-requires : goal.put_back-requires
put_back-requires c = back_of c.make_way.new.self c.send_now-answer.new.self (outcome_in c.make_way.new.self (commands.Send c.args.content c.args.delay)) c.in_ok-replaced.replaced c.send_now-answer.result c.send_now-answer.ensures.state c.in_ok-replaced.ensures.kept

pub returns-in_err-begin-clause-answer : goal.returns-in_err-begin-clause-answer
returns-in_err-begin-clause-answer c =
    let p = err_from_is_err_and c.from_residual.result c.from_residual.ensures.1 in
    rw (p.1, p.2) (refused_answer c.args.self.now c.args.at (commands.Send c.args.content c.args.delay) refl c.begin.new.self c.begin.ensures.state (λ y. replies.Sent y) c.in_err-begin.field-0.0 c.in_err-begin.ensures.refused)

pub returns-in_err-begin-clause-exact : goal.returns-in_err-begin-clause-exact
returns-in_err-begin-clause-exact c =
    let p = err_from_is_err_and c.from_residual.result c.from_residual.ensures.1 in
    rw (p.1, p.2) (refused_exact c.args.self.now c.args.at (commands.Send c.args.content c.args.delay) refl c.begin.new.self c.begin.ensures.state (λ y. replies.Sent y) c.in_err-begin.field-0.0 c.in_err-begin.ensures.refused)

pub returns-in_err-begin-clause-room : goal.returns-in_err-begin-clause-room
returns-in_err-begin-clause-room c =
    let p = err_from_is_err_and c.from_residual.result c.from_residual.ensures.1 in
    rw (p.1, p.2) (refused_room c.args.self.now c.args.at (commands.Send c.args.content c.args.delay) refl c.begin.new.self c.begin.ensures.state (λ y. replies.Sent y) c.in_err-begin.field-0.0 c.in_err-begin.ensures.refused)

pub returns-in_err-begin-clause-state : goal.returns-in_err-begin-clause-state
returns-in_err-begin-clause-state c =
    let p = err_from_is_err_and c.from_residual.result c.from_residual.ensures.1 in
    rw (p.1, p.2) (refused_state c.args.self.now c.args.at (commands.Send c.args.content c.args.delay) refl c.begin.new.self c.begin.ensures.state (λ y. replies.Sent y) c.in_err-begin.field-0.0 c.in_err-begin.ensures.refused)

pub returns-in_err-replaced-clause-exact : goal.returns-in_err-replaced-clause-exact
returns-in_err-replaced-clause-exact c = short_exact c.args.self.now c.args.at (commands.Send c.args.content c.args.delay) refl c.begin.new.self c.begin.ensures.state c.in_ok-begin.ensures.ok c.in_err-replaced.ensures.wants _

pub returns-in_err-replaced-clause-room : goal.returns-in_err-replaced-clause-room
returns-in_err-replaced-clause-room c = short_room c.args.self.now c.args.at (commands.Send c.args.content c.args.delay) refl c.begin.new.self c.begin.ensures.state c.in_ok-begin.ensures.ok c.in_err-replaced.ensures.wants _
