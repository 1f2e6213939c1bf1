use Rattle.std.proofs.Common.{Ok, Err, refl}
use Rattle.std.proofs.lemmas.Result.{err_from_is_err_and}
use Rattle.redrive.proofs.AnswerLemmas.{performed-done, confirmed-done, handed-done, created-done, deleted-done}
use Rattle.redrive.proofs.house.House.take_step.Goals as goal

pub returns-in_err-create-in-Create-clause-done : goal.returns-in_err-create-in-Create-clause-done
returns-in_err-create-in-Create-clause-done c =
    let p = err_from_is_err_and c.from_residual.result c.from_residual.ensures.1 in
    rw (c.in-Create.is, p.1, p.2)
    (created-done c.args.self.now c.in-Create.name c.in_err-create-in-Create.ensures.registry c.create.new.self c.in-Create.at c.in-Create.wish (Err c.in_err-create-in-Create.field-0.0) c.args.ticks.now c.args.ticks.now
    c.in_err-create-in-Create.ensures.answer c.in_err-create-in-Create.ensures.known c.in_err-create-in-Create.ensures.state refl)

pub returns-in_ok-create-in-Create-clause-done : goal.returns-in_ok-create-in-Create-clause-done
returns-in_ok-create-in-Create-clause-done c =
    rw c.in-Create.is
    (created-done c.args.self.now c.in-Create.name c.in_ok-create-in-Create.ensures.registry c.create.new.self c.in-Create.at c.in-Create.wish (Ok c.in_ok-create-in-Create.field-0) c.args.ticks.now c.args.ticks.now
    c.in_ok-create-in-Create.ensures.answer c.in_ok-create-in-Create.ensures.known c.in_ok-create-in-Create.ensures.state refl)

pub returns-in_err-take_queue-in-Delete-clause-done : goal.returns-in_err-take_queue-in-Delete-clause-done
returns-in_err-take_queue-in-Delete-clause-done c =
    let p = err_from_is_err_and c.from_residual-in_err-take_queue-in-Delete.result c.from_residual-in_err-take_queue-in-Delete.ensures.1 in
    rw (c.in-Delete.is, p.1, p.2)
    (deleted-done c.args.self.now c.take_queue.new.self c.in-Delete.at c.in-Delete.uid (Err c.in_err-take_queue-in-Delete.field-0.0) c.args.ticks.now c.take_queue.new.ticks
    c.in_err-take_queue-in-Delete.ensures.answer c.in_err-take_queue-in-Delete.ensures.absent c.in_err-take_queue-in-Delete.ensures.state c.in_err-take_queue-in-Delete.ensures.cost)

pub returns-in_ok-take_queue-in-Delete-clause-done : goal.returns-in_ok-take_queue-in-Delete-clause-done
returns-in_ok-take_queue-in-Delete-clause-done c =
    rw c.in-Delete.is
    (deleted-done c.args.self.now c.take_queue.new.self c.in-Delete.at c.in-Delete.uid (Ok c.in_ok-take_queue-in-Delete.field-0) c.args.ticks.now c.take_queue.new.ticks
    c.in_ok-take_queue-in-Delete.ensures.answer c.in_ok-take_queue-in-Delete.ensures.absent c.in_ok-take_queue-in-Delete.ensures.state c.in_ok-take_queue-in-Delete.ensures.cost)

pub returns-in_err-step-in-Perform-clause-done : goal.returns-in_err-step-in-Perform-clause-done
returns-in_err-step-in-Perform-clause-done c =
    let p = err_from_is_err_and c.from_residual-in_err-step-in-Perform.result c.from_residual-in_err-step-in-Perform.ensures.1 in
    rw (c.in-Perform.is, p.1, p.2)
    (performed-done c.args.self.now c.step.new.self c.in-Perform.at c.in-Perform.uid c.in-Perform.command (Err c.in_err-step-in-Perform.field-0.0) c.args.ticks.now c.step.new.ticks
    c.in_err-step-in-Perform.ensures.answer c.in_err-step-in-Perform.ensures.exact c.in_err-step-in-Perform.ensures.state c.in_err-step-in-Perform.ensures.cost)

pub returns-in_ok-step-in-Perform-clause-done : goal.returns-in_ok-step-in-Perform-clause-done
returns-in_ok-step-in-Perform-clause-done c =
    rw c.in-Perform.is
    (performed-done c.args.self.now c.step.new.self c.in-Perform.at c.in-Perform.uid c.in-Perform.command (Ok c.in_ok-step-in-Perform.field-0) c.args.ticks.now c.step.new.ticks
    c.in_ok-step-in-Perform.ensures.answer c.in_ok-step-in-Perform.ensures.exact c.in_ok-step-in-Perform.ensures.state c.in_ok-step-in-Perform.ensures.cost)

pub returns-in_err-arrive_one-in-HandOver-clause-done : goal.returns-in_err-arrive_one-in-HandOver-clause-done
returns-in_err-arrive_one-in-HandOver-clause-done c =
    let p = err_from_is_err_and c.from_residual-in_err-arrive_one-in-HandOver.result c.from_residual-in_err-arrive_one-in-HandOver.ensures.1 in
    rw (c.in-HandOver.is, p.1, p.2)
    (handed-done c.args.self.now c.arrive_one.new.self c.in-HandOver.at c.in-HandOver.source c.args.ticks.now c.arrive_one.new.ticks (Err c.in_err-arrive_one-in-HandOver.field-0.0)
    c.in_err-arrive_one-in-HandOver.ensures.answer c.in_err-arrive_one-in-HandOver.ensures.exact c.in_err-arrive_one-in-HandOver.ensures.state.left c.in_err-arrive_one-in-HandOver.ensures.cost)

pub returns-in_ok-arrive_one-in-HandOver-clause-done : goal.returns-in_ok-arrive_one-in-HandOver-clause-done
returns-in_ok-arrive_one-in-HandOver-clause-done c =
    rw c.in-HandOver.is
    (handed-done c.args.self.now c.arrive_one.new.self c.in-HandOver.at c.in-HandOver.source c.args.ticks.now c.arrive_one.new.ticks (Ok c.in_ok-arrive_one-in-HandOver.field-0)
    c.in_ok-arrive_one-in-HandOver.ensures.answer c.in_ok-arrive_one-in-HandOver.ensures.exact c.in_ok-arrive_one-in-HandOver.ensures.state.left c.in_ok-arrive_one-in-HandOver.ensures.cost)

pub returns-in_err-confirm-in-Confirm-clause-done : goal.returns-in_err-confirm-in-Confirm-clause-done
returns-in_err-confirm-in-Confirm-clause-done c =
    let p = err_from_is_err_and c.from_residual-in_err-confirm-in-Confirm.result c.from_residual-in_err-confirm-in-Confirm.ensures.1 in
    rw (c.in-Confirm.is, p.1, p.2)
    (confirmed-done c.args.self.now c.confirm.new.self c.in-Confirm.at c.in-Confirm.source c.args.ticks.now c.confirm.new.ticks (Err c.in_err-confirm-in-Confirm.field-0.0)
    c.in_err-confirm-in-Confirm.ensures.answer c.in_err-confirm-in-Confirm.ensures.exact c.in_err-confirm-in-Confirm.ensures.state c.in_err-confirm-in-Confirm.ensures.cost)

pub returns-in_ok-confirm-in-Confirm-clause-done : goal.returns-in_ok-confirm-in-Confirm-clause-done
returns-in_ok-confirm-in-Confirm-clause-done c =
    rw c.in-Confirm.is
    (confirmed-done c.args.self.now c.confirm.new.self c.in-Confirm.at c.in-Confirm.source c.args.ticks.now c.confirm.new.ticks (Ok c.in_ok-confirm-in-Confirm.field-0)
    c.in_ok-confirm-in-Confirm.ensures.answer c.in_ok-confirm-in-Confirm.ensures.exact c.in_ok-confirm-in-Confirm.ensures.state c.in_ok-confirm-in-Confirm.ensures.cost)
