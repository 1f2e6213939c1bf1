use Rattle.std.proofs.lemmas.Result.{err_from_is_err_and}
use Rattle.redrive.proofs.house.House.delete_queue.Goals as goal

pub returns-in_err-take_queue-clause-cost : goal.returns-in_err-take_queue-clause-cost
returns-in_err-take_queue-clause-cost c =
    let p = err_from_is_err_and c.from_residual.result c.from_residual.ensures.1 in
    rw (p.1, p.2) c.in_err-take_queue.ensures.cost
