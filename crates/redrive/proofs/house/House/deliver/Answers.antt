use Rattle.std.proofs.lemmas.Result.{err_from_is_err_and}
use Rattle.redrive.proofs.house.House.deliver.Goals as goal

pub returns-in_err-reply-clause-state : goal.returns-in_err-reply-clause-state
returns-in_err-reply-clause-state c =
    let p = err_from_is_err_and c.from_residual.result c.from_residual.ensures.1 in
    rw (p.1, p.2) c.in_err-reply.ensures.state

pub returns-in_err-reply-clause-cost : goal.returns-in_err-reply-clause-cost
returns-in_err-reply-clause-cost c =
    let p = err_from_is_err_and c.from_residual.result c.from_residual.ensures.1 in
    rw (p.1, p.2) c.in_err-reply.ensures.cost
