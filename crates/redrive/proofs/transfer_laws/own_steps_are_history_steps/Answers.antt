use Rattle.redrive.proofs.transfers.Laws.{own-answered, own-left}
use Rattle.redrive.proofs.transfer_laws.own_steps_are_history_steps.Goals as goal

pub returns-clause-answered : goal.returns-clause-answered
returns-clause-answered c = own-answered

pub returns-clause-left : goal.returns-clause-left
returns-clause-left c = own-left
