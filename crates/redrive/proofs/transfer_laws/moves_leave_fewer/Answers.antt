use Rattle.redrive.proofs.WaitingLemmas.{waiting-fewer}
use Rattle.redrive.proofs.transfer_laws.moves_leave_fewer.Goals as goal

pub returns : goal.returns
returns c = waiting-fewer
