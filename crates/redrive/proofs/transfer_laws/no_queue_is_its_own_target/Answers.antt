use Rattle.redrive.proofs.transfers.Targets.{none_its_own}
use Rattle.redrive.proofs.transfer_laws.no_queue_is_its_own_target.Goals as goal

pub returns : goal.returns
returns c = none_its_own
