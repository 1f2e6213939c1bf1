use Rattle.redrive.proofs.transfers.Twins.{stand_for_whole}
use Rattle.redrive.proofs.transfer_laws.queues_stand_for_their_whole_journals.Goals as goal

pub returns : goal.returns
returns c = stand_for_whole
