use Rattle.redrive.proofs.transfers.Laws.{accepted_once}
use Rattle.redrive.proofs.transfers.Kept.{accepted_once_there}
use Rattle.redrive.proofs.transfers.Twins.{history_twins}
use Rattle.redrive.proofs.transfer_laws.transfers_are_accepted_once.Goals as goal

pub returns-clause-whole : goal.returns-clause-whole
returns-clause-whole c = λ config at steps answers are. accepted_once config at steps answers (history_twins config at steps answers are).ending

pub returns-clause-kept : goal.returns-clause-kept
returns-clause-kept c = accepted_once_there
