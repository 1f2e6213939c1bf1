use Rattle.redrive.proofs.transfers.Laws.{each_has_one_place}
use Rattle.redrive.proofs.transfers.Kept.{one_place_there}
use Rattle.redrive.proofs.transfers.Twins.{history_twins}
use Rattle.redrive.proofs.transfer_laws.each_message_has_one_place.Goals as goal

pub returns-clause-whole : goal.returns-clause-whole
returns-clause-whole c = λ config at steps answers are spared. each_has_one_place config at steps answers (history_twins config at steps answers are).ending spared

pub returns-clause-kept : goal.returns-clause-kept
returns-clause-kept c = one_place_there
