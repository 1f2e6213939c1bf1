use Rattle.redrive.proofs.transfers.Laws.{each_has_its_fate}
use Rattle.redrive.proofs.transfers.Twins.{history_twins}
use Rattle.redrive.proofs.transfer_laws.each_departure_has_its_fate.Goals as goal

pub returns : goal.returns
returns c = λ config at steps answers are. each_has_its_fate config at steps answers (history_twins config at steps answers are).ending
