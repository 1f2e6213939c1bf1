use Rattle.redrive.proofs.OrderLemmas.{listed-ascending, listed-all, listed-no_other}
use Rattle.redrive.proofs.laws.listed_names_ascend.Goals as goal

pub returns : goal.returns
returns c = record { ascending = listed-ascending; all = listed-all; no_other = listed-no_other }
