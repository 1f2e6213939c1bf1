use Rattle.redrive.proofs.RefusedLemmas.{legal-sound, run-refused, run-unrecorded}
use Rattle.redrive.proofs.laws.refused_steps_change_nothing.Goals as goal

pub returns : goal.returns
returns c = record {
  own = run-refused;
  no_other = λ w steps later answers rest at uid command fault counted answered other legal. run-unrecorded w steps later answers rest at uid command fault counted answered other (legal-sound w legal);
}
