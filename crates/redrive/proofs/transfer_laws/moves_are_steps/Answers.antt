use Rattle.redrive.proofs.transfers.Calls.{arrival-steps, move-steps}
use Rattle.redrive.proofs.transfer_laws.moves_are_steps.Goals as goal

pub returns : goal.returns
returns c = record {
  handed_over = λ old new source at answer meets h. arrival-steps old new source at answer meets h;
  moved = λ old new source at answer m. move-steps old new source at answer m;
}
