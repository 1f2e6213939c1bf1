use Rattle.redrive.proofs.transfers.Answering.{answered}
use Rattle.redrive.proofs.transfer_examples.steps_are_answered.Goals as goal

pub returns : goal.returns
returns c = answered
