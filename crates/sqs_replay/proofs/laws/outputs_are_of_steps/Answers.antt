use Rattle.sqs_replay.specs.Cutting.{lines_of}
use Rattle.sqs_replay.proofs.CourseLemmas.{configured-output}
use Rattle.sqs_replay.proofs.laws.outputs_are_of_steps.Goals as goal

pub returns : goal.returns
returns c = λ config input are. configured-output config (lines_of input) are
