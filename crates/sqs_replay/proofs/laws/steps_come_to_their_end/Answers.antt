use Rattle.std.proofs.Common.{arith}
use Rattle.sqs_replay.specs.Served.{most_commands}
use Rattle.sqs_replay.proofs.StepLemmas.{enough-played}
use Rattle.sqs_replay.proofs.laws.steps_come_to_their_end.Goals as goal

pub returns : goal.returns
returns c = λ most w uid at step enough. enough-played most w uid at step (most_commands step) (omega arith) enough
