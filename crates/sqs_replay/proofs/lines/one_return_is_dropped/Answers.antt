use Rattle.sqs_replay.proofs.Cuts.{line_of-return, line_of-cases}
use Rattle.sqs_replay.proofs.lines.one_return_is_dropped.Goals as goal

pub returns-clause-dropped : goal.returns-clause-dropped
returns-clause-dropped c = line_of-return

pub returns-clause-others_stay : goal.returns-clause-others_stay
returns-clause-others_stay c = line_of-cases
