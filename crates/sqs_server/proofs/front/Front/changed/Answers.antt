-- Which of the two became of the command.
use Rattle.std.proofs.Common.{rules}
use Rattle.sqs_server.proofs.front.Front.changed.Goals as goal
use Rattle.sqs_server.proofs.front.Front.changed.Goals.{in-Ok, in-Err}

pub returns : goal.returns
returns g c = elim c.match-outcome.branch [ in-Ok w ↦ search rules | in-Err w ↦ search rules ]
