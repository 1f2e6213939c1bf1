use Rattle.sqs_replay.proofs.AllMovedLemmas.{line-moved}
use Rattle.sqs_replay.proofs.laws.lines_move_all_parcels.Goals as goal

pub returns : goal.returns
returns c = line-moved
