use Rattle.sqs_replay.proofs.AllMovedLemmas.{all-moved}
use Rattle.sqs_replay.proofs.moves.all_parcels_move.Goals as goal

pub returns : goal.returns
returns c = all-moved
