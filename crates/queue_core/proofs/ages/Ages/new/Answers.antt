use Rattle.queue_core.proofs.indexed.AgeLemmas.{ages_none}
use Rattle.queue_core.proofs.ages.Ages.new.Goals as goal

pub returns : goal.returns
returns c = ages_none _ c.new.ensures
