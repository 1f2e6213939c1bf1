use Rattle.redrive.proofs.HistoryLemmas.{IsWholeHistory-first}
use Rattle.redrive.proofs.laws.histories_begin.Goals as goal

pub returns : goal.returns
returns c = IsWholeHistory-first
