use Rattle.queue_core.proofs.LastingLemmas.{removed_stays, gone_stays, expired_stays}
use Rattle.queue_core.proofs.laws.what_is_gone_stays_gone.Goals as goal

pub returns : goal.returns
returns c = record {
  removed = removed_stays;
  gone = gone_stays;
  expired = λ q steps answers m never h. expired_stays q steps answers m never h;
}
