use Rattle.alarm.proofs.StateLemmas.{all_breaches}
use Rattle.alarm.proofs.laws.all_minutes_are_breaches.Goals as goal

pub returns : goal.returns
returns c = all_breaches
