use Rattle.alarm.proofs.StateLemmas.{more_breaches, more_minutes}
use Rattle.alarm.proofs.laws.more_breaches_keep_an_alarm.Goals as goal

pub returns : goal.returns
returns c = record { breaches = more_breaches; minutes = more_minutes }
