use Rattle.alarm.proofs.StateLemmas.{insufficient, alarm, okay}
use Rattle.alarm.proofs.laws.states_tell_minutes_and_breaches.Goals as goal

pub returns : goal.returns
returns c = record { insufficient = insufficient; alarm = alarm; okay = okay }
