use Rattle.alarm.proofs.StateLemmas.{in_parts, in_any_order}
use Rattle.alarm.proofs.laws.breaches_add_up.Goals as goal

pub returns : goal.returns
returns c = record { parts = in_parts; order = in_any_order }
