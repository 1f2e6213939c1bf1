use Rattle.alarm.proofs.StateLemmas.{lt_not_le}
use Rattle.alarm.proofs.laws.operators_are_opposites.Goals as goal

pub returns : goal.returns
returns c = record { greater = λ value threshold. lt_not_le value threshold; less = λ value threshold. lt_not_le threshold value }
