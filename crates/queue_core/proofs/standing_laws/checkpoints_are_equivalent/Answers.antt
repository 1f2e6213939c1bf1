use Rattle.queue_core.proofs.LegalSoundLemmas.{sound_legal}
use Rattle.queue_core.proofs.WholeLemmas.{all_alike}
use Rattle.queue_core.proofs.standing_laws.checkpoints_are_equivalent.Goals as goal

pub returns : goal.returns
returns c = record {
  answers = λ q w steps answers legal other same answered. (all_alike q w steps answers (record { sound = sound_legal q legal; other = sound_legal w other; stands = same }) answered).0;
  stands = λ q w steps answers legal other same answered. (all_alike q w steps answers (record { sound = sound_legal q legal; other = sound_legal w other; stands = same }) answered).1.stands;
}
