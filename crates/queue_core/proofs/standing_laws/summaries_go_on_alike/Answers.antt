use Rattle.queue_core.proofs.CauseLemmas.{about-caused}
use Rattle.queue_core.proofs.LegalSoundLemmas.{sound_legal}
use Rattle.queue_core.proofs.checkpoints.StandingStepLemmas.{stands_later, stands_behind}
use Rattle.queue_core.proofs.standing_laws.summaries_go_on_alike.Goals as goal

pub returns : goal.returns
returns c = record {
  time = λ q w at legal other same. stands_later q w (sound_legal q legal) (sound_legal w other) same at;
  event = λ q w event legal other same caused also. stands_behind q w (sound_legal q legal) (sound_legal w other) same event (about-caused q event caused) (about-caused w event also);
}
