use Rattle.queue_core.proofs.LegalSoundLemmas.{sound_legal}
use Rattle.queue_core.proofs.checkpoints.StandingLemmas.{gauges_same}
use Rattle.queue_core.proofs.checkpoints.StandingStepLemmas.{alarms_same}
use Rattle.queue_core.proofs.WholeLemmas.{answers_same}
use Rattle.queue_core.proofs.standing_laws.answers_follow_from_a_summary.Goals as goal

pub returns : goal.returns
returns c = record {
  answers = λ q w command legal other same full. answers_same q w (sound_legal q legal) (sound_legal w other) same full command;
  gauges = λ q w legal other same. gauges_same q w (sound_legal q legal) (sound_legal w other) same;
  alarms = λ q w rule legal other same few. alarms_same q w (sound_legal q legal) (sound_legal w other) same rule few;
}
