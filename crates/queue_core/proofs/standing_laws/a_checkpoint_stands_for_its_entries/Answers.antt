use Rattle.queue_core.proofs.LegalSoundLemmas.{stands_rebased, weight_rebased}
use Rattle.queue_core.proofs.standing_laws.a_checkpoint_stands_for_its_entries.Goals as goal

pub returns : goal.returns
returns c = record {
  stands = λ q legal unclosed. stands_rebased q legal unclosed;
  weight = λ q legal unclosed. weight_rebased q legal unclosed;
}
