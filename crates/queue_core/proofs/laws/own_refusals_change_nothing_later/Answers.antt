use Rattle.queue_core.specs.declared.reply.Reply.{Reply}
use Rattle.queue_core.proofs.BehindLemmas.{others_in_place}
use Rattle.queue_core.proofs.LegalSoundLemmas.{sound_legal}
use Rattle.queue_core.proofs.OwnRefusalLemmas.{own-entry, no-entry, lasts}
use Rattle.queue_core.proofs.laws.own_refusals_change_nothing_later.Goals as goal

pub returns : goal.returns
returns c = record {
  entry = λ q at command fault refused own. own-entry Reply q at command fault refused own;
  no_other = λ q at command fault refused other. no-entry Reply q at command fault refused other;
  in_place = λ q at command fault legal refused other. others_in_place q at command fault (sound_legal q legal) refused other;
  lasts = lasts;
}
