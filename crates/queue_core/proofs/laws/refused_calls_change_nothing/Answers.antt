use Rattle.queue_core.proofs.commands.RefusalLemmas.{StandsAs-refusal}
use Rattle.queue_core.proofs.BehindLemmas.{stands_left, stands_in_place}
use Rattle.queue_core.proofs.laws.refused_calls_change_nothing.Goals as goal

pub returns : goal.returns
returns c = record {
  stands = λ q at command fault meets. StandsAs-refusal q at command fault meets;
  in_place = λ q at command fault meets never. stands_in_place q at command fault meets never;
  checkpoint = λ q at command fault legal. stands_left q at command fault legal;
}
