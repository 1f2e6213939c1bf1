use Rattle.queue_core.proofs.LastingLemmas.{content_sent, content_stays, content_stays_in_place}
use Rattle.queue_core.proofs.laws.numbers_name_contents.Goals as goal

pub returns : goal.returns
returns c = record {
  sent = content_sent;
  lasting = content_stays;
  lasting_in_place = λ q steps answers number content never h. content_stays_in_place q steps answers number content never h;
}
