use Rattle.queue_core.proofs.OfferLemmas.{numbers-offered}
use Rattle.queue_core.proofs.laws.replies_offer_what_lines_record.Goals as goal

pub returns : goal.returns
returns c = record { numbers = numbers-offered }
