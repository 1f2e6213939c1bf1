use Rattle.queue_core.proofs.OfferLemmas.{visible_in_order, order_visible}
use Rattle.queue_core.proofs.laws.each_visible_message_has_its_turn.Goals as goal

pub returns : goal.returns
returns c = record {
  all = λ lines clock m. visible_in_order lines clock m;
  no_other = λ lines clock. order_visible lines clock;
}
