use Rattle.queue_core.proofs.OfferLemmas.{scanned_first, receive_order-in_order, scanned_once, scanned-before}
use Rattle.queue_core.proofs.laws.offers_are_the_first_in_order.Goals as goal

pub returns : goal.returns
returns c = record {
  first = scanned_first;
  in_order = λ lines clock. receive_order-in_order lines clock;
  before_the_rest = scanned-before;
  once = scanned_once;
}
