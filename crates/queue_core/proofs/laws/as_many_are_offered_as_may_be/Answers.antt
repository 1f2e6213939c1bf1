use Rattle.queue_core.proofs.OfferLemmas.{length-receive_order, offered_at_most, leaving_at_most, all_come_to, length-offered}
use Rattle.queue_core.proofs.laws.as_many_are_offered_as_may_be.Goals as goal

pub returns : goal.returns
returns c = record {
  order = λ lines clock. length-receive_order lines clock;
  at_most = offered_at_most;
  leaving = leaving_at_most;
  all = all_come_to;
  without_policy = length-offered;
}
