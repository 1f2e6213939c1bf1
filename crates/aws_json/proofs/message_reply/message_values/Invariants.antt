use Rattle.std.proofs.Common.{◌≡◌, drop}
use Rattle.aws_json.specs.Reply.{message_items}
use Rattle.aws_json.proofs.ReplyLemmas.{items_then}
use Rattle.aws_json.proofs.message_reply.message_values.Given as goal

abbrev pub invariant-loop-offer : goal.invariant-loop-offer
invariant-loop-offer l = items_then l.values.items (message_items l.uid l.names l.patterns (drop l.offer-index l.offers)) ≡ message_items l.uid l.names l.patterns l.offers
