use Rattle.std.proofs.Common.{◌≡◌, ◌++◌, drop}
use Rattle.aws_json.specs.private.Offered.{offers_tokens}
use Rattle.aws_json.proofs.message_text.write_offers.Given as goal

abbrev pub invariant-loop-offer : goal.invariant-loop-offer
invariant-loop-offer l = (l.out.tokens ++ offers_tokens l.uid (drop l.offer-index l.offers) ≡ l.initial.out.tokens ++ offers_tokens l.uid l.offers) × (l.out.before ≡ l.initial.out.before)
