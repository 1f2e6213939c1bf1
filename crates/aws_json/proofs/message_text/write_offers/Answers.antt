use Rattle.std.proofs.Common.{◌≡◌, ◌++◌, ◌∙◌, arith}
use Rattle.aws_json.specs.private.Offered.{offers_tokens}
use Rattle.aws_json.proofs.OfferedLemmas.{offer_more, offers_end}
use Rattle.aws_json.proofs.message_text.write_offers.Goals as goal

pub loop-offer-preserved : goal.loop-offer-preserved
loop-offer-preserved c =
    let whole = c.args.out.now.tokens ++ offers_tokens c.args.uid c.args.offers.now in
    let more =
    offer_more c.args.uid c.args.offers.now c.loop-offer.offer-index c.offer-item.result whole c.loop-offer.out.tokens c.write_offer.new.out.tokens (omega arith) c.offer-item.is
    c.in_ok-write_offer.ensures.tokens c.loop-offer.invariant.0 in
    (more, c.write_offer.ensures.before ∙ c.loop-offer.invariant.1)

pub returns-clause-tokens : goal.returns-clause-tokens
returns-clause-tokens c =
    offers_end c.args.uid c.args.offers.now c.loop-offer.offer-index (c.args.out.now.tokens ++ offers_tokens c.args.uid c.args.offers.now) c.loop-offer.out.tokens (omega arith) c.loop-offer.invariant.0
