use Rattle.std.proofs.Common.{◌≡◌, ◌+◌, Ok, drop, sym, ap, ◌∙◌, arith}
use Rattle.serde_json.specs.Data.{Data, Items, item}
use Rattle.serde_json.specs.View.{view}
use Rattle.aws_json.specs.Reply.{message_data, message_items}
use Rattle.aws_json.proofs.ReplyLemmas.{items_then, items_then-push, message_items-drop, message_items-all}
use Rattle.aws_json.proofs.message_reply.message_values.Goals as goal

pub loop-offer-preserved : goal.loop-offer-preserved
loop-offer-preserved c =
    let left = message_items c.args.uid c.args.names.now c.args.patterns.now in
    let value : view c.in_ok-value.value ≡ message_data c.args.uid c.args.names.now c.args.patterns.now c.offer-item.result = cc (c.in_ok-value.ensures) in
    rw c.in_ok-push.ensures.items
    (items_then-push c.loop-offer.values.items c.in_ok-value.value (left (drop (c.loop-offer.offer-index + 1) c.args.offers.now))
    ∙ ap (λ (d : Data). items_then c.loop-offer.values.items (item d (left (drop (c.loop-offer.offer-index + 1) c.args.offers.now)))) value
    ∙ ap (λ (rest : Items). items_then c.loop-offer.values.items rest) (sym (message_items-drop c.args.uid c.args.names.now c.args.patterns.now c.args.offers.now c.loop-offer.offer-index c.offer-item.result (omega arith) c.offer-item.is))
    ∙ c.loop-offer.invariant)

pub returns : goal.returns
returns c =
    ap Ok (message_items-all c.args.uid c.args.names.now c.args.patterns.now c.args.offers.now c.loop-offer.values.items c.loop-offer.offer-index (omega arith) c.loop-offer.invariant)
