use Rattle.std.proofs.Common.{◌≡◌, Ok, ap, ◌∙◌, refl}
use Rattle.serde_json.specs.View.{view}
use Rattle.serde_json.specs.Written.{has_float, compact_text}
use Rattle.aws_json.specs.Reply.{messages_data}
use Rattle.aws_json.specs.declared.reply.ReplyShape.TheVariants.{Messages}
use Rattle.aws_json.proofs.OfferedLemmas.{plain_print}
use Rattle.aws_json.proofs.ReplyLemmas.{reply_data-float}
use Rattle.aws_json.proofs.message_text.messages_text.Goals as goal

pub returns-then-is_plain : goal.returns-then-is_plain
returns-then-is_plain c =
    let plain = c.is_plain.ensures c.if-is_plain.true in
    rw (plain_print c.args.uid c.args.names.now c.args.patterns.now c.args.offers.now plain.0 plain.1 plain.2) at c.plain_text.ensures

pub returns : goal.returns
returns c =
    let value : view c.in_ok-value.value ≡ messages_data c.args.uid c.args.names.now c.args.patterns.now c.args.offers.now = cc (c.in_ok-value.ensures) in
    ap Ok (c.in_ok-text.ensures.text (ap has_float value ∙ reply_data-float 0 (Messages c.args.uid c.args.names.now c.args.patterns.now c.args.offers.now)) ∙ ap compact_text value)
