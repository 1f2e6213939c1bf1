use Rattle.std.proofs.Common.{◌≡◌, ◌+◌, drop, sym, ap, ◌∙◌, arith}
use Rattle.std.specs.Prelude.{string_bytes}
use Rattle.serde_json.specs.Data.{Data, Items, string, item}
use Rattle.serde_json.specs.View.{view}
use Rattle.aws_json.specs.Reply.{queue_url, url_items}
use Rattle.aws_json.proofs.ReplyLemmas.{items_then, items_then-push, url_items-drop, url_items-all}
use Rattle.aws_json.proofs.reply.url_values.Goals as goal

pub loop-name-preserved : goal.loop-name-preserved
loop-name-preserved c =
    let rest = url_items c.args.port (drop (c.loop-name.name-index + 1) c.args.names.now) in
    let value : view c.from.result ≡ string (queue_url c.args.port c.name-item.result) =
    c.from.ensures ∙ ap string (let e : string_bytes c.in_ok-queue_url.field-0 ≡ queue_url c.args.port c.name-item.result = cc (c.in_ok-queue_url.ensures) in e) in
    rw c.in_ok-push.ensures.items
    (items_then-push c.loop-name.urls.items c.from.result rest
    ∙ ap (λ (d : Data). items_then c.loop-name.urls.items (item d rest)) value
    ∙ ap (λ (rest : Items). items_then c.loop-name.urls.items rest) (sym (url_items-drop c.args.port c.args.names.now c.loop-name.name-index c.name-item.result (omega arith) c.name-item.is))
    ∙ c.loop-name.invariant)

pub returns-clause-ok : goal.returns-clause-ok
returns-clause-ok c = url_items-all c.args.port c.args.names.now c.loop-name.urls.items c.loop-name.name-index c.loop-name-test.false c.loop-name.invariant
