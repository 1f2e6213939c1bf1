use Rattle.std.proofs.Common.{◌≡◌, ◌+◌, Ok, drop, sym, ap, ◌∙◌, arith}
use Rattle.serde_json.specs.Data.{Data, Items, item}
use Rattle.serde_json.specs.View.{view}
use Rattle.aws_json.specs.Reply.{done_data, done_item, done_items}
use Rattle.aws_json.proofs.ReplyLemmas.{items_then, items_then-push, done_items-drop, done_items-all}
use Rattle.aws_json.proofs.batch_reply.done_values.Goals as goal
use Rattle.aws_json.proofs.batch_reply.done_values.Goals.{in-Ok+in_ok-done_value+in_ok-push, in_default}

pub loop-answer-preserved : goal.loop-answer-preserved
loop-answer-preserved c =
    let values = c.loop-answer.values.items in
    let rest = done_items (drop (c.loop-answer.answer-index + 1) c.args.answers.now) in
    let next = done_items-drop c.args.answers.now c.loop-answer.answer-index c.answer-item.result (omega arith) c.answer-item.is in
    elim c.match-answer.branch [
      | in-Ok+in_ok-done_value+in_ok-push w ↦
          let value : view w.in_ok-done_value.field-0 ≡ done_data c.answer-item.result.id w.in-Ok.reply = cc (w.in_ok-done_value.ensures) in
          rw (w.values-is, w.in_ok-push.ensures.items)
          (items_then-push values w.in_ok-done_value.field-0 rest
          ∙ ap (λ (d : Data). items_then values (item d rest)) value
          ∙ ap (λ (is : Items). items_then values is) (sym (next ∙ ap (λ answer. done_item c.answer-item.result.id answer rest) w.in-Ok.is))
          ∙ c.loop-answer.invariant)
      | in_default w ↦ rw w.values-is (ap (λ (is : Items). items_then values is) (sym (next ∙ ap (λ answer. done_item c.answer-item.result.id answer rest) w.in_default.is)) ∙ c.loop-answer.invariant)
    ]

pub returns : goal.returns
returns c = ap Ok (done_items-all c.args.answers.now c.loop-answer.values.items c.loop-answer.answer-index (omega arith) c.loop-answer.invariant)
