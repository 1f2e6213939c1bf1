use Rattle.std.proofs.Common.{◌≡◌, drop}
use Rattle.aws_json.specs.Reply.{done_items}
use Rattle.aws_json.proofs.ReplyLemmas.{items_then}
use Rattle.aws_json.proofs.batch_reply.done_values.Given as goal

abbrev pub invariant-loop-answer : goal.invariant-loop-answer
invariant-loop-answer l = items_then l.values.items (done_items (drop l.answer-index l.answers)) ≡ done_items l.answers
