use Rattle.std.proofs.Common.{◌≡◌, drop}
use Rattle.aws_json.specs.Reply.{has_some}
use Rattle.aws_json.proofs.message_reply.has_some.Given as goal

abbrev pub invariant-loop-attribute : goal.invariant-loop-attribute
invariant-loop-attribute l = has_some l.offer (drop l.attribute-index l.attributes) ≡ has_some l.offer l.attributes
