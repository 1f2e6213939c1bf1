use Rattle.std.proofs.Common.{◌≡◌, take}
use Rattle.aws_json.specs.Attributes.{asked_attributes}
use Rattle.aws_json.proofs.message_reply.asked_attributes.Given as goal

abbrev pub invariant-loop-attribute : goal.invariant-loop-attribute
invariant-loop-attribute l = l.asked.items ≡ asked_attributes l.patterns (take l.attribute-index l.attributes)
