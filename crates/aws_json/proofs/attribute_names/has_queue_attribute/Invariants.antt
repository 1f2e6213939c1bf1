use Rattle.std.proofs.Common.{◌≡◌, drop}
use Rattle.aws_json.specs.AttributeNames.{queue_attribute_name, has_attribute}
use Rattle.aws_json.proofs.attribute_names.has_queue_attribute.Given as goal

abbrev pub invariant-loop-attribute : goal.invariant-loop-attribute
invariant-loop-attribute l = has_attribute queue_attribute_name l.name (drop l.attribute-index l.attributes) ≡ has_attribute queue_attribute_name l.name l.attributes
