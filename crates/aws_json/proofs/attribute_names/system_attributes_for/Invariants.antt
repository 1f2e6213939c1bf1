use Rattle.std.proofs.Common.{◌≡◌, take}
use Rattle.serde_json.specs.View.{items_view}
use Rattle.aws_json.specs.AttributeNames.{system_attribute_name, either_asks_for, attributes_for}
use Rattle.aws_json.proofs.attribute_names.system_attributes_for.Given as goal

abbrev pub invariant-loop-attribute : goal.invariant-loop-attribute
invariant-loop-attribute l = l.asked ≡ attributes_for system_attribute_name (either_asks_for (items_view l.names) (items_view l.more)) (take l.attribute-index l.attributes)
