use Rattle.std.proofs.Common.{◌≡◌, drop}
use Rattle.serde_json.specs.View.{items_view}
use Rattle.aws_json.specs.AttributeNames.{has_name}
use Rattle.aws_json.proofs.attribute_names.has_name.Given as goal

abbrev pub invariant-loop-other : goal.invariant-loop-other
invariant-loop-other l = has_name l.name (items_view (drop l.other-index l.names)) ≡ has_name l.name (items_view l.names)
