use Rattle.std.proofs.Common.{◌≡◌, drop}
use Rattle.serde_json.specs.View.{items_view}
use Rattle.aws_json.specs.AttributeNames.{are_known, is_queue_name}
use Rattle.aws_json.proofs.attribute_names.are_queue_names.Given as goal

abbrev pub invariant-loop-name : goal.invariant-loop-name
invariant-loop-name l = are_known is_queue_name (items_view (drop l.name-index l.names)) ≡ are_known is_queue_name (items_view l.names)
