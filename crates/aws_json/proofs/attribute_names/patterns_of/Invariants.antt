use Rattle.std.proofs.Common.{◌≡◌, ◌++◌, drop}
use Rattle.serde_json.specs.View.{items_view}
use Rattle.aws_json.specs.AttributeNames.{patterns_of}
use Rattle.aws_json.proofs.attribute_names.patterns_of.Given as goal

abbrev pub invariant-loop-name : goal.invariant-loop-name
invariant-loop-name l = l.patterns ++ patterns_of (items_view (drop l.name-index l.names)) ≡ patterns_of (items_view l.names)
