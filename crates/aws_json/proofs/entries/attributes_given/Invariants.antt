use Rattle.std.proofs.Common.{◌≡◌, ◌++◌}
use Rattle.serde_json.specs.View.{members_view}
use Rattle.aws_json.specs.Attributes.{attributes_given}
use Rattle.aws_json.proofs.entries.attributes_given.Given as goal

abbrev pub invariant-loop-name : goal.invariant-loop-name
invariant-loop-name l = l.attributes.items ++ attributes_given (members_view l.name-iterator) ≡ attributes_given (members_view l.members.entries)
