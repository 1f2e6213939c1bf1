use Rattle.std.proofs.Common.{◌≡◌}
use Rattle.serde_json.specs.View.{members_view}
use Rattle.aws_json.specs.Members.{have_attributes}
use Rattle.aws_json.proofs.members.have_attributes.Given as goal

abbrev pub invariant-loop-name : goal.invariant-loop-name
invariant-loop-name l = have_attributes (members_view l._name-iterator) ≡ have_attributes (members_view l.members.entries)
