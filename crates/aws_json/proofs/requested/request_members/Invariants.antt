use Rattle.std.proofs.Common.{◌≡◌}
use Rattle.serde_json.specs.View.{members_view}
use Rattle.queue_config.specs.Settings.{no_requested_attributes}
use Rattle.aws_json.specs.Request.{request_members}
use Rattle.aws_json.proofs.requested.request_members.Given as goal

abbrev pub invariant-loop-name : goal.invariant-loop-name
invariant-loop-name l = request_members l.wish (members_view l.name-iterator) ≡ request_members no_requested_attributes (members_view l.attributes.entries)
