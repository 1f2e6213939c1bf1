use Rattle.std.proofs.Common.{◌≡◌, drop}
use Rattle.serde_json.specs.Data.{no_members}
use Rattle.serde_json.specs.View.{members_view}
use Rattle.aws_json.specs.Reply.{put_queue_attributes}
use Rattle.aws_json.proofs.queue_reply.queue_attributes.Given as goal

abbrev pub invariant-loop-attribute : goal.invariant-loop-attribute
invariant-loop-attribute l = put_queue_attributes l.queue l.look (members_view l.members.entries) (drop l.attribute-index l.attributes) ≡ put_queue_attributes l.queue l.look no_members l.attributes
