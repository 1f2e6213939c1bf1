use Rattle.serde_json.proofs.Views.{view-Object}
use Rattle.aws_json.proofs.batch_reply.done_value.Goals as goal
use Rattle.aws_json.proofs.batch_reply.done_value.Goals.{in-Sent+in_ok-put_sent-in-Sent, in-Done}

pub returns : goal.returns
returns c =
    elim c.match-reply.branch [
      | in-Sent+in_ok-put_sent-in-Sent w ↦
          rw (w.members-is, view-Object, w.in_ok-put_sent-in-Sent.ensures.ok, c.in_ok-put_text.ensures.ok, c.as_text.ensures.text, c.new-members.ensures.empty, w.in-Sent.is)
      | in-Done w ↦
          rw (w.members-is, view-Object, c.in_ok-put_text.ensures.ok, c.as_text.ensures.text, c.new-members.ensures.empty, w.in-Done.is)
    ]
