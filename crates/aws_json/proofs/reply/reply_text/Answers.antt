use Rattle.std.proofs.Common.{◌≡◌, Ok, ap, ◌∙◌}
use Rattle.message.specs.Fault.{Meets}
use Rattle.serde_json.specs.Data.{Data, object}
use Rattle.serde_json.specs.View.{view, members_view}
use Rattle.serde_json.specs.declared.value.Value.{Value}
use Rattle.serde_json.proofs.Views.{view-Object}
use Rattle.serde_json.specs.Written.{has_float, compact_text}
use Rattle.aws_json.specs.Steps.{result_map}
use Rattle.aws_json.specs.Reply.{reply_data}
use Rattle.aws_json.proofs.ReplyLemmas.{reply_data-float}
use Rattle.aws_json.proofs.reply.reply_text.Goals as goal
use Rattle.aws_json.proofs.reply.reply_text.Goals.{in-QueueUrl+in_ok-value-in-QueueUrl, in-QueueUrls+in_ok-value-in-QueueUrls, in-SourceQueueUrls+in_ok-value-in-SourceQueueUrls, in-Attributes+in_ok-value-in-Attributes, in-Batch+in_ok-value-in-Batch, in-Nothing}

told : (value : Value) (found : Data) → Meets (result_map view (Ok value)) (Ok found) → view value ≡ found
told value found meets = cc meets

pub returns : goal.returns
returns c =
    let value : view c.match-shape.value ≡ reply_data c.args.port c.args.shape.now =
    elim c.match-shape.branch [
      | in-QueueUrl+in_ok-value-in-QueueUrl w ↦ rw (w.in-QueueUrl.is, w.value-is) (told w.in_ok-value-in-QueueUrl.value _ w.in_ok-value-in-QueueUrl.ensures)
      | in-QueueUrls+in_ok-value-in-QueueUrls w ↦ rw (w.in-QueueUrls.is, w.value-is) (told w.in_ok-value-in-QueueUrls.value _ (rw w.as_slice-in-QueueUrls.ensures at w.in_ok-value-in-QueueUrls.ensures))
      | in-SourceQueueUrls+in_ok-value-in-SourceQueueUrls w ↦ rw (w.in-SourceQueueUrls.is, w.value-is) (told w.in_ok-value-in-SourceQueueUrls.value _ (rw w.as_slice-in-SourceQueueUrls.ensures at w.in_ok-value-in-SourceQueueUrls.ensures))
      | in-Attributes+in_ok-value-in-Attributes w ↦ rw (w.in-Attributes.is, w.value-is) (told w.in_ok-value-in-Attributes.value _ w.in_ok-value-in-Attributes.ensures)
      | in-Batch+in_ok-value-in-Batch w ↦ rw (w.in-Batch.is, w.value-is) (told w.in_ok-value-in-Batch.value _ (rw w.as_slice-in-Batch.ensures at w.in_ok-value-in-Batch.ensures))
      | in-Nothing w ↦ rw (w.in-Nothing.is, w.value-is) (view-Object w.new.result ∙ ap (λ entries. object (members_view entries)) w.new.ensures.empty)
    ] in
    ap Ok (c.in_ok-text.ensures.text (ap has_float value ∙ reply_data-float c.args.port c.args.shape.now) ∙ ap compact_text value)

pub returns-in-Sent : goal.returns-in-Sent
returns-in-Sent c = rw c.in-Sent.is c.sent_text.ensures

pub returns-in-Messages : goal.returns-in-Messages
returns-in-Messages c = rw (c.in-Messages.is) (rw c.as_slice.ensures at c.messages_text.ensures)
