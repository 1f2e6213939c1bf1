use Rattle.std.proofs.Common.{◌≡◌}
use Rattle.aws_json.specs.Attributes.{asked_attributes}
use Rattle.aws_json.proofs.message_reply.put_offer.Goals as goal

pub returns-clause-ok : goal.returns-clause-ok
returns-clause-ok c =
    let asked : c.in_ok-asked.asked.items ≡ asked_attributes c.args.patterns.now c.attributes.result.now = cc (c.in_ok-asked.ensures) in
    rw (
      c.in_ok-put_text-4.ensures.ok,
      c.as_str-3.ensures.value,
      c.in_ok-handle.ensures.text,
      c.handle_of_offer.ensures,
      c.in_ok-put_text-3.ensures.ok,
      c.as_str-2.ensures.value,
      c.in_ok-id.ensures.text,
      c.in_ok-put_attributes.ensures.ok,
      c.as_slice-2.ensures.value,
      c.in_ok-put_given.ensures.ok,
      c.as_deref.ensures.value,
      c.in_ok-asked_digest.ensures.digest,
      c.as_slice.ensures.value,
      asked,
      c.attributes.ensures.attributes,
      c.in_ok-put_text-2.ensures.ok,
      c.as_str.ensures.value,
      c.in_ok-digest.ensures.digest,
      c.in_ok-put_text.ensures.ok,
      c.body-body.ensures.body,
    )
