use Rattle.aws_json.proofs.batch_reply.put_sent.Goals as goal

pub returns-clause-ok : goal.returns-clause-ok
returns-clause-ok c =
    rw (
      c.in_ok-put_text-2.ensures.ok,
      c.as_str-2.ensures.value,
      c.in_ok-id.ensures.text,
      c.in_ok-put_text.ensures.ok,
      c.as_str.ensures.value,
      c.in_ok-body.ensures.digest,
      c.body.ensures.body,
      c.in_ok-put_given.ensures.ok,
      c.as_deref.ensures.value,
      c.in_ok-attributes.ensures.digest,
    )
