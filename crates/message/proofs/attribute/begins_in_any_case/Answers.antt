use Rattle.message.proofs.AttributeLemmas.{begins-from_test}
use Rattle.message.proofs.attribute.begins_in_any_case.Goals as goal

pub returns : goal.returns
returns c = begins-from_test c.eq_ignore_ascii_case.result c.args.prefix.now c.args.text.now (rw (← c.min.ensures) c.eq_ignore_ascii_case.ensures.test)
