use Rattle.std.proofs.Common.{sym}
use Rattle.message.proofs.AttributeLemmas.{of_type-labelled, of_type-other}
use Rattle.message.proofs.attribute.is_of_type.Goals as goal

pub returns-then-rest-gt1 : goal.returns-then-rest-gt1
returns-then-rest-gt1 c =
    of_type-labelled c.args.word.now c.args.kind.now c.in-Some.rest.now c.in-Some.ensures.cases.0 c.in-Some.ensures.cases.1 c.if-rest-gt1.true

pub returns-in-None : goal.returns-in-None
returns-in-None c = sym (of_type-other c.args.word.now c.args.kind.now c.in-None.ensures.cases)
