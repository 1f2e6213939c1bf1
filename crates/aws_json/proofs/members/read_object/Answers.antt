use Rattle.std.proofs.Common.{sym, ◌∙◌}
use Rattle.aws_json.proofs.MemberLemmas.{object_of-read, object_of-none}
use Rattle.aws_json.proofs.members.read_object.Goals as goal

pub returns-in-Ok : goal.returns-in-Ok
returns-in-Ok c = sym (object_of-read c.args.body.now _ c.in-Ok.ensures.ok.0 c.in-Ok.ensures.ok.1 (sym c.is_object.ensures ∙ c.if-is_object.true))

pub returns-in_default : goal.returns-in_default
returns-in_default c = sym (object_of-none c.args.body.now (c.in-Err.ensures.err (λ m. c.in_default.not-Memory (c.classify.ensures.memory.1 m))))
