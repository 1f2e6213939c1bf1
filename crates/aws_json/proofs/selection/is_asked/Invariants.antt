use Rattle.std.proofs.Common.{◌≡◌, drop}
use Rattle.aws_json.specs.Attributes.{is_asked}
use Rattle.aws_json.proofs.selection.is_asked.Given as goal

abbrev pub invariant-loop-text : goal.invariant-loop-text
invariant-loop-text l = is_asked (drop l.text-index l.texts) l.name ≡ is_asked l.texts l.name
