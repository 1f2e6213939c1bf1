use Rattle.std.proofs.Common.{◌≤◌, length, string_bytes}
use Rattle.std.specs.Char.{is_control}
use Rattle.std.specs.Str.{NoCharPasses}
use Rattle.aws_json.proofs.explanation.cut.Given as goal

abbrev pub invariant-loop-character : goal.invariant-loop-character
invariant-loop-character l = record { short : length (string_bytes l.text) ≤ 400; plain : NoCharPasses is_control (string_bytes l.text) }
