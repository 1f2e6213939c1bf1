use Rattle.std.proofs.Common.{◌≡◌, drop}
use Rattle.aws_json.specs.Entries.{has_id}
use Rattle.aws_json.proofs.entries.has_id.Given as goal

abbrev pub invariant-loop-entry : goal.invariant-loop-entry
invariant-loop-entry l = has_id l.id (drop l.entry-index l.entries) ≡ has_id l.id l.entries
