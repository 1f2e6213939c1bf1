use Rattle.std.proofs.Common.{◌≡◌, ◌+◌, drop, sum_by}
use Rattle.aws_json.specs.Entries.{entry_size}
use Rattle.aws_json.proofs.entries.is_too_long.Given as goal

abbrev pub invariant-loop-entry : goal.invariant-loop-entry
invariant-loop-entry l = 1048576 + sum_by entry_size (drop l.entry-index l.entries) ≡ l.left + sum_by entry_size l.entries
