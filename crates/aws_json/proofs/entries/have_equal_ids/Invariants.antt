use Rattle.std.proofs.Common.{◌≡◌, drop}
use Rattle.aws_json.specs.Entries.{have_equal_ids}
use Rattle.aws_json.proofs.entries.have_equal_ids.Given as goal

abbrev pub invariant-loop-place : goal.invariant-loop-place
invariant-loop-place l = have_equal_ids (drop l.place l.entries) ≡ have_equal_ids l.entries
