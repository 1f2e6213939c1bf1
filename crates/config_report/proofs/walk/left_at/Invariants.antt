use Rattle.std.proofs.Common.{length}
use denote.Text.{Utf8}
use denote.Shadow.{shadow}
use Rattle.config_report.proofs.walk.left_at.Given as goal

abbrev pub invariant-tokens : goal.invariant-tokens
invariant-tokens l = shadow (Utf8 l.rest)

abbrev pub decreases-tokens : goal.decreases-tokens
decreases-tokens l = length l.rest
