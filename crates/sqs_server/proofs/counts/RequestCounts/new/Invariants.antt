use Rattle.std.proofs.Common.{◌≡◌, length}
use Rattle.sqs_server.proofs.counts.RequestCounts.new.Given as goal

abbrev pub invariant-loop-place : goal.invariant-loop-place
invariant-loop-place l = length l.numbers.items ≡ l._place
