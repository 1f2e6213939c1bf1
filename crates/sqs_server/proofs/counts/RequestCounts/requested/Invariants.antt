use Rattle.std.proofs.Common.{◌≡◌, ℕ, List, length, map}
use Rattle.sqs_server.specs.Counts.{told, told_from}
use Rattle.sqs_server.proofs.counts.RequestCounts.requested.Given as goal

abbrev pub invariant-loop-place : goal.invariant-loop-place
invariant-loop-place l = (counts : List ℕ) × (length counts ≡ l.place) × (map told l.requests.items ≡ told_from 0 counts)
