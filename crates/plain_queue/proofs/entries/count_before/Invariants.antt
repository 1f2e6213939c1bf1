use Rattle.std.proofs.Common.{◌≡◌, nat_lt, filter, take}
use Rattle.plain_queue.proofs.entries.count_before.Given as goal

abbrev pub invariant-loop-place : goal.invariant-loop-place
invariant-loop-place l = filter (λ e. nat_lt e.at l.end) (take l.place l.lines) ≡ take l.place l.lines
