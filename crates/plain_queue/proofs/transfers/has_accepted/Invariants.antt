use Rattle.std.proofs.Common.{◌≡◌, drop}
use Rattle.queue_core.specs.Messages.{has_accepted}
use Rattle.plain_queue.proofs.transfers.has_accepted.Given as goal

abbrev pub invariant-loop-place : goal.invariant-loop-place
invariant-loop-place l = has_accepted (drop l.place l.lines) l.uid l.number ≡ has_accepted l.lines l.uid l.number
