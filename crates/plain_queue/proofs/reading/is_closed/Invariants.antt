use Rattle.std.proofs.Common.{◌≡◌, drop}
use Rattle.queue_core.specs.Messages.{is_closed}
use Rattle.plain_queue.proofs.reading.is_closed.Given as goal

abbrev pub invariant-loop-place : goal.invariant-loop-place
invariant-loop-place l = is_closed (drop l.place l.lines) ≡ is_closed l.lines
