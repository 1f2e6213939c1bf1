use Rattle.std.proofs.Common.{◌≡◌, drop}
use Rattle.queue_core.specs.Messages.{created_time}
use Rattle.plain_queue.proofs.reading.created_time.Given as goal

abbrev pub invariant-loop-place : goal.invariant-loop-place
invariant-loop-place l = created_time (drop l.place l.lines) ≡ created_time l.lines
