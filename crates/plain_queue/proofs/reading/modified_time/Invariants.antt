use Rattle.std.proofs.Common.{◌≡◌, drop}
use Rattle.queue_core.specs.Messages.{modified_from, modified_time}
use Rattle.plain_queue.proofs.reading.modified_time.Given as goal

abbrev pub invariant-loop-place : goal.invariant-loop-place
invariant-loop-place l = modified_from l.time (drop l.place l.lines) ≡ modified_time l.lines
