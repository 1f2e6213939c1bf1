use Rattle.std.proofs.Common.{◌≡◌, drop}
use Rattle.queue_core.specs.Messages.{first_receive_time}
use Rattle.plain_queue.proofs.reading.first_receive_time.Given as goal

abbrev pub invariant-loop-place : goal.invariant-loop-place
invariant-loop-place l = first_receive_time (drop l.place l.lines) l.number ≡ first_receive_time l.lines l.number
