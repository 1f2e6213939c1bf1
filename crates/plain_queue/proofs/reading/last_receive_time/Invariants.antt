use Rattle.std.proofs.Common.{◌≡◌, drop}
use Rattle.queue_core.specs.Messages.{last_receive_from, last_receive_time}
use Rattle.plain_queue.proofs.reading.last_receive_time.Given as goal

abbrev pub invariant-loop-place : goal.invariant-loop-place
invariant-loop-place l = last_receive_from l.number l.time (drop l.place l.lines) ≡ last_receive_time l.lines l.number
