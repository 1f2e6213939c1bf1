use Rattle.std.proofs.Common.{◌≡◌, drop}
use Rattle.queue_core.specs.Messages.{course_from, course_of}
use Rattle.plain_queue.proofs.states.course_of.Given as goal

abbrev pub invariant-loop-place : goal.invariant-loop-place
invariant-loop-place l = course_from l.message.number l.course (drop l.place l.lines) ≡ course_of l.lines l.message
