use Rattle.plain_queue.specs.private.Numbering.{IsAt}
use Rattle.plain_queue.proofs.numbering.first_message.Given as goal

abbrev pub invariant-loop-place : goal.invariant-loop-place
invariant-loop-place l = IsAt l.lines l.place l.number l.before
