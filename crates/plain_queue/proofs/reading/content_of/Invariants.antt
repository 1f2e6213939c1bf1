use Rattle.std.proofs.Common.{◌≡◌, drop, None}
use Rattle.std.specs.Prelude.{slice_get, unwrap_or}
use Rattle.queue_core.specs.Messages.{contents, content_of}
use Rattle.plain_queue.proofs.reading.content_of.Given as goal

abbrev pub invariant-loop-place : goal.invariant-loop-place
invariant-loop-place l = unwrap_or (slice_get (contents (drop l.place l.lines)) l.before) None ≡ content_of l.lines l.message
