use Rattle.std.proofs.Common.{◌≡◌, drop}
use Rattle.queue_core.specs.Messages.{settings_from, settings_of}
use Rattle.plain_queue.proofs.reading.settings_of.Given as goal

abbrev pub invariant-loop-place : goal.invariant-loop-place
invariant-loop-place l = settings_from l.settings (drop l.place l.lines) ≡ settings_of l.lines
