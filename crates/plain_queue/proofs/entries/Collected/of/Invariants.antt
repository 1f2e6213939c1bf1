use Rattle.std.proofs.Common.{◌≡◌, ◌<◌, ◌^◌, map, take}
use Rattle.queue_core.specs.Messages.{message_count}
use Rattle.plain_queue.proofs.entries.Collected.of.Given as goal

abbrev pub invariant-loop-place : goal.invariant-loop-place
invariant-loop-place l = (map (λ line. line.now) l.lines.items ≡ take l.place l.journal.lines) × ((l.begun ≡ message_count (take l.place l.journal.lines)) × (l.begun < 2 ^ 64))
