use Rattle.std.proofs.Common.{◌≡◌, drop}
use Rattle.std.specs.List.{list_any}
use Rattle.queue_core.specs.Messages.{ends_transfer}
use Rattle.plain_queue.proofs.transfers.is_ended_from.Given as goal

abbrev pub invariant-loop-place : goal.invariant-loop-place
invariant-loop-place l =
    list_any (λ later. ends_transfer l.transfer later.event) (drop l.place l.lines) ≡ list_any (λ later. ends_transfer l.transfer later.event) (drop l.from l.lines)
