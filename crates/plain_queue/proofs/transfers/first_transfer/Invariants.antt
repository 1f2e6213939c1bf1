use Rattle.std.proofs.Common.{◌≡◌, drop}
use Rattle.std.specs.Prelude.{slice_get}
use Rattle.queue_core.specs.Messages.{pending_transfers}
use Rattle.plain_queue.proofs.transfers.first_transfer.Given as goal

abbrev pub invariant-loop-place : goal.invariant-loop-place
invariant-loop-place l = slice_get (pending_transfers (drop l.place l.lines)) 0 ≡ slice_get (pending_transfers l.lines) 0
