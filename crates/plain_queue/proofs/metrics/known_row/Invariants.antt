use Rattle.std.proofs.Common.{◌≡◌, drop}
use Rattle.metric_window.specs.KeptRows.{row_in}
use Rattle.queue_core.specs.Messages.{rows_known}
use Rattle.plain_queue.proofs.metrics.known_row.Given as goal

abbrev pub invariant-loop-place : goal.invariant-loop-place
invariant-loop-place l = row_in (rows_known (drop l.place l.lines)) l.minute ≡ row_in (rows_known l.lines) l.minute
