use Rattle.std.proofs.Common.{◌≡◌, drop, map}
use Rattle.metric_window.specs.Flows.{row_kept}
use Rattle.metric_window.specs.KeptRows.{row_in}
use Rattle.plain_queue.proofs.metrics.row_among.Given as goal

abbrev pub invariant-loop-row : goal.invariant-loop-row
invariant-loop-row l = row_in (map row_kept (drop l.row-index l.rows)) l.minute ≡ row_in (map row_kept l.rows) l.minute
