use Rattle.std.proofs.Common.{◌≡◌, ◌≤◌, length, take, map, vec_len, vec_capacity}
use Rattle.queue_core.specs.Rebase.{kept_row}
use Rattle.queue_core.proofs.state.rebase.kept_rows.Given as goal

abbrev pub invariant-loop-row : goal.invariant-loop-row
invariant-loop-row l = record {
  counted : vec_len l.kept ≡ l.row-index;
  room : length l.rows ≤ vec_capacity l.kept;
  so_far : l.kept.items ≡ map kept_row (take l.row-index l.rows);
}
