use Rattle.std.proofs.Common.{◌≡◌, drop}
use Rattle.statistics_api.specs.Texts.{row_data, items_by}
use Rattle.statistics_api.proofs.ItemLemmas.{items_then}
use Rattle.statistics_api.proofs.values.row_values.Given as goal

abbrev pub invariant-loop-row : goal.invariant-loop-row
invariant-loop-row l = items_then l.values.items (items_by row_data (drop l.row-index l.rows)) ≡ items_by row_data l.rows
