use Rattle.std.proofs.Common.{◌≡◌, drop}
use Rattle.statistics_api.specs.Texts.{sheet_data, items_by}
use Rattle.statistics_api.proofs.ItemLemmas.{items_then}
use Rattle.statistics_api.proofs.values.sheet_values.Given as goal

abbrev pub invariant-loop-sheet : goal.invariant-loop-sheet
invariant-loop-sheet l = items_then l.values.items (items_by (λ s. sheet_data s.now) (drop l.sheet-index l.sheets)) ≡ items_by (λ s. sheet_data s.now) l.sheets
