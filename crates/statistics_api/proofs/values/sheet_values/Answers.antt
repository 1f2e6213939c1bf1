use Rattle.std.proofs.Common.{◌≡◌, arith}
use Rattle.serde_json.specs.View.{view}
use Rattle.statistics_api.specs.Texts.{sheet_data}
use Rattle.statistics_api.proofs.ItemLemmas.{items_by-next, items_by-all}
use Rattle.statistics_api.proofs.values.sheet_values.Goals as goal

pub loop-sheet-preserved : goal.loop-sheet-preserved
loop-sheet-preserved c =
    let value : view c.in_ok-sheet_value.field-0 ≡ sheet_data c.sheet-item.result.now = cc (c.in_ok-sheet_value.ensures) in
    rw c.in_ok-push.ensures.items
    (items_by-next (λ s. sheet_data s.now) c.args.sheets.now c.loop-sheet.values.items c.in_ok-sheet_value.field-0 c.loop-sheet.sheet-index c.sheet-item.result (omega arith) c.sheet-item.is value c.loop-sheet.invariant)

pub returns-clause-ok : goal.returns-clause-ok
returns-clause-ok c = items_by-all (λ s. sheet_data s.now) c.args.sheets.now c.loop-sheet.values.items c.loop-sheet.sheet-index c.loop-sheet-test.false c.loop-sheet.invariant
