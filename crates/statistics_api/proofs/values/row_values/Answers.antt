use Rattle.std.proofs.Common.{◌≡◌, get_or}
use Rattle.serde_json.specs.View.{view}
use Rattle.metric_window.specs.declared.row.Row.{Row}
use Rattle.metric_window.specs.Flows.{no_flows}
use Rattle.statistics_api.specs.Texts.{row_data}
use Rattle.statistics_api.proofs.ItemLemmas.{items_by-at, items_by-all}
use Rattle.statistics_api.proofs.values.row_values.Goals as goal

no_row : Row
no_row = record { minute = 0; flows = no_flows; gauges = record { visible = 0; delayed = 0; in_flight = 0; age = 0 } }

pub loop-row-preserved : goal.loop-row-preserved
unfolding no_row
loop-row-preserved c =
    let value : view c.in_ok-row_value.field-0 ≡ row_data (get_or c.args.rows.now c.loop-row.row-index no_row) = cc (c.in_ok-row_value.ensures) in
    rw c.in_ok-push.ensures.items
    (items_by-at row_data c.args.rows.now c.loop-row.values.items c.in_ok-row_value.field-0 c.loop-row.row-index no_row c.loop-row-test.true value c.loop-row.invariant)

pub returns-clause-ok : goal.returns-clause-ok
returns-clause-ok c = items_by-all row_data c.args.rows.now c.loop-row.values.items c.loop-row.row-index c.loop-row-test.false c.loop-row.invariant
