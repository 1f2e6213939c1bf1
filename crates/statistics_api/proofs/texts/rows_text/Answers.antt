use Rattle.std.proofs.Common.{◌≡◌, Ok, codes, ap, ◌∙◌}
use Rattle.serde_json.specs.Data.{Items, array, object, member, no_members}
use Rattle.serde_json.specs.View.{view, items_view}
use Rattle.serde_json.specs.Written.{has_float, compact_text}
use Rattle.statistics_api.specs.Texts.{row_data, items_by, list_data}
use Rattle.statistics_api.proofs.TextLemmas.{list-float, row-float}
use Rattle.statistics_api.proofs.texts.rows_text.Goals as goal

pub returns : goal.returns
returns c =
    let items : items_view c.in_ok-rows.rows.items ≡ items_by row_data c.args.rows.now = c.in_ok-rows.ensures.ok in
    let of : view c.in_ok-value.value ≡ object (member (codes "rows") (array (items_view c.in_ok-rows.rows.items)) no_members) = cc (c.in_ok-value.ensures) in
    let value : view c.in_ok-value.value ≡ list_data (codes "rows") row_data c.args.rows.now = of ∙ ap (λ (is : Items). object (member (codes "rows") (array is) no_members)) items in
    ap Ok (c.in_ok-text.ensures.text (ap has_float value ∙ list-float (codes "rows") row_data row-float c.args.rows.now) ∙ ap compact_text value)
