use Rattle.std.proofs.Common.{◌≡◌, Ok, map, codes, ap, ◌∙◌}
use Rattle.serde_json.specs.Data.{Items, array, object, member, no_members}
use Rattle.serde_json.specs.View.{view, items_view}
use Rattle.serde_json.specs.Written.{has_float, compact_text}
use Rattle.statistics_api.specs.Texts.{sheet_data, items_by, list_data, by_name}
use Rattle.statistics_api.proofs.TextLemmas.{list-float, sheet-float, items_by-map}
use Rattle.statistics_api.proofs.texts.sheets_text.Goals as goal

pub returns : goal.returns
returns c =
    let order : map (λ s. s.now) c.in_ok-order.order.items ≡ by_name c.args.sheets.now = c.in_ok-order.ensures.ok in
    let items : items_view c.in_ok-queues.queues.items ≡ items_by sheet_data (by_name c.args.sheets.now) =
    c.in_ok-queues.ensures.ok ∙ ap (items_by (λ s. sheet_data s.now)) c.as_slice.ensures.value ∙ items_by-map sheet_data (λ s. s.now) c.in_ok-order.order.items ∙ ap (items_by sheet_data) order in
    let of : view c.in_ok-value.value ≡ object (member (codes "queues") (array (items_view c.in_ok-queues.queues.items)) no_members) = cc (c.in_ok-value.ensures) in
    let value : view c.in_ok-value.value ≡ list_data (codes "queues") sheet_data (by_name c.args.sheets.now) = of ∙ ap (λ (is : Items). object (member (codes "queues") (array is) no_members)) items in
    ap Ok (c.in_ok-text.ensures.text (ap has_float value ∙ list-float (codes "queues") sheet_data sheet-float (by_name c.args.sheets.now)) ∙ ap compact_text value)
