use Rattle.std.proofs.Common.{◌≡◌, Ok, codes, ap, ◌∙◌}
use Rattle.serde_json.specs.Data.{Items, array, object, member, no_members}
use Rattle.serde_json.specs.View.{view, items_view}
use Rattle.serde_json.specs.Written.{has_float, compact_text}
use Rattle.statistics_api.specs.Texts.{alarm_data, items_by, list_data}
use Rattle.statistics_api.proofs.TextLemmas.{list-float, alarm-float}
use Rattle.statistics_api.proofs.texts.alarms_text.Goals as goal

pub returns : goal.returns
returns c =
    let items : items_view c.in_ok-alarms.alarms.items ≡ items_by alarm_data c.args.alarms.now = c.in_ok-alarms.ensures.ok in
    let of : view c.in_ok-value.value ≡ object (member (codes "alarms") (array (items_view c.in_ok-alarms.alarms.items)) no_members) = cc (c.in_ok-value.ensures) in
    let value : view c.in_ok-value.value ≡ list_data (codes "alarms") alarm_data c.args.alarms.now = of ∙ ap (λ (is : Items). object (member (codes "alarms") (array is) no_members)) items in
    ap Ok (c.in_ok-text.ensures.text (ap has_float value ∙ list-float (codes "alarms") alarm_data alarm-float c.args.alarms.now) ∙ ap compact_text value)
