-- No statistics have a float.
use Rattle.std.proofs.Common.{◌≡◌, ℕ, Bool, false, ◌||◌, List, [], ◌∷◌, map, refl, ap}
use Rattle.alarm.specs.declared.state.AlarmState.{AlarmState}
use Rattle.board.specs.Sheet.{Sheet}
use Rattle.metric_window.specs.declared.row.Row.{Row}
use Rattle.serde_json.specs.Data.{Data, Items, item}
use Rattle.serde_json.specs.Written.{has_float}
use Rattle.statistics_api.specs.Texts.{row_data, sheet_data, alarm_data, items_by, list_data}
use Rattle.statistics_api.proofs.ItemLemmas.{items_by-float}

pub list-float : {X : Type 0} (key : List ℕ) (data_of : X → Data) → ((x : X) → has_float (data_of x) ≡ false) → (xs : List X) → has_float (list_data key data_of xs) ≡ false
list-float key data_of h xs = ap (λ (b : Bool). b || false) (items_by-float data_of h xs)

pub row-float : (r : Row) → has_float (row_data r) ≡ false
row-float r = refl

pub sheet-float : (s : Sheet) → has_float (sheet_data s) ≡ false
sheet-float s = refl

pub alarm-float : (a : List ℕ × AlarmState) → has_float (alarm_data a) ≡ false
alarm-float a = refl

pub items_by-map : {X : Type 0} {Y : Type 0} (data_of : Y → Data) (seen : X → Y) (xs : List X) → items_by (λ x. data_of (seen x)) xs ≡ items_by data_of (map seen xs)
items_by-map data_of seen [] = refl
items_by-map data_of seen (x ∷ xs) = ap (λ (is : Items). item (data_of (seen x)) is) (items_by-map data_of seen xs)
