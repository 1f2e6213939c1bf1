-- Entries read one after another.
use Rattle.std.proofs.Common.{◌≡◌, suc, List, [], ◌∷◌, ◌++◌, length, Result, refl, ap}
use Rattle.message.specs.declared.fault.Fault.{Fault}
use Rattle.serde_json.specs.View.{items_view}
use Rattle.serde_json.specs.declared.value.Value.{Value}
use Rattle.aws_json.specs.Entries.{item_count}
use Rattle.aws_json.specs.Steps.{result_map}
use Rattle.aws_json.specs.declared.batch.BatchEntry.{BatchEntry}

-- entries and those after them, or the fault among those
abbrev pub after_entries : List BatchEntry → Result (List BatchEntry) Fault → Result (List BatchEntry) Fault
after_entries entries rest = result_map (λ more. entries ++ more) rest

pub item_count-items_view : (vs : List Value) → item_count (items_view vs) ≡ length vs
item_count-items_view [] = refl
item_count-items_view (v ∷ vs) = ap suc (item_count-items_view vs)
