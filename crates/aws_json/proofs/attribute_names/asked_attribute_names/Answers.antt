use Rattle.std.proofs.Common.{◌≡◌, false, ◌==◌, List, [], ◌∷◌, length, Some, refl, rules}
use Rattle.serde_json.specs.View.{items_view}
use Rattle.serde_json.specs.declared.value.Value.{Value}
use Rattle.aws_json.specs.Steps.{result_map}
use Rattle.aws_json.specs.AttributeNames.{asked_attributes_of, asked_attribute_names}
use Rattle.aws_json.proofs.attribute_names.asked_attribute_names.Goals as goal

asked_attribute_names-some : (vs : List Value) → (length vs == 0) ≡ false → asked_attribute_names (Some (items_view vs)) ≡ result_map Some (asked_attributes_of (items_view vs))
asked_attribute_names-some [] h = absurd cc
asked_attribute_names-some (v ∷ vs) h = refl

pub returns-in_err-asked_attributes_of-in-Some : goal.returns-in_err-asked_attributes_of-in-Some
returns-in_err-asked_attributes_of-in-Some c =
    let e = asked_attribute_names-some c.in-Some.items.now cc in
    search (rules, e)

pub returns-in_ok-asked_attributes_of-in-Some : goal.returns-in_ok-asked_attributes_of-in-Some
returns-in_ok-asked_attributes_of-in-Some c =
    let e = asked_attribute_names-some c.in-Some.items.now cc in
    search (rules, e)
