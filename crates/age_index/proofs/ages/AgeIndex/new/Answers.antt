use Rattle.std.proofs.Common.{◌≡◌, ℕ, length, List, refl, ap, ◌∙◌, arith}
use Rattle.std.specs.Ordering.{nat_cmp}
use Rattle.std.specs.FinMap.{FinMap, len, len-empty}
use Rattle.std.specs.FinMap as finite
use Rattle.age_index.specs.declared.node.Node.{Node}
use Rattle.age_index.specs.Nodes.{slots_of}
use Rattle.age_index.specs.private.Nodes.{number_in}
use Rattle.age_index.proofs.Free.{free_none}
use Rattle.age_index.proofs.Linking.{chain_none}
use Rattle.age_index.proofs.Slots.{slots_none}
use Rattle.age_index.proofs.ages.AgeIndex.new.Goals as goal

pub invariant_of-result : goal.invariant_of-result
invariant_of-result c =
    let n : length c.new.result.items ≡ 0 = ap length c.new.ensures.items in
    let m : length c.new-2.result.items ≡ 0 = ap length c.new-2.ensures.items in
    let l : len (slots_of c.new.result.items) ≡ 0 = ap (λ (xs : List Node). len (slots_of xs)) c.new.ensures.items ∙ ap (λ (s : FinMap nat_cmp ℕ). len s) slots_none ∙ len-empty nat_cmp ℕ in (
      chain_none _ _ _ (λ x. ap (λ (xs : List Node). number_in xs x) c.new.ensures.items) refl refl,
      free_none _ _ m,
      omega arith,
      omega arith,
      omega arith,
    )

pub returns : goal.returns
returns c =
    let slots : slots_of c.new.result.items ≡ finite.empty = ap slots_of c.new.ensures.items ∙ slots_none in
    let spare : length c.new-2.result.items ≡ 0 = ap length c.new-2.ensures.items in
    λ i. record { slots = slots i; spare = spare i }
