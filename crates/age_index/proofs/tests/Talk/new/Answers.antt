use Rattle.std.proofs.Common.{◌≡◌, ℕ, ap, ◌∙◌, arith}
use Rattle.std.specs.FinMap.{get, len, get-empty, len-empty}
use Rattle.std.specs.Ordering.{nat_cmp}
use Rattle.age_index.proofs.tests.Talk.new.Goals as goal

pub invariant_of-result : goal.invariant_of-result
invariant_of-result c =
    let l : len c.new.result.slots ≡ 0 = ap (λ a. len a.slots) c.new.ensures ∙ len-empty nat_cmp ℕ in
    record {
      strangers = λ n lacks. ap (λ a. get a.slots n) c.new.ensures ∙ get-empty nat_cmp n;
      few = omega arith;
    }
