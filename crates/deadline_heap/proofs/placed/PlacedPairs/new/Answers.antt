use Rattle.std.proofs.Common.{◌≡◌, length, ap, arith}
use Rattle.std.specs.FinMap as finite
use Rattle.deadline_heap.proofs.Placing.{placed_none}
use Rattle.deadline_heap.proofs.placed.PlacedPairs.new.Goals as goal

pub invariant_of-result : goal.invariant_of-result
invariant_of-result c =
    let n : length c.new.result.items ≡ 0 = ap length c.new.ensures.items in
    let places : c.new-2.result.places ≡ finite.empty = ap (λ t. t.places) c.new-2.ensures in
    (placed_none c.new.result.items c.new-2.result.places n places, omega arith, omega arith, omega arith)
