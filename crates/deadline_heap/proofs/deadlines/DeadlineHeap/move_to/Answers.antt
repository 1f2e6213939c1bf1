use Rattle.std.proofs.Common.{◌≡◌, ℕ, List, length, IsSome, ap, sym, ◌∙◌, subst, arith}
use Rattle.std.specs.FinMap.{FinMap, get, len}
use Rattle.std.specs.FinMap as finite
use Rattle.std.specs.Ordering.{nat_cmp}
use Rattle.std.proofs.lemmas.List.{length-set}
use Rattle.deadline_heap.specs.Deadlines.{moments_of}
use Rattle.deadline_heap.specs.private.Heap.{IsHeapBut}
use Rattle.deadline_heap.specs.private.Placed.{HasNumberAt}
use Rattle.deadline_heap.proofs.HeapOrder.{but_set}
use Rattle.deadline_heap.proofs.Moments.{len_moments, moments_permuted, moments_set, place_there}
use Rattle.deadline_heap.proofs.deadlines.DeadlineHeap.move_to.Goals as goal

pub unwrap-place-requires : goal.unwrap-place-requires
unwrap-place-requires c =
    let same : moments_of c.self.inside.heap.pairs ≡ c.args.self.now.moments = ap (λ d. d.moments) c.self.view_is in
    place_there c.self.inside.heap.pairs c.args.number c.place_of.result c.place_of.ensures.absent (subst (λ (m : FinMap nat_cmp ℕ). IsSome (get m c.args.number)) (sym same) c.requires)

pub set-requires : goal.set-requires
set-requires c = rw c.unwrap-place.ensures at c.place_of.ensures.found

pub settle-requires-clause-heap : goal.settle-requires-clause-heap
settle-requires-clause-heap c =
    subst (λ (xs : List (ℕ × ℕ)). IsHeapBut xs c.unwrap-place.result) (sym c.set.ensures.pairs) (but_set c.self.inside.heap.pairs c.unwrap-place.result (c.args.moment, c.args.number) c.self.invariant.0)

pub returns-clause-moments : goal.returns-clause-moments
returns-clause-moments c =
    let same : moments_of c.self.inside.heap.pairs ≡ c.args.self.now.moments = ap (λ d. d.moments) c.self.view_is in
    let at : HasNumberAt c.self.inside.heap.pairs c.args.number c.unwrap-place.result = rw c.unwrap-place.ensures at c.place_of.ensures.found in
    moments_permuted c.set.new.self.pairs c.settle.new.self.pairs c.set.ensures.distinct c.settle.ensures.distinct c.settle.ensures.same
    ∙ ap moments_of c.set.ensures.pairs
    ∙ moments_set c.self.inside.heap.pairs (c.args.moment, c.args.number) c.unwrap-place.result c.self.invariant.1 at
    ∙ ap (λ (m : FinMap nat_cmp ℕ). finite.insert m c.args.number c.args.moment) same

pub returns-clause-cost : goal.returns-clause-cost
returns-clause-cost c k h =
    let same : moments_of c.self.inside.heap.pairs ≡ c.args.self.now.moments = ap (λ d. d.moments) c.self.view_is in
    let n : len c.args.self.now.moments ≡ length c.self.inside.heap.pairs = ap (λ (m : FinMap nat_cmp ℕ). len m) (sym same) ∙ len_moments c.self.inside.heap.pairs c.self.invariant.1 in
    let l : length c.set.new.self.pairs ≡ length c.self.inside.heap.pairs = ap length c.set.ensures.pairs ∙ length-set c.self.inside.heap.pairs c.unwrap-place.result (c.args.moment, c.args.number) in
    let cost = c.settle.ensures.cost k (omega arith) in
    omega (arith, cost)
