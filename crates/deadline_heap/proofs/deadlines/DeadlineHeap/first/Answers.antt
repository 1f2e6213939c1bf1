use Rattle.std.proofs.Common.{◌≡◌, ℕ, Some, None, ap, subst, arith}
use Rattle.std.specs.FinMap.{FinMap}
use Rattle.std.specs.Ordering.{nat_cmp}
use Rattle.deadline_heap.specs.Deadlines.{IsFirst, moments_of}
use Rattle.deadline_heap.proofs.Moments.{first_none, first_top}
use Rattle.deadline_heap.proofs.deadlines.DeadlineHeap.first.Goals as goal

pub returns-then-len-eq0 : goal.returns-then-len-eq0
returns-then-len-eq0 c =
    let same : moments_of c.self.inside.heap.pairs ≡ c.args.self.now.moments = ap (λ d. d.moments) c.self.view_is in
    subst (λ (m : FinMap nat_cmp ℕ). IsFirst m None) same (first_none c.self.inside.heap.pairs (omega arith))

pub returns : goal.returns
returns c =
    let same : moments_of c.self.inside.heap.pairs ≡ c.args.self.now.moments = ap (λ d. d.moments) c.self.view_is in
    subst (λ (m : FinMap nat_cmp ℕ). IsFirst m (Some c.at.result)) same
    (first_top c.self.inside.heap.pairs c.at.result c.self.invariant.1 c.self.invariant.0 (omega arith) c.at.ensures)
