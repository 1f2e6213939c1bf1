use Rattle.std.proofs.Common.{◌≡◌, ℕ, ◌+◌, suc, ◌∷◌, [], ◌++◌, length, ap, sym, ◌∙◌, arith, length-append, pow-suc}
use Rattle.std.specs.FinMap.{FinMap, get, len}
use Rattle.std.specs.FinMap as finite
use Rattle.std.specs.Ordering.{nat_cmp}
use Rattle.deadline_heap.specs.Deadlines.{moments_of}
use Rattle.deadline_heap.specs.private.Heap.{IsHeapButRising}
use Rattle.deadline_heap.proofs.HeapOrder.{rising_pushed}
use Rattle.deadline_heap.proofs.Moments.{lacks_moments, len_moments, moments_permuted, moments_pushed}
use Rattle.deadline_heap.proofs.deadlines.DeadlineHeap.insert.Goals as goal

pub push-requires-clause-absent : goal.push-requires-clause-absent
push-requires-clause-absent c =
    let same : moments_of c.self.inside.heap.pairs ≡ c.args.self.now.moments = ap (λ d. d.moments) c.self.view_is in
    lacks_moments c.self.inside.heap.pairs c.args.number (ap (λ (m : FinMap nat_cmp ℕ). get m c.args.number) same ∙ c.requires.absent)

pub rise-requires-clause-heap : goal.rise-requires-clause-heap
rise-requires-clause-heap c =
    let pushed : IsHeapButRising (c.self.inside.heap.pairs ++ (c.args.moment, c.args.number) ∷ []) (length c.self.inside.heap.pairs) =
    rising_pushed c.self.inside.heap.pairs (c.args.moment, c.args.number) c.self.invariant.0 in
    rw (c.push.ensures.pairs, c.len-place.ensures) pushed

pub returns-clause-moments : goal.returns-clause-moments
returns-clause-moments c =
    let same : moments_of c.self.inside.heap.pairs ≡ c.args.self.now.moments = ap (λ d. d.moments) c.self.view_is in
    let no = lacks_moments c.self.inside.heap.pairs c.args.number (ap (λ (m : FinMap nat_cmp ℕ). get m c.args.number) same ∙ c.requires.absent) in
    moments_permuted c.push.new.self.pairs c.rise.new.self.pairs c.push.ensures.distinct c.rise.ensures.distinct c.rise.ensures.same
    ∙ ap moments_of c.push.ensures.pairs
    ∙ moments_pushed c.self.inside.heap.pairs (c.args.moment, c.args.number) no
    ∙ ap (λ (m : FinMap nat_cmp ℕ). finite.insert m c.args.number c.args.moment) same

pub returns-clause-cost : goal.returns-clause-cost
returns-clause-cost c k h =
    let same : moments_of c.self.inside.heap.pairs ≡ c.args.self.now.moments = ap (λ d. d.moments) c.self.view_is in
    let n : len c.args.self.now.moments ≡ length c.self.inside.heap.pairs = ap (λ (m : FinMap nat_cmp ℕ). len m) (sym same) ∙ len_moments c.self.inside.heap.pairs c.self.invariant.1 in
    let l : length c.push.new.self.pairs ≡ length c.self.inside.heap.pairs + 1 = ap length c.push.ensures.pairs ∙ length-append c.self.inside.heap.pairs ((c.args.moment, c.args.number) ∷ []) in
    let twice = pow-suc 2 k in
    let cost = c.rise.ensures.cost (suc k) (omega arith) in
    omega (arith, cost)
