use Rattle.std.proofs.Common.{◌≡◌, ℕ, ◌+◌, ◌-◌, ◌<◌, ◌∷◌, [], ◌++◌, Some, None, length, ap, sym, ◌∙◌, subst, arith, rules, length-append}
use Rattle.std.specs.FinMap.{FinMap, get, len}
use Rattle.std.specs.FinMap as finite
use Rattle.std.specs.Ordering.{nat_cmp}
use Rattle.std.proofs.lemmas.List.Edits.{length-swap}
use Rattle.std.proofs.lemmas.List.Sorted.{IsPermutation-swap}
use Rattle.deadline_heap.specs.Deadlines.{moments_of}
use Rattle.deadline_heap.specs.private.Placed.{HasDistinctNumbers, HasNumberAt}
use Rattle.deadline_heap.proofs.HeapOrder.{but_taken}
use Rattle.deadline_heap.proofs.Moments.{get_moments, get_moments_lacking, last_is, len_moments, moments_permuted, moments_taken}
use Rattle.deadline_heap.proofs.Keyed.{removed_lacking}
use Rattle.deadline_heap.proofs.deadlines.DeadlineHeap.remove.Goals as goal

pub returns-in_err-gap-clause-value : goal.returns-in_err-gap-clause-value
returns-in_err-gap-clause-value c =
    let same : moments_of c.self.inside.heap.pairs ≡ c.args.self.now.moments = ap (λ d. d.moments) c.self.view_is in
    let none : get c.args.self.now.moments c.args.number ≡ None =
    ap (λ (m : FinMap nat_cmp ℕ). get m c.args.number) (sym same) ∙ get_moments_lacking c.self.inside.heap.pairs c.args.number c.in_err-gap.ensures.absent in
    rw none (search rules)

pub returns-in_err-gap-clause-moments : goal.returns-in_err-gap-clause-moments
returns-in_err-gap-clause-moments c =
    let same : moments_of c.self.inside.heap.pairs ≡ c.args.self.now.moments = ap (λ d. d.moments) c.self.view_is in
    removed_lacking c.args.self.now.moments c.args.number
    (ap (λ (m : FinMap nat_cmp ℕ). get m c.args.number) (sym same) ∙ get_moments_lacking c.self.inside.heap.pairs c.args.number c.in_err-gap.ensures.absent)

pub settle-requires-clause-heap : goal.settle-requires-clause-heap
settle-requires-clause-heap c =
    let at : HasNumberAt c.self.inside.heap.pairs c.args.number c.in_ok-gap.gap = c.in_ok-gap.ensures.found in
    but_taken c.self.inside.heap.pairs c.pop-moment.new.self.pairs c.in_ok-gap.gap (c.len-last.result - 1) c.pop-moment.result c.self.invariant.0 at.within (omega (arith, at.within)) (sym c.exchange.ensures.pairs ∙ c.pop-moment.ensures.pairs)

pub returns-clause-value : goal.returns-clause-value
returns-clause-value c =
    let same : moments_of c.self.inside.heap.pairs ≡ c.args.self.now.moments = ap (λ d. d.moments) c.self.view_is in
    let at : HasNumberAt c.self.inside.heap.pairs c.args.number c.in_ok-gap.gap = c.in_ok-gap.ensures.found in
    let last = last_is c.self.inside.heap.pairs c.exchange.new.self.pairs c.pop-moment.new.self.pairs c.pop-moment.result c.args.number c.in_ok-gap.gap (c.len-last.result - 1) at (omega (arith, at.within)) c.exchange.ensures.pairs c.pop-moment.ensures.pairs (0, 0) in
    ap (λ (p : ℕ × ℕ). Some p.0) last
    ∙ sym (get_moments c.self.inside.heap.pairs c.args.number c.in_ok-gap.gap (0, 0) c.self.invariant.1 at)
    ∙ ap (λ (m : FinMap nat_cmp ℕ). get m c.args.number) same

pub returns-clause-moments : goal.returns-clause-moments
returns-clause-moments c =
    let same : moments_of c.self.inside.heap.pairs ≡ c.args.self.now.moments = ap (λ d. d.moments) c.self.view_is in
    let at : HasNumberAt c.self.inside.heap.pairs c.args.number c.in_ok-gap.gap = c.in_ok-gap.ensures.found in
    let end : c.len-last.result - 1 < length c.self.inside.heap.pairs = omega (arith, at.within) in
    let last = last_is c.self.inside.heap.pairs c.exchange.new.self.pairs c.pop-moment.new.self.pairs c.pop-moment.result c.args.number c.in_ok-gap.gap (c.len-last.result - 1) at (omega (arith, at.within)) c.exchange.ensures.pairs c.pop-moment.ensures.pairs (0, 0) in
    let number : c.pop-moment.result.1 ≡ c.args.number = ap (λ (p : ℕ × ℕ). p.1) last ∙ at.number_is (0, 0) in
    let swapped = IsPermutation-swap c.self.inside.heap.pairs c.exchange.new.self.pairs c.in_ok-gap.gap (c.len-last.result - 1) at.within end c.exchange.ensures.pairs in
    let one = subst HasDistinctNumbers c.pop-moment.ensures.pairs c.exchange.ensures.distinct in
    moments_permuted c.pop-moment.new.self.pairs c.settle.new.self.pairs c.pop-moment.ensures.distinct c.settle.ensures.distinct c.settle.ensures.same
    ∙ moments_taken c.pop-moment.new.self.pairs c.pop-moment.result one
    ∙ ap (λ (n : ℕ). finite.remove (moments_of (c.pop-moment.new.self.pairs ++ c.pop-moment.result ∷ [])) n) number
    ∙ ap (λ (m : FinMap nat_cmp ℕ). finite.remove m c.args.number)
    (ap moments_of (sym c.pop-moment.ensures.pairs) ∙ moments_permuted c.self.inside.heap.pairs c.exchange.new.self.pairs c.self.invariant.1 c.exchange.ensures.distinct swapped ∙ same)

pub returns-clause-cost : goal.returns-clause-cost
returns-clause-cost c k h =
    let same : moments_of c.self.inside.heap.pairs ≡ c.args.self.now.moments = ap (λ d. d.moments) c.self.view_is in
    let n : len c.args.self.now.moments ≡ length c.self.inside.heap.pairs = ap (λ (m : FinMap nat_cmp ℕ). len m) (sym same) ∙ len_moments c.self.inside.heap.pairs c.self.invariant.1 in
    let x : length c.exchange.new.self.pairs ≡ length c.self.inside.heap.pairs = ap length c.exchange.ensures.pairs ∙ length-swap c.self.inside.heap.pairs c.in_ok-gap.gap (c.len-last.result - 1) in
    let l : length c.exchange.new.self.pairs ≡ length c.pop-moment.new.self.pairs + 1 = ap length c.pop-moment.ensures.pairs ∙ length-append c.pop-moment.new.self.pairs (c.pop-moment.result ∷ []) in
    let cost = c.settle.ensures.cost k (omega arith) in
    omega (arith, cost)
