use Rattle.std.proofs.Common.{◌≡◌, ap, ◌∙◌}
use Rattle.std.specs.FinMap as finite
use Rattle.deadline_heap.specs.Deadlines.{moments_of}
use Rattle.deadline_heap.proofs.Moments.{moments_none}
use Rattle.deadline_heap.proofs.deadlines.DeadlineHeap.new.Goals as goal

pub returns : goal.returns
returns c =
    let moments : moments_of c.new.result.pairs ≡ finite.empty = ap (λ a. moments_of a.pairs) c.new.ensures ∙ moments_none in
    let spare : c.new.result.spare ≡ 0 = ap (λ a. a.spare) c.new.ensures in
    λ i. record { moments = moments i; spare = spare i }
