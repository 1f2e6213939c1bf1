use Rattle.std.proofs.Common.{◌≡◌, ℕ, ◌+◌, ◌-◌, List, take, drop, ap, ◌∙◌, arith}
use Rattle.receipt_handle.proofs.HandleLemmas.{IsPart, IsPart-take, IsNumeral-part}
use Rattle.receipt_handle.proofs.handle.number_at.Goals as goal

pub unreachable-requires : goal.unreachable-requires
unreachable-requires c =
    let text : List ℕ = c.args.text.now in
    let sixteen : c.args.start + 16 - c.args.start ≡ 16 = omega arith in
    let is : c.range.result.now ≡ take 16 (drop c.args.start text) =
    c.range.ensures.value ∙ ap (λ (k : ℕ). take k (drop c.args.start text)) sixteen in
    let part : IsPart c.range.result.now = rw is (IsPart-take text c.args.start c.requires.text c.requires.within) in
    c.in-Err.ensures.value (IsNumeral-part c.range.result.now part)
