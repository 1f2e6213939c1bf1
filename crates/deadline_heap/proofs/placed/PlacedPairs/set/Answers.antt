use Rattle.std.proofs.Common.{◌≡◌, ℕ, List, ap, sym, subst, arith}
use Rattle.std.proofs.lemmas.List.{length-set}
use Rattle.deadline_heap.specs.private.Placed.{HasNumberAt}
use Rattle.deadline_heap.proofs.Placing.{distinct_placed, placed_set}
use Rattle.deadline_heap.proofs.placed.PlacedPairs.set.Goals as goal

pub invariant_of-self : goal.invariant_of-self
invariant_of-self c =
    let same : c.self.inside.pairs.items ≡ c.args.self.now.pairs = ap (λ p. p.pairs) c.self.view_is in
    let at = subst (λ (xs : List (ℕ × ℕ)). HasNumberAt xs c.args.pair.1 c.args.place) (sym same) c.requires in
    let n = length-set c.self.inside.pairs.items c.args.place c.args.pair in
    (placed_set c.self.inside.pairs.items c.self.inside.places.places c.args.pair c.args.place c.self.invariant.0 at, omega arith, omega arith, omega arith)

pub returns-clause-distinct : goal.returns-clause-distinct
returns-clause-distinct c =
    let same : c.self.inside.pairs.items ≡ c.args.self.now.pairs = ap (λ p. p.pairs) c.self.view_is in
    let at = subst (λ (xs : List (ℕ × ℕ)). HasNumberAt xs c.args.pair.1 c.args.place) (sym same) c.requires in
    distinct_placed _ _ (placed_set c.self.inside.pairs.items c.self.inside.places.places c.args.pair c.args.place c.self.invariant.0 at)
