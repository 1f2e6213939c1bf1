use Rattle.std.proofs.Common.{◌≡◌, ℕ, ◌+◌, ◌∷◌, [], ◌++◌, List, length, refl, ap, ◌∙◌, subst, arith, length-append}
use Rattle.deadline_heap.specs.private.Placed.{IsPlaced}
use Rattle.deadline_heap.proofs.Placing.{distinct_placed, is_some_last, placed_at, placed_popped}
use Rattle.deadline_heap.proofs.placed.PlacedPairs.pop.Goals as goal

pub invariant_of-self : goal.invariant_of-self
invariant_of-self c =
    let items : c.self.inside.pairs.items ≡ c.pop.new.self.items ++ c.unwrap-pair.result ∷ [] = rw c.unwrap-pair.ensures at c.pop.ensures.items in
    let n : length c.self.inside.pairs.items ≡ length c.pop.new.self.items + 1 = ap length items ∙ length-append c.pop.new.self.items (c.unwrap-pair.result ∷ []) in
    let placed = subst (λ (xs : List (ℕ × ℕ)). IsPlaced xs c.self.inside.places.places) items c.self.invariant.0 in
    let is = is_some_last c.pop.new.self.items c.unwrap-pair.result c.self.inside.places.places placed in
    let spare : c.remove.new.self.spare ≡ c.self.inside.places.spare + 1 = rw is at c.remove.ensures.spare in (
      placed_at _ _ _ _ refl c.remove.ensures.places (placed_popped c.pop.new.self.items c.unwrap-pair.result c.self.inside.places.places placed),
      omega arith,
      omega arith,
      omega arith,
    )

pub returns-clause-distinct : goal.returns-clause-distinct
returns-clause-distinct c =
    let items : c.self.inside.pairs.items ≡ c.pop.new.self.items ++ c.unwrap-pair.result ∷ [] = rw c.unwrap-pair.ensures at c.pop.ensures.items in
    let placed = subst (λ (xs : List (ℕ × ℕ)). IsPlaced xs c.self.inside.places.places) items c.self.invariant.0 in
    distinct_placed _ _ (placed_popped c.pop.new.self.items c.unwrap-pair.result c.self.inside.places.places placed)
