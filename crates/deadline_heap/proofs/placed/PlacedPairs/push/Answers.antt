use Rattle.std.proofs.Common.{◌≡◌, ℕ, ◌+◌, ◌-◌, ◌∷◌, [], false, List, length, is_some, ap, sym, ◌∙◌, subst, arith, length-append}
use Rattle.std.specs.FinMap.{get}
use Rattle.std.specs.FinMap as finite
use Rattle.deadline_heap.specs.private.Placed.{LacksNumber}
use Rattle.deadline_heap.proofs.Placing.{distinct_placed, is_some_lacking, placed_at, placed_pushed}
use Rattle.deadline_heap.proofs.placed.PlacedPairs.push.Goals as goal

pub invariant_of-self : goal.invariant_of-self
invariant_of-self c =
    let same : c.self.inside.pairs.items ≡ c.args.self.now.pairs = ap (λ p. p.pairs) c.self.view_is in
    let spare : c.self.inside.room - length c.self.inside.pairs.items ≡ c.args.self.now.spare = ap (λ p. p.spare) c.self.view_is in
    let no = subst (λ (xs : List (ℕ × ℕ)). LacksNumber xs c.args.pair.1) (sym same) c.requires.absent in
    let none : is_some (get c.self.inside.places.places c.args.pair.1) ≡ false = is_some_lacking c.self.inside.pairs.items c.self.inside.places.places c.args.pair.1 c.self.invariant.0 no in
    let places : c.set.new.self.spare + 1 ≡ c.self.inside.places.spare = rw none at c.set.ensures.spare in
    let len : c.len.result ≡ length c.self.inside.pairs.items = c.len.ensures ∙ c.self.inside.pairs.ok.0 in
    let n : length c.push_reserved.new.self.items ≡ length c.self.inside.pairs.items + 1 = ap length c.push_reserved.ensures.items ∙ length-append c.self.inside.pairs.items (c.args.pair ∷ []) in (
      placed_at _ _ _ _ c.push_reserved.ensures.items (c.set.ensures.places ∙ ap (λ (k : ℕ). finite.insert c.self.inside.places.places c.args.pair.1 k) len)
          (placed_pushed c.self.inside.pairs.items c.self.inside.places.places c.args.pair c.self.invariant.0 no),
      omega arith,
      omega arith,
      omega arith,
    )

pub returns-clause-distinct : goal.returns-clause-distinct
returns-clause-distinct c =
    let same : c.self.inside.pairs.items ≡ c.args.self.now.pairs = ap (λ p. p.pairs) c.self.view_is in
    let no = subst (λ (xs : List (ℕ × ℕ)). LacksNumber xs c.args.pair.1) (sym same) c.requires.absent in
    let len : c.len.result ≡ length c.self.inside.pairs.items = c.len.ensures ∙ c.self.inside.pairs.ok.0 in
    distinct_placed c.push_reserved.new.self.items c.set.new.self.places
    (placed_at _ _ _ _ c.push_reserved.ensures.items (c.set.ensures.places ∙ ap (λ (k : ℕ). finite.insert c.self.inside.places.places c.args.pair.1 k) len)
    (placed_pushed c.self.inside.pairs.items c.self.inside.places.places c.args.pair c.self.invariant.0 no))
