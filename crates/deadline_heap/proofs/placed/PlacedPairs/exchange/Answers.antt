use Rattle.std.proofs.Common.{◌≡◌, ℕ, ◌+◌, ◌<◌, true, List, length, get_or, is_some, refl, ap, sym, ◌∙◌, arith}
use mathlib.Core.Bool.{false≢true}
use Rattle.std.specs.FinMap.{FinMap, get}
use Rattle.std.specs.FinMap as finite
use Rattle.std.specs.Ordering.{nat_cmp}
use Rattle.std.proofs.lemmas.List.{get_or_read}
use Rattle.deadline_heap.specs.private.Placed.{HasNumberAt}
use Rattle.deadline_heap.proofs.HeapOrder.{exchanged}
use Rattle.deadline_heap.proofs.Placing.{distinct_placed, is_some_inserted, is_some_there, placed_at, placed_exchanged}
use Rattle.deadline_heap.proofs.placed.PlacedPairs.exchange.Goals as goal

-- the number that was read at a place
number_read : (xs : List (ℕ × ℕ)) (i : ℕ) (x : ℕ × ℕ) → i < length xs → x ≡ get_or xs i x → HasNumberAt xs x.1 i
number_read xs i x h read = record { within = h; number_is = λ d. ap (λ (p : ℕ × ℕ). p.1) (sym (get_or_read xs i x h read d)) }

pub set-requires-2 : goal.set-requires-2
set-requires-2 c =
    let same : c.self.inside.pairs.items ≡ c.args.self.now.pairs = ap (λ p. p.pairs) c.self.view_is in
    let l : length c.self.inside.pairs.items ≡ length c.args.self.now.pairs = ap length same in
    let other : c.args.other < length c.self.inside.pairs.items = omega (arith, c.requires.other) in
    let second = number_read c.self.inside.pairs.items c.args.other c.index-2.result.now other c.index-2.ensures in
    let there : is_some (get c.set.new.self.places c.index-2.result.now.1) ≡ true =
    ap (λ (m : FinMap nat_cmp ℕ). is_some (get m c.index-2.result.now.1)) c.set.ensures.places
    ∙ is_some_inserted c.self.inside.places.places c.index.result.now.1 c.index-2.result.now.1 c.args.other
    (is_some_there c.self.inside.pairs.items c.self.inside.places.places c.index-2.result.now.1 c.args.other c.self.invariant.0 second) in
    λ none. absurd (false≢true (sym none ∙ there))

pub invariant_of-self : goal.invariant_of-self
invariant_of-self c =
    let same : c.self.inside.pairs.items ≡ c.args.self.now.pairs = ap (λ p. p.pairs) c.self.view_is in
    let l : length c.self.inside.pairs.items ≡ length c.args.self.now.pairs = ap length same in
    let one : c.args.one < length c.self.inside.pairs.items = omega (arith, c.requires.one) in
    let other : c.args.other < length c.self.inside.pairs.items = omega (arith, c.requires.other) in
    let first = number_read c.self.inside.pairs.items c.args.one c.index.result.now one c.index.ensures in
    let second = number_read c.self.inside.pairs.items c.args.other c.index-2.result.now other c.index-2.ensures in
    let x = exchanged c.self.inside.pairs.items c.swap.new.self.items c.args.one c.args.other one other c.swap.ensures.items in
    let is = is_some_there c.self.inside.pairs.items c.self.inside.places.places c.index.result.now.1 c.args.one c.self.invariant.0 first in
    let raw : c.set.new.self.spare + 0 ≡ c.self.inside.places.spare = rw is at c.set.ensures.spare in
    let there : is_some (get c.set.new.self.places c.index-2.result.now.1) ≡ true =
    ap (λ (m : FinMap nat_cmp ℕ). is_some (get m c.index-2.result.now.1)) c.set.ensures.places
    ∙ is_some_inserted c.self.inside.places.places c.index.result.now.1 c.index-2.result.now.1 c.args.other
    (is_some_there c.self.inside.pairs.items c.self.inside.places.places c.index-2.result.now.1 c.args.other c.self.invariant.0 second) in
    let more : c.set-2.new.self.spare + 0 ≡ c.set.new.self.spare = rw there at c.set-2.ensures.spare in
    let n : length c.swap.new.self.items ≡ length c.self.inside.pairs.items = x.length_is in (
      placed_at _ _ _ _ refl (c.set-2.ensures.places ∙ ap (λ (m : FinMap nat_cmp ℕ). finite.insert m c.index-2.result.now.1 c.args.one) c.set.ensures.places)
          (placed_exchanged c.self.inside.pairs.items c.swap.new.self.items c.self.inside.places.places c.args.one c.args.other c.index.result.now.1 c.index-2.result.now.1 c.self.invariant.0 first second x),
      omega arith,
      omega arith,
      omega arith,
    )

pub returns-clause-distinct : goal.returns-clause-distinct
returns-clause-distinct c = let placed = invariant_of-self c in distinct_placed _ _ placed.0
