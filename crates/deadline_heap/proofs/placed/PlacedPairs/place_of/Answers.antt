use Rattle.std.proofs.Common.{◌≡◌, ℕ, List, IfSome, IfNone, ap, subst}
use Rattle.deadline_heap.specs.private.Placed.{HasNumberAt, LacksNumber}
use Rattle.deadline_heap.proofs.Placing.{absent_of, found_of}
use Rattle.deadline_heap.proofs.placed.PlacedPairs.place_of.Goals as goal

pub returns : goal.returns
returns c =
    let same : c.self.inside.pairs.items ≡ c.args.self.now.pairs = ap (λ p. p.pairs) c.self.view_is in
    record {
      found = subst (λ (xs : List (ℕ × ℕ)). IfSome c.get.result (HasNumberAt xs c.args.number)) same
          (found_of c.self.inside.pairs.items c.self.inside.places.places c.args.number c.get.result c.self.invariant.0 c.get.ensures);
      absent = subst (λ (xs : List (ℕ × ℕ)). IfNone c.get.result (LacksNumber xs c.args.number)) same
          (absent_of c.self.inside.pairs.items c.self.inside.places.places c.args.number c.get.result c.self.invariant.0 c.get.ensures);
    }
