use Rattle.std.proofs.Common.{◌≡◌, ℕ, None, ap, subst}
use Rattle.std.specs.FinMap.{FinMap}
use Rattle.std.specs.Ordering.{nat_cmp}
use Rattle.age_index.specs.Ages.{IsFirst}
use Rattle.age_index.specs.Nodes.{slots_of}
use Rattle.age_index.specs.private.Nodes.{after_of, before_of}
use Rattle.age_index.proofs.Slots.{first_at, first_none}
use Rattle.age_index.proofs.ages.AgeIndex.first.Goals as goal

pub returns-in-Some : goal.returns-in-Some
returns-in-Some c =
    let chain = c.self.inside.chain in
    let same : slots_of chain.nodes.items ≡ c.args.self.now.slots = ap (λ a. a.slots) c.self.view_is in
    subst (λ (m : FinMap nat_cmp ℕ). IsFirst m c.number.result) same
    (first_at chain.nodes.items (after_of chain) (before_of chain) _ c.number.result c.self.invariant.0 c.in-Some.is c.number.ensures)

pub returns-in-None : goal.returns-in-None
returns-in-None c =
    let chain = c.self.inside.chain in
    let same : slots_of chain.nodes.items ≡ c.args.self.now.slots = ap (λ a. a.slots) c.self.view_is in
    subst (λ (m : FinMap nat_cmp ℕ). IsFirst m None) same (first_none chain.nodes.items (after_of chain) (before_of chain) c.self.invariant.0 c.in-None.is)
