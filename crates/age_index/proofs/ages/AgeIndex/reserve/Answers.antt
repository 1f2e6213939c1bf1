use Rattle.std.proofs.Common.{◌≡◌, ℕ, ◌+◌, List, length, get_or, refl, ap, sym, ◌∙◌, subst, arith}
use Rattle.std.specs.FinMap.{FinMap, len}
use Rattle.std.specs.Ordering.{nat_cmp}
use Rattle.age_index.specs.declared.node.Chain.{Chain}
use Rattle.age_index.specs.declared.node.Node.{Node}
use Rattle.age_index.specs.Nodes.{slots_of}
use Rattle.age_index.specs.private.Nodes.{AreFree, unused}
use Rattle.age_index.proofs.Free.{chain_made}
use Rattle.age_index.proofs.Slots.{slots_same}
use Rattle.age_index.proofs.ages.AgeIndex.reserve.Goals as goal

pub invariant_of-self : goal.invariant_of-self
invariant_of-self c =
    let old = c.self.inside.chain in
    let new : Chain = record { nodes = c.reserve.new.self; first = old.first; last = old.last } in
    let items : c.reserve.new.self.items ≡ old.nodes.items = c.reserve.ensures.items in
    let n : length c.reserve.new.self.items ≡ length old.nodes.items = ap length items in
    let m : len (slots_of c.reserve.new.self.items) ≡ len (slots_of old.nodes.items) = ap (λ (xs : List Node). len (slots_of xs)) items in (
      chain_made old new (λ k. ap (λ (xs : List Node). get_or xs k unused) items) refl refl c.self.invariant.0,
      subst (λ (xs : List Node). AreFree xs c.self.inside.free.items) (sym items) c.self.invariant.1,
      omega arith,
      omega arith,
      omega arith,
    )

pub invariant_of-self-in_err-reserve-2 : goal.invariant_of-self-in_err-reserve-2
invariant_of-self-in_err-reserve-2 c =
    let old = c.self.inside.chain in
    let new : Chain = record { nodes = c.reserve.new.self; first = old.first; last = old.last } in
    let items : c.reserve.new.self.items ≡ old.nodes.items = c.reserve.ensures.items in
    let slots : c.reserve-2.new.self.items ≡ c.self.inside.free.items = c.reserve-2.ensures.items in
    let n : length c.reserve.new.self.items ≡ length old.nodes.items = ap length items in
    let l : length c.reserve-2.new.self.items ≡ length c.self.inside.free.items = ap length slots in
    let m : len (slots_of c.reserve.new.self.items) ≡ len (slots_of old.nodes.items) = ap (λ (xs : List Node). len (slots_of xs)) items in
    let capacity = c.in_err-reserve-2.ensures.err in (
      chain_made old new (λ k. ap (λ (xs : List Node). get_or xs k unused) items) refl refl c.self.invariant.0,
      subst (λ (xs : List Node). AreFree xs c.reserve-2.new.self.items) (sym items) (subst (λ (xs : List ℕ). AreFree old.nodes.items xs) (sym slots) c.self.invariant.1),
      omega arith,
      omega arith,
      omega arith,
    )

pub invariant_of-self-2 : goal.invariant_of-self-2
invariant_of-self-2 c =
    let old = c.self.inside.chain in
    let new : Chain = record { nodes = c.make_free.new.nodes; first = old.first; last = old.last } in
    let same : (k : ℕ) → get_or new.nodes.items k unused ≡ get_or old.nodes.items k unused =
    λ k. c.make_free.ensures.same k ∙ ap (λ (xs : List Node). get_or xs k unused) c.reserve.ensures.items in
    let chain = chain_made old new same refl refl c.self.invariant.0 in
    let slots : slots_of new.nodes.items ≡ slots_of old.nodes.items =
    slots_same old.nodes.items new.nodes.items c.self.invariant.0.once chain.once (λ k. ap (λ (node : Node). node.number) (same k)) in
    let m : len (slots_of new.nodes.items) ≡ len (slots_of old.nodes.items) = ap (λ (s : FinMap nat_cmp ℕ). len s) slots in
    let view : len (slots_of old.nodes.items) ≡ len c.args.self.now.slots = ap (λ a. len a.slots) c.self.view_is in
    let n : length c.reserve.new.self.items ≡ length old.nodes.items = ap length c.reserve.ensures.items in
    let l : length c.reserve-2.new.self.items ≡ length c.self.inside.free.items = ap length c.reserve-2.ensures.items in
    let a : length new.nodes.items ≡ length c.reserve.new.self.items + c.saturating_sub-missing.result =
    omega (arith, c.make_free.ensures.nodes, c.make_free.new.nodes.ok.0, c.reserve.new.self.ok.0) in
    let b : length c.make_free.new.free.items ≡ length c.reserve-2.new.self.items + c.saturating_sub-missing.result =
    omega (arith, c.make_free.ensures.free, c.make_free.new.free.ok.0, c.reserve-2.new.self.ok.0) in
    let room = c.in_ok-reserve-2.ensures.ok in
    let capacity = c.make_free.ensures.capacity in (
      chain,
      c.make_free.ensures.are_free,
      omega arith,
      omega (arith, room, capacity, c.reserve.new.self.ok.0, c.reserve-2.new.self.ok.0),
      omega arith,
    )

pub returns-clause-slots : goal.returns-clause-slots
returns-clause-slots c =
    let old = c.self.inside.chain in
    let new : Chain = record { nodes = c.make_free.new.nodes; first = old.first; last = old.last } in
    let same : (k : ℕ) → get_or new.nodes.items k unused ≡ get_or old.nodes.items k unused =
    λ k. c.make_free.ensures.same k ∙ ap (λ (xs : List Node). get_or xs k unused) c.reserve.ensures.items in
    let chain = chain_made old new same refl refl c.self.invariant.0 in
    slots_same old.nodes.items new.nodes.items c.self.invariant.0.once chain.once (λ k. ap (λ (node : Node). node.number) (same k)) ∙ ap (λ a. a.slots) c.self.view_is
