use Rattle.std.proofs.Common.{◌≡◌, ℕ, ◌+◌, List, [], ◌∷◌, ◌++◌, length, ap, ◌∙◌, subst, arith}
use Rattle.std.specs.FinMap.{FinMap, get}
use Rattle.std.specs.FinMap as finite
use Rattle.std.specs.Ordering.{nat_cmp}
use Rattle.age_index.specs.Nodes.{slots_of}
use Rattle.age_index.specs.private.Nodes.{AreFree, number_at}
use Rattle.age_index.proofs.Free.{free_popped, last_unnumbered, last_within, length_pushed}
use Rattle.age_index.proofs.Linking.{IsOneMore, not_none}
use Rattle.age_index.proofs.Slots.{len_more, no_slot, number_of_slot, slots_more}
use Rattle.age_index.proofs.ages.AgeIndex.add.Goals as goal

pub place_for-before-requires-clause-absent : goal.place_for-before-requires-clause-absent
place_for-before-requires-clause-absent c =
    let old = c.self.inside.chain in
    let same : slots_of old.nodes.items ≡ c.args.self.now.slots = ap (λ a. a.slots) c.self.view_is in
    no_slot old.nodes.items c.args.number c.self.invariant.0.once (ap (λ (m : FinMap nat_cmp ℕ). get m c.args.number) same ∙ c.requires.absent)

pub link_in-requires-clause-free : goal.link_in-requires-clause-free
link_in-requires-clause-free c =
    let items : c.self.inside.free.items ≡ c.pop.new.self.items ++ c.unwrap-slot.result ∷ [] = rw c.unwrap-slot.ensures at c.pop.ensures.items in
    last_unnumbered c.self.inside.chain.nodes.items c.pop.new.self.items c.unwrap-slot.result (subst (λ (xs : List ℕ). AreFree c.self.inside.chain.nodes.items xs) items c.self.invariant.1)

pub link_in-requires-clause-within : goal.link_in-requires-clause-within
link_in-requires-clause-within c =
    let items : c.self.inside.free.items ≡ c.pop.new.self.items ++ c.unwrap-slot.result ∷ [] = rw c.unwrap-slot.ensures at c.pop.ensures.items in
    let w = last_within c.self.inside.chain.nodes.items c.pop.new.self.items c.unwrap-slot.result (subst (λ (xs : List ℕ). AreFree c.self.inside.chain.nodes.items xs) items c.self.invariant.1) in
    omega (arith, c.self.inside.chain.nodes.ok.0)

pub invariant_of-self : goal.invariant_of-self
invariant_of-self c =
    let old = c.self.inside.chain in
    let new = c.link_in.new.self in
    let slot = c.unwrap-slot.result in
    let items : c.self.inside.free.items ≡ c.pop.new.self.items ++ slot ∷ [] = rw c.unwrap-slot.ensures at c.pop.ensures.items in
    let free = subst (λ (xs : List ℕ). AreFree old.nodes.items xs) items c.self.invariant.1 in
    let one : IsOneMore (number_at old) (number_at new) slot c.args.number = record {
      free = last_unnumbered old.nodes.items c.pop.new.self.items slot free;
      number = c.link_in.ensures.number;
      others = λ x n. c.link_in.ensures.others x n;
    } in
    let m = len_more old.nodes.items new.nodes.items slot c.args.number c.self.invariant.0.once c.link_in.ensures.chain.once one in
    let same : length new.nodes.items ≡ length old.nodes.items = omega (arith, new.nodes.ok.0, old.nodes.ok.0, c.link_in.ensures.len) in
    let l : length c.self.inside.free.items ≡ length c.pop.new.self.items + 1 = ap length items ∙ length_pushed c.pop.new.self.items slot in (
      c.link_in.ensures.chain,
      free_popped old.nodes.items new.nodes.items c.pop.new.self.items slot c.args.number free one same,
      omega arith,
      omega arith,
      omega arith,
    )

pub returns-clause-slots : goal.returns-clause-slots
returns-clause-slots c =
    let old = c.self.inside.chain in
    let new = c.link_in.new.self in
    let slot = c.unwrap-slot.result in
    let same : slots_of old.nodes.items ≡ c.args.self.now.slots = ap (λ a. a.slots) c.self.view_is in
    let items : c.self.inside.free.items ≡ c.pop.new.self.items ++ slot ∷ [] = rw c.unwrap-slot.ensures at c.pop.ensures.items in
    let free = subst (λ (xs : List ℕ). AreFree old.nodes.items xs) items c.self.invariant.1 in
    let one : IsOneMore (number_at old) (number_at new) slot c.args.number = record {
      free = last_unnumbered old.nodes.items c.pop.new.self.items slot free;
      number = c.link_in.ensures.number;
      others = λ x n. c.link_in.ensures.others x n;
    } in
    slots_more old.nodes.items new.nodes.items slot c.args.number c.self.invariant.0.once c.link_in.ensures.chain.once one
    ∙ ap (λ (m : FinMap nat_cmp ℕ). finite.insert m c.args.number slot) same

pub returns-clause-fresh : goal.returns-clause-fresh
returns-clause-fresh c = λ n e.
    let old = c.self.inside.chain in
    let same : slots_of old.nodes.items ≡ c.args.self.now.slots = ap (λ a. a.slots) c.self.view_is in
    let items : c.self.inside.free.items ≡ c.pop.new.self.items ++ c.unwrap-slot.result ∷ [] = rw c.unwrap-slot.ensures at c.pop.ensures.items in
    let free = subst (λ (xs : List ℕ). AreFree old.nodes.items xs) items c.self.invariant.1 in
    let there = number_of_slot old.nodes.items n c.unwrap-slot.result (ap (λ (m : FinMap nat_cmp ℕ). get m n) same ∙ e) in
    not_none _ n there (last_unnumbered old.nodes.items c.pop.new.self.items c.unwrap-slot.result free)

pub returns-clause-spare : goal.returns-clause-spare
returns-clause-spare c =
    let spare : length c.self.inside.free.items ≡ c.args.self.now.spare = ap (λ a. a.spare) c.self.view_is in
    let items : c.self.inside.free.items ≡ c.pop.new.self.items ++ c.unwrap-slot.result ∷ [] = rw c.unwrap-slot.ensures at c.pop.ensures.items in
    let l : length c.self.inside.free.items ≡ length c.pop.new.self.items + 1 = ap length items ∙ length_pushed c.pop.new.self.items c.unwrap-slot.result in
    omega arith
