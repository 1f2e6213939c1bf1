use Rattle.std.proofs.Common.{◌≡◌, ℕ, ◌+◌, List, length, Option, Some, None, ap, sym, ◌∙◌, subst, arith, rules}
use Rattle.std.specs.FinMap.{FinMap}
use Rattle.std.specs.FinMap as finite
use Rattle.std.specs.Ordering.{nat_cmp}
use Rattle.age_index.specs.Ages.{IsNumberAt}
use Rattle.age_index.specs.Nodes.{slots_of}
use Rattle.age_index.specs.private.Nodes.{AreFree, number_at}
use Rattle.age_index.proofs.Free.{free_pushed, length_pushed, used_within}
use Rattle.age_index.proofs.Linking.{IsOneMore}
use Rattle.age_index.proofs.Slots.{len_more, number_here, slots_less}
use Rattle.age_index.proofs.ages.AgeIndex.remove.Goals as goal

pub returns-in_err-number-clause-value : goal.returns-in_err-number-clause-value
returns-in_err-number-clause-value c =
    let old = c.self.inside.chain in
    let same : slots_of old.nodes.items ≡ c.args.self.now.slots = ap (λ a. a.slots) c.self.view_is in
    let none : c.from_residual.result ≡ None = search rules in
    subst (λ (r : Option ℕ). IsNumberAt c.args.self.now.slots c.args.slot r) (sym none)
    (subst (λ (m : FinMap nat_cmp ℕ). IsNumberAt m c.args.slot None) same (number_here old.nodes.items c.args.slot None c.self.invariant.0.once c.in_err-number.ensures))

pub push_reserved-requires : goal.push_reserved-requires
push_reserved-requires c =
    let old = c.self.inside.chain in
    let new = c.link_out.new.self in
    let one : IsOneMore (number_at new) (number_at old) c.args.slot c.in_ok-number.number = record {
      free = c.link_out.ensures.number;
      number = sym c.in_ok-number.ensures;
      others = λ x n. sym (c.link_out.ensures.others x n);
    } in
    let m = len_more new.nodes.items old.nodes.items c.args.slot c.in_ok-number.number c.link_out.ensures.chain.once c.self.invariant.0.once one in
    omega (arith, c.self.inside.free.ok.0)

pub invariant_of-self : goal.invariant_of-self
invariant_of-self c =
    let old = c.self.inside.chain in
    let new = c.link_out.new.self in
    let one : IsOneMore (number_at new) (number_at old) c.args.slot c.in_ok-number.number = record {
      free = c.link_out.ensures.number;
      number = sym c.in_ok-number.ensures;
      others = λ x n. sym (c.link_out.ensures.others x n);
    } in
    let m = len_more new.nodes.items old.nodes.items c.args.slot c.in_ok-number.number c.link_out.ensures.chain.once c.self.invariant.0.once one in
    let same : length new.nodes.items ≡ length old.nodes.items = omega (arith, new.nodes.ok.0, old.nodes.ok.0, c.link_out.ensures.len) in
    let items = c.push_reserved.ensures.items in
    let free = free_pushed new.nodes.items old.nodes.items c.self.inside.free.items c.args.slot c.in_ok-number.number c.self.invariant.1 one same
    (used_within old.nodes.items c.args.slot c.in_ok-number.number one.number) in
    let l : length c.push_reserved.new.self.items ≡ length c.self.inside.free.items + 1 = ap length items ∙ length_pushed c.self.inside.free.items c.args.slot in (
      c.link_out.ensures.chain,
      subst (λ (xs : List ℕ). AreFree new.nodes.items xs) (sym items) free,
      omega arith,
      omega arith,
      omega arith,
    )

pub returns-clause-value : goal.returns-clause-value
returns-clause-value c =
    let old = c.self.inside.chain in
    let same : slots_of old.nodes.items ≡ c.args.self.now.slots = ap (λ a. a.slots) c.self.view_is in
    subst (λ (m : FinMap nat_cmp ℕ). IsNumberAt m c.args.slot (Some c.in_ok-number.number)) same (number_here old.nodes.items c.args.slot (Some c.in_ok-number.number) c.self.invariant.0.once c.in_ok-number.ensures)

pub returns-clause-slots : goal.returns-clause-slots
returns-clause-slots c =
    let old = c.self.inside.chain in
    let new = c.link_out.new.self in
    let same : slots_of old.nodes.items ≡ c.args.self.now.slots = ap (λ a. a.slots) c.self.view_is in
    let one : IsOneMore (number_at new) (number_at old) c.args.slot c.in_ok-number.number = record {
      free = c.link_out.ensures.number;
      number = sym c.in_ok-number.ensures;
      others = λ x n. sym (c.link_out.ensures.others x n);
    } in
    slots_less new.nodes.items old.nodes.items c.args.slot c.in_ok-number.number c.link_out.ensures.chain.once c.self.invariant.0.once one
    ∙ ap (λ (m : FinMap nat_cmp ℕ). finite.remove m c.in_ok-number.number) same
