use Rattle.std.proofs.Common.{◌≡◌, ◌≢◌, ℕ, ◌+◌, ◌==◌, ◌||◌, Bool, true, false, List, [], ◌∷◌, ◌++◌, length, refl, ap, sym, ◌∙◌, subst, arith, length-append}
use Rattle.std.specs.FinMap.{FinMap, get, len}
use Rattle.std.specs.FinMap as finite
use Rattle.std.specs.List.{list_any}
use Rattle.std.specs.Ordering.{nat_cmp}
use Rattle.std.proofs.lemmas.Bool.Decides.{nat_tests}
use Rattle.age_index.proofs.Slots.{get_past, len_none}
use Rattle.age_index.proofs.tests.Talk.add.Goals as goal

either : (a b : Bool) → (a || b) ≡ false → (a ≡ false) × (b ≡ false)
either true b e = absurd (cc)
either false b e = (refl, e)

neither : (xs : List (ℕ × ℕ)) (y : ℕ × ℕ) (n : ℕ) → list_any (λ row. row.0 == n) (xs ++ y ∷ []) ≡ false → (list_any (λ row. row.0 == n) xs ≡ false) × (y.0 ≢ n)
neither [] y n e = (refl, grind (arith, nat_tests))
neither (x ∷ xs) y n e =
    let h = either (x.0 == n) (list_any (λ row. row.0 == n) (xs ++ y ∷ [])) e in
    let w = neither xs y n h.1 in
    (ap (λ (b : Bool). b || list_any (λ row. row.0 == n) xs) h.0 ∙ w.0, w.1)

pub add-slot-requires-clause-absent : goal.add-slot-requires-clause-absent
add-slot-requires-clause-absent c =
    let old = c.args.self.now in
    let test : list_any (λ row. row.0 == c.args.number) c.deref.result.now ≡ false = sym c.is_known.ensures ∙ c.if-is_known.false in
    let lacks : list_any (λ row. row.0 == c.args.number) old.known.items ≡ false =
    subst (λ (xs : List (ℕ × ℕ)). list_any (λ row. row.0 == c.args.number) xs ≡ false) c.deref.ensures.value test in
    ap (λ (m : FinMap nat_cmp ℕ). get m c.args.number) c.reserve-2.ensures.slots ∙ old.strangers c.args.number lacks

pub invariant_of-self-2 : goal.invariant_of-self-2
invariant_of-self-2 c =
    let old = c.args.self.now in
    let test : list_any (λ row. row.0 == c.args.number) c.deref.result.now ≡ false = sym c.is_known.ensures ∙ c.if-is_known.false in
    let lacks : list_any (λ row. row.0 == c.args.number) old.known.items ≡ false =
    subst (λ (xs : List (ℕ × ℕ)). list_any (λ row. row.0 == c.args.number) xs ≡ false) c.deref.ensures.value test in
    let slot = c.add-slot.result in
    let slots : c.add-slot.new.self.slots ≡ finite.insert old.index.slots c.args.number slot =
    c.add-slot.ensures.slots ∙ ap (λ (m : FinMap nat_cmp ℕ). finite.insert m c.args.number slot) c.reserve-2.ensures.slots in
    let items : c.push_reserved.new.self.items ≡ old.known.items ++ (c.args.number, slot) ∷ [] =
    c.push_reserved.ensures.items ∙ ap (λ (xs : List (ℕ × ℕ)). xs ++ (c.args.number, slot) ∷ []) c.reserve.ensures.items in
    let n : length c.push_reserved.new.self.items ≡ length old.known.items + 1 = ap length items ∙ length-append old.known.items ((c.args.number, slot) ∷ []) in
    let m : len c.add-slot.new.self.slots ≡ len old.index.slots + 1 =
    ap (λ (s : FinMap nat_cmp ℕ). len s) slots ∙ len_none old.index.slots c.args.number slot (old.strangers c.args.number lacks) in
    let few = old.few in
    record {
      strangers = λ q unknown.
          let h = neither old.known.items (c.args.number, slot) q (subst (λ (xs : List (ℕ × ℕ)). list_any (λ row. row.0 == q) xs ≡ false) items unknown) in
          ap (λ (s : FinMap nat_cmp ℕ). get s q) slots ∙ get_past old.index.slots c.args.number slot q (λ e. h.1 (sym e)) ∙ old.strangers q h.0;
      few = omega arith;
    }
