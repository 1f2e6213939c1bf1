use Rattle.std.proofs.Common.{◌≡◌, ℕ, ◌-◌, ◌≤◌, Bool, true, false, cond, inl, inr, Option, Some, None, ap, sym, ◌∙◌, subst, arith}
use Rattle.std.specs.Cmp.{nat_cmp_total}
use Rattle.std.specs.FinMap.{FinMap, contains_key, get, len, len-remove}
use Rattle.std.specs.FinMap as finite
use Rattle.std.specs.Ordering.{nat_cmp}
use Rattle.std.proofs.lemmas.Bool.{cases_eq}
use Rattle.age_index.specs.Ages.{slots_without}
use Rattle.age_index.proofs.Slots.{get_gone, get_left}
use Rattle.age_index.proofs.tests.Talk.remove_at.Goals as goal

get_without : (m : FinMap nat_cmp ℕ) (r : Option ℕ) (n : ℕ) → get m n ≡ None → get (slots_without m r) n ≡ None
get_without m None n none = none
get_without m (Some k) n none = elim (cases_eq n k) [
  | inl e ↦ subst (λ (q : ℕ). get (finite.remove m k) q ≡ None) (sym e) (get_gone m k)
  | inr far ↦ get_left m k n far ∙ none
]

one_less : (b : Bool) (a : ℕ) → cond b (a - 1) a ≤ a
one_less true a = omega arith
one_less false a = omega arith

len_without : (m : FinMap nat_cmp ℕ) (r : Option ℕ) → len (slots_without m r) ≤ len m
len_without m None = omega arith
len_without m (Some k) = let e = len-remove nat_cmp_total m k in let h = one_less (contains_key m k) (len m) in omega arith

pub invariant_of-self : goal.invariant_of-self
invariant_of-self c =
    let old = c.args.self.now in
    let l : len c.remove.new.self.slots ≡ len (slots_without old.index.slots c.remove.result) = ap (λ (m : FinMap nat_cmp ℕ). len m) c.remove.ensures.slots in
    let h = len_without old.index.slots c.remove.result in
    let few = old.few in
    record {
      strangers = λ n lacks. ap (λ (m : FinMap nat_cmp ℕ). get m n) c.remove.ensures.slots ∙ get_without old.index.slots c.remove.result n (old.strangers n lacks);
      few = omega arith;
    }
