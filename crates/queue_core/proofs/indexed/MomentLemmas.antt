-- A map of moments once a number has another moment.
use Rattle.std.proofs.Common.{◌≡◌, ℕ, cond, nat_eq, Option, Some, None, inl, inr, refl, sym, ap, ◌∙◌, arith, eq-eqb, ne_eqb}
use Rattle.std.specs.Cmp.{nat_cmp_total}
use Rattle.std.specs.FinMap.{FinMap, get, get-insert, get-remove}
use Rattle.std.specs.FinMap as finite
use Rattle.std.specs.Ordering.{nat_cmp, eq_by_cmp}
use Rattle.std.proofs.lemmas.Bool.{cases_eq}
use Rattle.std.proofs.lemmas.Bool.Decides.{nat_tests}

-- a number has a moment or none, and other numbers have theirs
abbrev pub AreMoments : ℕ → Option ℕ → FinMap nat_cmp ℕ → FinMap nat_cmp ℕ → Type 0
AreMoments number o x y = (n : ℕ) → get y n ≡ cond (nat_eq n number) o (get x n)

tied : (n number : ℕ) → eq_by_cmp nat_cmp n number ≡ nat_eq n number
tied n number = grind (arith, nat_tests)

-- what is so of the number and of others
pub at_each : {A : Type 0} (f : ℕ → A) (n number : ℕ) (a : A) → f number ≡ a → f n ≡ cond (nat_eq n number) a (f n)
at_each f n number a e = elim (cases_eq n number) [
  | inl s ↦ rw (eq-eqb n number s) (ap f s ∙ e)
  | inr d ↦ rw (ne_eqb n number d) refl
]

pub moments_put : (x : FinMap nat_cmp ℕ) (number moment : ℕ) → AreMoments number (Some moment) x (finite.insert x number moment)
moments_put x number moment n = get-insert nat_cmp_total x number moment n ∙ ap (λ b. cond b (Some moment) (get x n)) (tied n number)

pub moments_taken : (x : FinMap nat_cmp ℕ) (number : ℕ) → AreMoments number None x (finite.remove x number)
moments_taken x number n = get-remove nat_cmp_total x number n ∙ ap (λ b. cond b None (get x n)) (tied n number)

pub moments_are : (x y z : FinMap nat_cmp ℕ) (number : ℕ) (o p : Option ℕ) → z ≡ y → o ≡ p → AreMoments number p x y → AreMoments number o x z
moments_are x y z number o p e f at n = ap (λ m. get m n) e ∙ at n ∙ ap (λ q. cond (nat_eq n number) q (get x n)) (sym f)
