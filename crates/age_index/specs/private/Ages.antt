-- How what contracts see of the index is stored as one value.
use Rattle.std.specs.Prelude.{ℕ, refl}
use Rattle.std.specs.Coded.{Coded, code_by, coded×, coded_ℕ}
use Rattle.std.specs.FinMap as finite
use Rattle.std.specs.Ordering.{nat_cmp}
use Rattle.age_index.specs.Ages.{Ages}

-- stored as the pair of its fields
abbrev pub ages_code : Coded Ages
ages_code = code_by (finite.FinMap nat_cmp ℕ × ℕ) (coded× (finite.code coded_ℕ coded_ℕ) coded_ℕ) (λ a. (a.slots, a.spare)) (λ p. record { slots = p.0; spare = p.1 }) (λ _. refl)
