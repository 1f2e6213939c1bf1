-- How what contracts see of the queue of deadlines is stored as one value.
use Rattle.std.specs.Prelude.{ℕ, refl}
use Rattle.std.specs.Coded.{Coded, code_by, coded×, coded_ℕ}
use Rattle.std.specs.FinMap as finite
use Rattle.std.specs.Ordering.{nat_cmp}
use Rattle.deadline_heap.specs.Deadlines.{Deadlines}

-- stored as the pair of its fields
abbrev pub deadlines_code : Coded Deadlines
deadlines_code =
    code_by (finite.FinMap nat_cmp ℕ × ℕ) (coded× (finite.code coded_ℕ coded_ℕ) coded_ℕ) (λ d. (d.moments, d.spare)) (λ p. record { moments = p.0; spare = p.1 }) (λ _. refl)
