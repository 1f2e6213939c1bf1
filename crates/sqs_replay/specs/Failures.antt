-- How devices count, and what a failed write leaves.
use Rattle.std.specs.Prelude.{◌≡◌, ℕ, ◌+◌, ◌-◌, ◌^◌, min, Bool, if◌then◌else◌, List, ◌++◌, Option}
use Rattle.std.specs.Io.KnownBytes.{Appends}

-- a count with n more; it stops at 2^64 - 1
abbrev pub counted : ℕ → ℕ → ℕ
counted n count = min (count + n) (2 ^ 64 - 1)

-- a count with one more where something happened
abbrev pub counted_if : Bool → ℕ → ℕ
counted_if happened count = if happened then counted 1 count else count

-- known bytes grow by a part of these, from the front
abbrev pub AppendsPart : Option (List ℕ) → Option (List ℕ) → List ℕ → Type 0
AppendsPart old new bytes = (part : List ℕ) × (rest : List ℕ) × (bytes ≡ part ++ rest) × Appends old new part

-- known bytes grow by all of the first, and then by a part of the second, from its front
abbrev pub AppendsAndPart : Option (List ℕ) → Option (List ℕ) → List ℕ → List ℕ → Type 0
AppendsAndPart old new whole bytes = (part : List ℕ) × (rest : List ℕ) × (bytes ≡ part ++ rest) × Appends old new (whole ++ part)
