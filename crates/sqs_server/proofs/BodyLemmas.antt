-- Of a body that has not been handed over.
use Rattle.std.proofs.Common.{Option, IsSome}
use Rattle.std.proofs.Math.Logic.{∥∥₁_elim}
use mathlib.Core.Bool.{Bool-set}

pub some_from : {A : Type 0} (o : Option A) → ∥ IsSome o ∥₁ → IsSome o
some_from o x = ∥∥₁_elim x (Bool-set _ _) (λ is. is)
