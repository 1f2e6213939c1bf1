-- What clauses say of an answer that may be missing.
use Rattle.std.proofs.Common.{Option, Some, None, IfNone}

-- what follows from what a clause says where there is no value
pub none_then : {X : Type 0} (r : Option X) {P Q : Type 0} → IfNone r P → (P → Q) → IfNone r Q
none_then None h f = f h
none_then (Some x) h f = h
