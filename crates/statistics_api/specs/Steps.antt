-- What becomes of a result's value.
use Rattle.std.specs.Prelude.{Result, Ok, Err}

abbrev pub result_map : {X Y E : Type 0} → (X → Y) → Result X E → Result Y E
result_map f (Ok x) = Ok (f x)
result_map f (Err e) = Err e
