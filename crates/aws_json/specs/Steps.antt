-- Steps that may fail: the first fault is the answer.
use Rattle.std.specs.Prelude.{Option, Result, Ok, Err, ok_or}
use Rattle.message.specs.declared.fault.Fault.{Fault}
use Rattle.message.specs.declared.fault.Fault.TheVariants.{InvalidParameterValue}

infixl 10 ◌>>=◌
-- what a value leads to, or the fault in its place
abbrev pub ◌>>=◌ : {A B : Type 0} → Result A Fault → (A → Result B Fault) → Result B Fault
Ok x >>= next = next x
Err fault >>= next = Err fault

-- the value under a function, or the fault
abbrev pub result_map : {A B : Type 0} → (A → B) → Result A Fault → Result B Fault
result_map f (Ok x) = Ok (f x)
result_map f (Err fault) = Err fault

-- the value, or this fault in place of any other
abbrev pub refused_as : {A : Type 0} → Fault → Result A Fault → Result A Fault
refused_as fault (Ok x) = Ok x
refused_as fault (Err other) = Err fault

-- a parameter that has to be there
abbrev pub required : {A : Type 0} → Option A → Result A Fault
required given = ok_or given InvalidParameterValue
