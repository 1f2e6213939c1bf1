-- The names in the list that a call answers.
use Rattle.std.specs.Prelude.{ℕ, List, Result, Ok, Err}
use Rattle.std.specs.Global.{Vec}
use Rattle.message.specs.declared.fault.Fault.{Fault}

abbrev pub items_of : Result (Vec (List ℕ)) Fault → Result (List (List ℕ)) Fault
items_of (Ok names) = Ok names.items
items_of (Err fault) = Err fault
