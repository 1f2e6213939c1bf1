-- When a port is not at fault though it gives no connection.
use Rattle.std.specs.Prelude.{Bool, true, false, ◌||◌, ℤ, pos, Option, Some, None}
use Rattle.std.specs.Ordering.{int_eq}
use Rattle.std.specs.declared.io.ErrorKind.{ErrorKind}
use Rattle.std.specs.declared.io.ErrorKind.TheVariants.{OutOfMemory}

abbrev pub is_out_of_memory : ErrorKind → Bool
is_out_of_memory OutOfMemory = true
is_out_of_memory kind = false

-- by the system's number for it, where it has one: no memory, no descriptor left in the system or in this program, no memory for a socket
abbrev pub is_shortage : Option ℤ → ErrorKind → Bool
is_shortage (Some code) kind = int_eq code (pos 12) || int_eq code (pos 23) || int_eq code (pos 24) || int_eq code (pos 105)
is_shortage None kind = is_out_of_memory kind
