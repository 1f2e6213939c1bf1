-- The list in a vector of what a text has.
use Rattle.std.specs.Prelude.{List, Result, Ok, Err}
use Rattle.std.specs.Global.{Vec}
use Rattle.queue_config.specs.declared.config_fault.ConfigFault.{ConfigFault}

abbrev pub items_of : {T : Type 0} → Result (Vec T) ConfigFault → Result (List T) ConfigFault
items_of (Ok found) = Ok found.items
items_of (Err fault) = Err fault
