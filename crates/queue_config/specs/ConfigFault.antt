-- The faults of a configuration: their numbers and names are this project's own.
use Rattle.std.specs.Prelude.{◌≡◌, ℕ, ⊤, Bool, true, false, List, codes, Result, Ok, Err, MatchBool}
use Rattle.queue_config.specs.declared.config_fault.ConfigFault.{ConfigFault}
use Rattle.queue_config.specs.declared.config_fault.ConfigFault.TheVariants.{Syntax, UnknownKey, WrongKind, OutOfRange, NameTwice, NoSuchTarget, OutOfMemory}

abbrev pub config_fault_code : ConfigFault → ℕ
config_fault_code Syntax = 1
config_fault_code UnknownKey = 2
config_fault_code WrongKind = 3
config_fault_code OutOfRange = 4
config_fault_code NameTwice = 5
config_fault_code NoSuchTarget = 6
config_fault_code OutOfMemory = 18

abbrev pub config_fault_name : ConfigFault → List ℕ
config_fault_name Syntax = codes "Syntax"
config_fault_name UnknownKey = codes "UnknownKey"
config_fault_name WrongKind = codes "WrongKind"
config_fault_name OutOfRange = codes "OutOfRange"
config_fault_name NameTwice = codes "NameTwice"
config_fault_name NoSuchTarget = codes "NoSuchTarget"
config_fault_name OutOfMemory = codes "OutOfMemory"

-- whether an answer says that memory ran out
abbrev pub is_want_of_memory : {T : Type 0} → Result T ConfigFault → Bool
is_want_of_memory (Ok x) = false
is_want_of_memory (Err Syntax) = false
is_want_of_memory (Err UnknownKey) = false
is_want_of_memory (Err WrongKind) = false
is_want_of_memory (Err OutOfRange) = false
is_want_of_memory (Err NameTwice) = false
is_want_of_memory (Err NoSuchTarget) = false
is_want_of_memory (Err OutOfMemory) = true

-- the answer is the wanted one, unless memory ran out
abbrev pub IsReadAs : {T : Type 0} → Result T ConfigFault → Result T ConfigFault → Type 0
IsReadAs answer wanted = MatchBool (is_want_of_memory answer) ⊤ (answer ≡ wanted)
