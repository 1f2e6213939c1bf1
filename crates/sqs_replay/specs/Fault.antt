-- The faults' numbers and texts, which fault a run ended with, and which fault an error of a device is: this project's own choice.
use Rattle.std.specs.Prelude.{ℕ, Bool, true, false, List, codes, Result, Err}
use Rattle.std.specs.declared.io.ErrorKind.{ErrorKind}
use Rattle.std.specs.declared.io.ErrorKind.TheVariants as kinds
use Rattle.sqs_replay.specs.declared.fault.ReplayFault.{ReplayFault}
use Rattle.sqs_replay.specs.declared.fault.ReplayFault.TheVariants.{Read, Write, OutOfMemory}

abbrev pub fault_code : ReplayFault → ℕ
fault_code Read = 1
fault_code Write = 2
fault_code OutOfMemory = 3

abbrev pub fault_text : ReplayFault → List ℕ
fault_text Read = codes "read failed"
fault_text Write = codes "write failed"
fault_text OutOfMemory = codes "out of memory"

-- whether a run ended because the inlet failed, or was read too often
abbrev pub is_read_fault : {T : Type 0} → Result T ReplayFault → Bool
is_read_fault (Err Read) = true
is_read_fault _ = false

-- whether a run ended because the outlet failed
abbrev pub is_write_fault : {T : Type 0} → Result T ReplayFault → Bool
is_write_fault (Err Write) = true
is_write_fault _ = false

-- whether a run ended for lack of memory
abbrev pub is_memory_fault : {T : Type 0} → Result T ReplayFault → Bool
is_memory_fault (Err OutOfMemory) = true
is_memory_fault _ = false

-- which fault an error of a kind is: lack of memory, or the one given
abbrev pub fault_of : ErrorKind → ReplayFault → ReplayFault
fault_of kinds.OutOfMemory fault = OutOfMemory
fault_of _ fault = fault
