-- Why a program does not start, and what it tells of that: this project's own choice.
use Rattle.std.specs.Prelude.{◌≡◌, ℕ, ⊤, Bool, true, false, List, ◌++◌, codes, Result, Ok, Err, MatchBool}
use Rattle.std.specs.Result.{result_map_both}
use Rattle.std.specs.declared.io.ErrorKind.{ErrorKind}
use Rattle.std.specs.declared.io.ErrorKind.TheVariants as kinds
use Rattle.queue_config.specs.Config.{Configuration}
use Rattle.queue_config.specs.ConfigFault.{config_fault_name, is_want_of_memory}
use Rattle.queue_config.specs.declared.config_fault.ConfigFault.{ConfigFault}
use Rattle.queue_config.specs.declared.config_fault.ConfigFault.TheVariants as config_faults
use Rattle.startup.specs.declared.ending.Ending.{Ending}
use Rattle.startup.specs.declared.ending.StartFault.{StartFault}
use Rattle.startup.specs.declared.ending.StartFault.TheVariants.{Usage, Config, Read, OutOfMemory}

-- why arguments could not be read: for lack of memory, or since one is no text
abbrev pub refusal_of_arguments : ErrorKind → StartFault
refusal_of_arguments kinds.OutOfMemory = OutOfMemory
refusal_of_arguments kind = Usage

-- why the file of the configuration could not be read
abbrev pub refusal_of_file : ErrorKind → StartFault
refusal_of_file kinds.OutOfMemory = OutOfMemory
refusal_of_file kind = Read

-- a configuration, or why there is none
abbrev pub config_outcome : Result Configuration ConfigFault → Result Configuration StartFault
config_outcome (Ok config) = Ok config
config_outcome (Err fault) = Err (Config fault)

-- whether a program does not start for want of memory, of which one line is told
abbrev pub is_short_of_memory : StartFault → Bool
is_short_of_memory OutOfMemory = true
is_short_of_memory (Config config_faults.OutOfMemory) = true
is_short_of_memory fault = false

-- whether there was no memory for a configuration
abbrev pub is_starved : Result Configuration StartFault → Bool
is_starved (Err (Config fault)) = is_want_of_memory {T = ℕ} (Err fault)
is_starved outcome = false

-- the configuration is the wanted one, unless memory ran out
abbrev pub IsConfigured : Result Configuration StartFault → Result Configuration ConfigFault → Type 0
IsConfigured outcome wanted = MatchBool (is_starved outcome) ⊤ (outcome ≡ config_outcome wanted)

-- what it came to, or why the program ends, without what more there is to say of that
abbrev pub refused_by : {T R : Type 0} → Result T (Ending R) → Result T R
refused_by outcome = result_map_both (λ done. done) (λ ending. ending.refusal) outcome

-- what is told on standard error by a program of this name, of whose use the first text says how it is
abbrev pub start_message : List ℕ → List ℕ → StartFault → List ℕ
start_message usage program Usage = usage
start_message usage program (Config config_faults.OutOfMemory) = program ++ codes ": out of memory"
start_message usage program (Config fault) = program ++ (codes ": config: " ++ config_fault_name fault)
start_message usage program Read = program ++ codes ": read failed"
start_message usage program OutOfMemory = program ++ codes ": out of memory"
