-- What the program makes of its arguments, and what it tells of how it ended: this project's own choice.
use Rattle.std.specs.Prelude.{ℕ, List, [], ◌∷◌, ◌++◌, codes, Option, Some, None, Result, Ok, Err}
use Rattle.sqs_replay.specs.Fault.{fault_text}
use Rattle.sqs_replay.specs.declared.program.Refusal.{Refusal}
use Rattle.sqs_replay.specs.declared.program.Refusal.TheVariants.{Start, Replay}
use Rattle.sqs_replay.specs.declared.program.Wanted.{Wanted}
use Rattle.sqs_replay.specs.declared.program.Wanted.TheVariants as wanted
use Rattle.startup.specs.Option.{option_of}
use Rattle.startup.specs.Start.{start_message}
use Rattle.startup.specs.declared.ending.StartFault.{StartFault}
use Rattle.startup.specs.declared.ending.StartFault.TheVariants.{Usage}
use Rattle.startup.specs.declared.option.ProgramOption.{ProgramOption}
use Rattle.startup.specs.declared.option.ProgramOption.TheVariants as options

-- what is asked for by an argument, which is this option if it is one
abbrev pub wanted_of : Wanted → Option ProgramOption → Result Wanted StartFault
wanted_of asked None = Ok asked
wanted_of asked (Some options.Help) = Ok wanted.Help
wanted_of asked (Some options.Version) = Ok wanted.Version
wanted_of asked (Some options.Unknown) = Err Usage

-- What the arguments ask for, the first of which is the program's own name: an option, the path of the configuration, or neither. Each has a text, and
-- `asking` makes a run of a path.
abbrev pub arguments_among : {X : Type 0} → (X → List ℕ) → (X → Wanted) → List X → Result Wanted StartFault
arguments_among text asking [] = Ok (wanted.Run None)
arguments_among text asking (program ∷ []) = Ok (wanted.Run None)
arguments_among text asking (program ∷ path ∷ []) = wanted_of (asking path) (option_of (text path))
arguments_among text asking (program ∷ path ∷ more ∷ rest) = Err Usage

-- what is told on standard error
abbrev pub message_of : Refusal → List ℕ
message_of (Start fault) = start_message (codes "usage: sqs_replay [config.toml]") (codes "sqs_replay") fault
message_of (Replay fault) = codes "sqs_replay: " ++ fault_text fault

-- the status that the program ends with
abbrev pub status_of : {T : Type 0} → Result T Refusal → ℕ
status_of (Ok x) = 0
status_of (Err (Start Usage)) = 2
status_of (Err _) = 1
