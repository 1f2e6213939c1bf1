-- What the program makes of its arguments, and what it tells of how it ended: this project's own choice.
use Rattle.std.specs.Prelude.{ℕ, ◌==◌, nat_le, if◌then◌else◌, is_some, List, ◌∷◌, [], ◌++◌, length, codes, Option, Some, None, Result, Ok, Err}
use Rattle.std.specs.Option.{option_and_then, option_map_or}
use Rattle.std.specs.declared.env.VarError.{VarError}
use Rattle.std.specs.declared.env.VarError.TheVariants as variables
use Rattle.std.specs.declared.io.ErrorKind.{ErrorKind}
use Rattle.std.specs.declared.io.ErrorKind.TheVariants as kinds
use Rattle.queue_config.specs.Decimal.{decimal_of}
use Rattle.request_log.specs.Level.{level_named}
use Rattle.request_log.specs.declared.level.Level.{Level}
use Rattle.request_log.specs.declared.level.Level.TheVariants as levels
use Rattle.startup.specs.Option.{option_of}
use Rattle.startup.specs.Start.{start_message}
use Rattle.startup.specs.declared.ending.StartFault.{StartFault}
use Rattle.startup.specs.declared.ending.StartFault.TheVariants.{Usage, OutOfMemory}
use Rattle.startup.specs.declared.option.ProgramOption.{ProgramOption}
use Rattle.startup.specs.declared.option.ProgramOption.TheVariants.{Help, Version, Unknown}
use Rattle.sqs_server.specs.declared.arguments.Refusal.{Refusal}
use Rattle.sqs_server.specs.declared.arguments.Refusal.TheVariants.{Start, Listen}
use Rattle.sqs_server.specs.declared.arguments.Refusal.TheVariants as refusals
use Rattle.sqs_server.specs.declared.arguments.Variable.{Variable}
use Rattle.sqs_server.specs.declared.arguments.Variable.TheVariants.{Requests, Statistics, Log}
use Rattle.sqs_server.specs.declared.arguments.Arguments.{Arguments}
use Rattle.sqs_server.specs.declared.arguments.Environment.{Environment}
use Rattle.sqs_server.specs.declared.arguments.Wanted.{Wanted}
use Rattle.sqs_server.specs.declared.arguments.Wanted.TheVariants as wanted

-- how many connections a text asks for: 1 to 9 decimal digits, and not 0
abbrev pub count_of : List ℕ → Option ℕ
count_of text = option_and_then (λ count. if count == 0 then None else Some count) (decimal_of 9 text)

-- What is asked for by a first argument, the option that it is, and the number of connections, where there is one: an option stands alone.
abbrev pub wanted_of : Arguments → Option ProgramOption → Result Wanted StartFault
wanted_of arguments None = Ok (wanted.Serve arguments)
wanted_of arguments (Some Help) = if is_some arguments.connections then Err Usage else Ok wanted.Help
wanted_of arguments (Some Version) = if is_some arguments.connections then Err Usage else Ok wanted.Version
wanted_of arguments (Some Unknown) = Err Usage

-- What the arguments ask for, the first of which is the program's own name: an option or a path, and maybe how many connections. Each has a text, and
-- `asking` puts the two together.
abbrev pub arguments_among : {X : Type 0} → (X → List ℕ) → (X → Option ℕ → Arguments) → List X → Result Wanted StartFault
arguments_among text asking (program ∷ path ∷ []) = wanted_of (asking path None) (option_of (text path))
arguments_among text asking (program ∷ path ∷ count ∷ []) =
    option_map_or (λ n. wanted_of (asking path (Some n)) (option_of (text path))) (count_of (text count)) (Err Usage)
arguments_among text asking given = Err Usage

-- the port that a variable of the environment names: 1 to 5 decimal digits, up to 65,535; 0 is any that is free
abbrev pub port_of : List ℕ → Option ℕ
port_of text = option_and_then (λ port. if nat_le port 65535 then Some port else None) (decimal_of 5 text)

-- the names of the variables of the environment
abbrev pub variable_name : Variable → List ℕ
variable_name Requests = codes "JUTKARIQ_PORT"
variable_name Statistics = codes "JUTKARIQ_STATISTICS_PORT"
variable_name Log = codes "JUTKARIQ_LOG"

-- the port of a variable that may not be set; the empty text counts as not set
abbrev pub port_among : Variable → ℕ → Result (List ℕ) VarError → Result ℕ Refusal
port_among variable usual (Ok text) =
    if length text == 0 then Ok usual else option_map_or (λ port. Ok port) (port_of text) (Err (refusals.Variable variable))
port_among variable usual (Err variables.NotPresent) = Ok usual
port_among variable usual (Err variables.NotUnicode) = Err (refusals.Variable variable)
port_among variable usual (Err variables.OutOfMemory) = Err (Start OutOfMemory)

-- which requests are told: those that the variable names, or those that were refused where it is not set, as the empty text counts
abbrev pub level_among : Result (List ℕ) VarError → Result Level Refusal
level_among (Ok word) = if length word == 0 then Ok levels.Refused else option_map_or (λ level. Ok level) (level_named word) (Err (refusals.Variable Log))
level_among (Err variables.NotPresent) = Ok levels.Refused
level_among (Err variables.NotUnicode) = Err (refusals.Variable Log)
level_among (Err variables.OutOfMemory) = Err (Start OutOfMemory)

-- What the environment says: the port for requests, 9324 where none is named, that for statistics, 9325 where none is named, and which requests are
-- told. The first value that cannot be is refused.
abbrev pub environment_of : Result ℕ Refusal → Result ℕ Refusal → Result Level Refusal → Result Environment Refusal
environment_of (Ok port) (Ok statistics_port) (Ok level) = Ok record { port = port; statistics_port = statistics_port; level = level }
environment_of (Ok port) (Ok statistics_port) (Err refusal) = Err refusal
environment_of (Ok port) (Err refusal) level = Err refusal
environment_of (Err refusal) statistics_port level = Err refusal

abbrev pub environment_among : Result (List ℕ) VarError → Result (List ℕ) VarError → Result (List ℕ) VarError → Result Environment Refusal
environment_among port statistics_port log = environment_of (port_among Requests 9324 port) (port_among Statistics 9325 statistics_port) (level_among log)

-- why nothing can be served: for lack of memory, or since the system refused
abbrev pub refusal_of_system : ErrorKind → Refusal
refusal_of_system kinds.OutOfMemory = Start OutOfMemory
refusal_of_system kind = Listen

-- what is told on standard error
abbrev pub message_of : Refusal → List ℕ
message_of (Start fault) = start_message (codes "usage: sqs_server config.toml [connections]") (codes "sqs_server") fault
message_of Listen = codes "sqs_server: cannot listen"
message_of (refusals.Variable Requests) = codes "sqs_server: " ++ (variable_name Requests ++ codes " must be a port number, 0 to 65535")
message_of (refusals.Variable Statistics) = codes "sqs_server: " ++ (variable_name Statistics ++ codes " must be a port number, 0 to 65535")
message_of (refusals.Variable Log) = codes "sqs_server: " ++ (variable_name Log ++ codes " must be refused, all or none")

-- the status that the program ends with
abbrev pub status_of : {T : Type 0} → Result T Refusal → ℕ
status_of (Ok x) = 0
status_of (Err (Start Usage)) = 2
status_of (Err (refusals.Variable variable)) = 2
status_of (Err Listen) = 3
status_of (Err refusal) = 1
