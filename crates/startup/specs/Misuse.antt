-- What is said of arguments that a program does not start with: this project's own choice.
use Rattle.std.specs.Prelude.{ℕ, List, [], ◌∷◌, ◌++◌, codes, Option, Some, None}
use Rattle.config_report.specs.Plain.{without_controls}
use Rattle.startup.specs.Option.{option_of}
use Rattle.startup.specs.declared.ending.StartFault.{StartFault}
use Rattle.startup.specs.declared.ending.StartFault.TheVariants.{Usage}
use Rattle.startup.specs.declared.option.ProgramOption.{ProgramOption}
use Rattle.startup.specs.declared.option.ProgramOption.TheVariants.{Unknown}

-- the first argument, behind the program's own name
abbrev pub first_of : {T : Type 0} → List T → Option T
first_of [] = None
first_of (program ∷ []) = None
first_of (program ∷ (first ∷ rest)) = Some first

abbrev pub unknown_text : List ℕ → List ℕ
unknown_text option = without_controls (codes "there is no option " ++ (option ++ codes "; --help explains"))

-- of a first argument that is this option
abbrev pub option_text : List ℕ → Option ProgramOption → Option (List ℕ)
option_text first (Some Unknown) = Some (unknown_text first)
option_text first option = None

-- of a program that does not start for this, by its first argument
abbrev pub misuse_text : StartFault → Option (List ℕ) → Option (List ℕ)
misuse_text Usage (Some first) = option_text first (option_of first)
misuse_text fault first = None
