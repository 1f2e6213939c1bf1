-- Options among the arguments of a program: this project's own choice, after what most programs have.
use Rattle.std.specs.Prelude.{ℕ, nat_eq, ◌||◌, if◌then◌else◌, List, codes, Option, Some, None}
use Rattle.std.specs.List.{starts_with}
use Rattle.std.specs.Str.{bytes_eq}
use Rattle.startup.specs.declared.option.ProgramOption.{ProgramOption}
use Rattle.startup.specs.declared.option.ProgramOption.TheVariants.{Help, Version, Unknown}

-- the option that an argument is
abbrev pub option_of : List ℕ → Option ProgramOption
option_of argument =
    if bytes_eq argument (codes "-h") || bytes_eq argument (codes "--help") then Some Help
    else if bytes_eq argument (codes "-V") || bytes_eq argument (codes "--version") then Some Version
    else if starts_with nat_eq argument (codes "-") then Some Unknown
    else None
