-- What TOML says of the empty text.
use Rattle.std.proofs.Common.{◌≡◌, [], Some, refl}
use Rattle.toml.specs.Data.{no_members}
use Rattle.toml.specs.Errors.{IsBlank}
use Rattle.toml.specs.Parse.{parse_document}
use Rattle.toml.proofs.OnLiterals.{toml_on_literals}

pub parse_document-empty : parse_document [] ≡ Some no_members
unfolding toml_on_literals
parse_document-empty = refl

pub empty_is_blank : IsBlank []
unfolding toml_on_literals
empty_is_blank = refl
