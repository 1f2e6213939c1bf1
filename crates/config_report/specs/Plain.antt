-- Texts for a terminal: this project's own choice.
use Rattle.std.specs.Prelude.{ℕ, not, List}
use Rattle.std.specs.Char.{is_control}
use Rattle.std.specs.List.{filter}
use Rattle.std.specs.Str.{chars, encode_utf8_all}

-- the text of all characters of a text but the control characters
abbrev pub without_controls : List ℕ → List ℕ
without_controls text = encode_utf8_all (filter (λ c. not (is_control c)) (chars text))
