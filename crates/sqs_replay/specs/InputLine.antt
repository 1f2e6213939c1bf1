-- A line of the replay's input: a moment, a space, an action, a space, and the body (this project's own format).
use Rattle.std.specs.Prelude.{◌≡◌, ℕ, ◌==◌, ◌^◌, Bool, true, ◌&&◌, nat_lt, nat_le, is_some, if◌then◌else◌, List, ◌∷◌, ◌++◌, length, position, Option, Some, None, Result, Ok, Err}
use Rattle.std.specs.List.{list_all, before_first, after_first}
use Rattle.message.specs.Name.{is_letter}
use Rattle.message.specs.declared.fault.Fault.{Fault}
use Rattle.message.specs.declared.fault.Fault.TheVariants.{SerializationException}
use Rattle.queue_config.specs.Decimal.{decimal_of}
use Rattle.aws_json.specs.Steps.{◌>>=◌}
use Rattle.sqs_replay.specs.declared.input_line.InputLine.{InputLine}

-- milliseconds, the action's text, and the bytes of the body
pub record LineParts : Type 0 where
  pub at : ℕ
  pub action : List ℕ
  pub body : List ℕ

abbrev pub parts_of : InputLine → LineParts
parts_of line = record { at = line.at; action = line.action.now; body = line.body.now }

abbrev pub space : ℕ
space = 32

abbrev pub is_space : ℕ → Bool
is_space c = c == space

-- what stands before the first space, and what stands after it
abbrev pub cut : List ℕ → Result (List ℕ × List ℕ) Fault
cut text = if is_some (position is_space text) then Ok (before_first is_space text, after_first is_space text) else Err SerializationException

abbrev pub within_moments : Option ℕ → Result ℕ Fault
within_moments None = Err SerializationException
within_moments (Some n) = if nat_lt n (2 ^ 62) then Ok n else Err SerializationException

-- 1 to 19 decimal digits, below 2 ^ 62
abbrev pub moment_read : List ℕ → Result ℕ Fault
moment_read text = within_moments (decimal_of 19 text)

-- 1 to 64 ASCII letters
abbrev pub is_action : List ℕ → Bool
is_action text = nat_le 1 (length text) && nat_le (length text) 64 && list_all is_letter text

abbrev pub action_of : List ℕ → Result (List ℕ) Fault
action_of text = if is_action text then Ok text else Err SerializationException

-- the parts of a line, or a SerializationException
abbrev pub input_line_of : List ℕ → Result LineParts Fault
input_line_of line = do
  front ← cut line
  back ← cut front.1
  moment ← moment_read front.0
  action ← action_of back.0
  Ok (record { at = moment; action = action; body = back.1 })

-- the same as a relation: decimal digits, a space, letters, a space, and any bytes
pub record IsInputLine (line : List ℕ) (parts : LineParts) : Type 0 where
  pub digits : List ℕ
  pub text : line ≡ digits ++ space ∷ (parts.action ++ space ∷ parts.body)
  pub moment : moment_read digits ≡ Ok parts.at
  pub action : is_action parts.action ≡ true
