-- The bytes of a text.
use Rattle.std.specs.Prelude.{ℕ, Bool, true, false, List, string_bytes}
use Rattle.statistics_api.specs.declared.text.AnswerText.{AnswerText}
use Rattle.statistics_api.specs.declared.text.AnswerText.TheVariants.{Written, Constant}

abbrev pub bytes_of : AnswerText → List ℕ
bytes_of (Written text) = string_bytes text
bytes_of (Constant text) = text.now

-- whether it was written for an answer, which takes memory
abbrev pub is_written : AnswerText → Bool
is_written (Written text) = true
is_written (Constant text) = false

-- a status and the bytes of a text
abbrev pub shown : ℕ × AnswerText → ℕ × List ℕ
shown answer = (answer.0, bytes_of answer.1)
