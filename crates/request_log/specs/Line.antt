-- The lines for a request, and for a connection or a port: this project's own.
use Rattle.std.specs.Prelude.{ℕ, ◌/◌, ◌%◌, List, [], ◌∷◌, ◌++◌, codes, decimal, Option, Some, None, option_and_then}
use Rattle.std.specs.List.{concat}
use Rattle.std.specs.Option.{option_map_or}
use Rattle.std.specs.Result.{result_ok}
use Rattle.message.specs.Name.{queue_name_of}
use Rattle.serde_json.specs.Data.{Data}
use Rattle.serde_json.specs.Find.{get, as_str}
use Rattle.aws_json.specs.Members.{object_of, text_in}
use Rattle.aws_json.specs.Request.{name_part}

-- ---- the time of day

abbrev pub two_digits : ℕ → List ℕ
two_digits n = decimal (n / 10 % 10) ++ decimal (n % 10)

abbrev pub three_digits : ℕ → List ℕ
three_digits n = decimal (n / 100 % 10) ++ two_digits n

-- at a moment in milliseconds since 1970 (UTC)
abbrev pub time_of_day : ℕ → List ℕ
time_of_day at =
    concat (two_digits (at / 3_600_000 % 24) ∷ codes ":" ∷ two_digits (at / 60_000 % 60) ∷ codes ":" ∷ two_digits (at / 1000 % 60)
    ∷ codes "." ∷ three_digits (at % 1000) ∷ codes "Z" ∷ [])

-- ---- the queue that a request names

-- the JSON object that a body is, where it is one
abbrev pub object_in : List ℕ → Option Data
object_in body = result_ok (object_of body)

-- the text that names it in such an object: that of the QueueUrl, and of the QueueName only where there is no QueueUrl at all
abbrev pub told_name : Data → Option (List ℕ)
told_name d = option_map_or as_str (get (codes "QueueUrl") d) (text_in (codes "QueueName") d)

-- the part of a text after its last slash, where that is a queue's name
abbrev pub queue_of_text : List ℕ → Option (List ℕ)
queue_of_text text = result_ok (queue_name_of (name_part text))

abbrev pub queue_of : Data → Option (List ℕ)
queue_of d = option_and_then queue_of_text (told_name d)

abbrev pub told_queue : List ℕ → Option (List ℕ)
told_queue body = option_and_then queue_of (object_in body)

-- ---- the line

-- a queue, where the request names one
abbrev pub queue_text : Option (List ℕ) → List ℕ
queue_text (Some name) = name
queue_text None = codes "-"

-- the name of a refusal and what was wrong, where the request was refused
abbrev pub refusal_text : Option (List ℕ × List ℕ) → List ℕ
refusal_text None = []
refusal_text (Some refusal) = codes " " ++ (refusal.0 ++ (codes ": " ++ refusal.1))

-- when it was answered, its action, its queue, its status, and why it was refused
abbrev pub line_text : ℕ → List ℕ → Option (List ℕ) → ℕ → Option (List ℕ × List ℕ) → List ℕ
line_text at action queue status refusal =
    concat (time_of_day at ∷ codes " " ∷ action ∷ codes " " ∷ queue_text queue ∷ codes " " ∷ decimal status ∷ refusal_text refusal ∷ [])

-- what happened to a connection or a port, and when
abbrev pub notice_text : ℕ → List ℕ → List ℕ → List ℕ
notice_text at about words = concat (time_of_day at ∷ codes " " ∷ about ∷ codes ": " ∷ words ∷ [])
