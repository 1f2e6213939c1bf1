-- All lines that are too long are answered alike, and change nothing. These laws are members of an impl, which may cite specs/ alone, so they stand here and
-- not in proofs/.
use Rattle.std.specs.Prelude.{◌≡◌, ℕ, ◌<◌, List, length, Result, Err}
use Rattle.std.proofs.Common.{sym, ap, ◌∙◌}
use Rattle.std.proofs.lemmas.Bool.{lt-ltb}
use Rattle.message.specs.declared.fault.Fault.{Fault}
use Rattle.message.specs.declared.fault.Fault.TheVariants.{SerializationException}
use Rattle.sqs_replay.specs.declared.answer.Timed.{Timed}
use Rattle.sqs_replay.specs.Cutting.{longest_line}
use Rattle.redrive.specs.House.{House}
use Rattle.sqs_replay.specs.Served.{asked_of, answer_text, line_served, text_of_line, house_of_line}

asked_of-long : (line : List ℕ) → longest_line < length line → asked_of line ≡ Err SerializationException
asked_of-long line long = rw (lt-ltb longest_line (length line) long)

pub text_of_long_line : (w : House) (first second : List ℕ) → longest_line < length first → longest_line < length second
    → text_of_line w first ≡ text_of_line w second
text_of_long_line w first second one two =
    ap (λ (r : Result Timed Fault). answer_text (line_served w r).answer) (asked_of-long first one ∙ sym (asked_of-long second two))

pub house_of_long_line : (w : House) (first second : List ℕ) → longest_line < length first → longest_line < length second
    → house_of_line w first ≡ house_of_line w second
house_of_long_line w first second one two =
    ap (λ (r : Result Timed Fault). (line_served w r).house) (asked_of-long first one ∙ sym (asked_of-long second two))
