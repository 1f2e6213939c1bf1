-- What a run has come to behind the bytes that it has read.
use Rattle.std.specs.Prelude.{◌≡◌, ℕ, ◌+◌, List, take, Option}
use Rattle.std.specs.Io.KnownBytes.{Appends}
use Rattle.sqs_replay.specs.Cutting.{longest_line, whole_lines, last_piece}
use Rattle.sqs_replay.specs.Answers.{texts, state_after}

-- After these bytes were read, from this state and these bytes taken on: the state, what is kept of the line that has
-- begun, and the bytes taken.
pub record HasRead {S : Type 0} (text : S → List ℕ → List ℕ) (after : S → List ℕ → S) (start : S) (before : Option (List ℕ)) (read : List ℕ) (state : S)
    (kept : List ℕ) (taken : Option (List ℕ)) : Type 0 where
  pub state_is : state ≡ state_after after start (whole_lines read)
  pub kept_is : kept ≡ take (longest_line + 2) (last_piece read)
  pub appended : Appends before taken (texts text after start (whole_lines read))
