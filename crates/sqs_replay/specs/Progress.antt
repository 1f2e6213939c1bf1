-- How far a replay has come, and where it stops.
use Rattle.std.specs.Prelude.{◌≡◌, ℕ, ◌+◌, ◌^◌, ◌≤◌, ◌⊎◌, ⊤, List, [], ◌∷◌, ◌++◌, Option, Result, Err}
use Rattle.std.specs.Io.KnownBytes.{Appends, Consumes, IsAtEnd}
use Rattle.sqs_replay.specs.declared.fault.ReplayFault.{ReplayFault}
use Rattle.sqs_replay.specs.declared.fault.ReplayFault.TheVariants.{Read, Write, OutOfMemory}
use Rattle.sqs_replay.specs.Failures.{counted, AppendsPart, AppendsAndPart}
use Rattle.sqs_replay.specs.Cutting.{whole_lines, lines_of}
use Rattle.sqs_replay.specs.Answers.{texts, state_after, replay_text, replay_state}

-- All of the input was read, and answered: `left` is of the inlet, `taken` of the outlet, before the run and after it.
pub record AnswersAll {S : Type 0} (text : S → List ℕ → List ℕ) (after : S → List ℕ → S) (start end : S)
    (left_before left_after taken_before taken_after : Option (List ℕ)) (input : List ℕ) : Type 0 where
  pub consumed : Consumes left_before left_after input
  pub ended : IsAtEnd left_after
  pub appended : Appends taken_before taken_after (replay_text text after start input)
  pub state_is : end ≡ replay_state after start input

-- The run stopped after it had read these bytes. A part of the text of the whole lines was appended, or, where the
-- input had ended, of all lines.
pub record AnswersPart {S : Type 0} (text : S → List ℕ → List ℕ) (after : S → List ℕ → S) (start : S)
    (left_before left_after taken_before taken_after : Option (List ℕ)) (read : List ℕ) : Type 0 where
  pub consumed : Consumes left_before left_after read
  pub appended : AppendsPart taken_before taken_after (texts text after start (whole_lines read))
      ⊎ (IsAtEnd left_after × AppendsPart taken_before taken_after (replay_text text after start read))

-- The run stopped since it could read no more than these bytes: exactly their whole lines are answered, and what comes after the last line feed is not.
pub record AnswersWhole {S : Type 0} (text : S → List ℕ → List ℕ) (after : S → List ℕ → S) (start end : S)
    (left_before left_after taken_before taken_after : Option (List ℕ)) (read : List ℕ) : Type 0 where
  pub consumed : Consumes left_before left_after read
  pub appended : Appends taken_before taken_after (texts text after start (whole_lines read))
  pub state_is : end ≡ state_after after start (whole_lines read)

-- A run stopped where these lines were still to be answered from this state on, and `front` is the text of those before them. All of that was written, and
-- of the text of the first of them a part at most.
abbrev pub StopsBefore : {S : Type 0} → (S → List ℕ → List ℕ) → S → Option (List ℕ) → Option (List ℕ) → List ℕ → List (List ℕ) → Type 0
StopsBefore text state taken_before taken_after front [] = Appends taken_before taken_after front
StopsBefore text state taken_before taken_after front (line ∷ lines) = AppendsAndPart taken_before taken_after front (text state line)

-- A run over these lines stopped: those that are done were answered whole, and the rest were still to be answered.
pub record StopsAmong {S : Type 0} (text : S → List ℕ → List ℕ) (after : S → List ℕ → S) (start : S) (taken_before taken_after : Option (List ℕ))
    (lines : List (List ℕ)) : Type 0 where
  pub done : List (List ℕ)
  pub rest : List (List ℕ)
  pub split : lines ≡ done ++ rest
  pub stop : StopsBefore text (state_after after start done) taken_before taken_after (texts text after start done) rest

-- The run stopped after it had read these bytes, among the whole lines of them, or, where the input had ended, among all their lines.
pub record Stops {S : Type 0} (text : S → List ℕ → List ℕ) (after : S → List ℕ → S) (start : S)
    (left_before left_after taken_before taken_after : Option (List ℕ)) (read : List ℕ) : Type 0 where
  pub consumed : Consumes left_before left_after read
  pub among : StopsAmong text after start taken_before taken_after (whole_lines read)
      ⊎ (IsAtEnd left_after × StopsAmong text after start taken_before taken_after (lines_of read))

-- What a run's outcome says of the inlet's counts of failures and of reads: one failure more where reading failed, and
-- none where it was read 2^32 times, which is a fault too.
abbrev pub InletHasCause : {T : Type 0} → Result T ReplayFault → ℕ → ℕ → ℕ → ℕ → Type 0
InletHasCause (Err Read) before after reads_before reads_after = (after ≡ counted 1 before) ⊎
    ((after ≡ before) × (reads_after ≡ counted (2 ^ 32) reads_before))
InletHasCause _ before after reads_before reads_after = after ≡ before

-- what it says of the outlet's count of failures: one more where writing failed
abbrev pub OutletHasCause : {T : Type 0} → Result T ReplayFault → ℕ → ℕ → Type 0
OutletHasCause (Err Write) before after = after ≡ counted 1 before
OutletHasCause _ before after = after ≡ before

-- what it says of a device's count of refused memory: it may rise by one where memory ran out, and else stays
abbrev pub MemoryHasCause : {T : Type 0} → Result T ReplayFault → ℕ → ℕ → Type 0
MemoryHasCause (Err OutOfMemory) before after = (after ≡ before) ⊎ (after ≡ counted 1 before)
MemoryHasCause _ before after = after ≡ before

-- what holds where the run ended by the fault Read
abbrev pub OnReadFault : {T : Type 0} → Result T ReplayFault → Type 0 → Type 0
OnReadFault (Err Read) P = P
OnReadFault _ P = ⊤

-- Why a run could read no more than so many bytes: one read failed, or none did and there were 2^32 reads, each of which took one byte at least.
abbrev pub ReadingHasCause : ℕ → ℕ → ℕ → ℕ → ℕ → Type 0
ReadingHasCause before after reads_before reads_after bytes = (after ≡ counted 1 before) ⊎
    ((after ≡ before) × (reads_after ≡ counted (2 ^ 32) reads_before) × (2 ^ 32 ≤ bytes))
