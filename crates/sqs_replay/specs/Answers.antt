-- What a replay writes, and what it leaves: `text` answers a line in a state, and `after` is the state after the line.
use Rattle.std.specs.Prelude.{ℕ, List, [], ◌∷◌, ◌++◌}
use Rattle.sqs_replay.specs.Cutting.{lines_of}

-- the texts that answer these lines, one after another
abbrev pub texts : {S : Type 0} → (S → List ℕ → List ℕ) → (S → List ℕ → S) → S → List (List ℕ) → List ℕ
texts text after state [] = []
texts text after state (line ∷ lines) = text state line ++ texts text after (after state line) lines

-- the state after these lines, one after another
abbrev pub state_after : {S : Type 0} → (S → List ℕ → S) → S → List (List ℕ) → S
state_after after state [] = state
state_after after state (line ∷ lines) = state_after after (after state line) lines

-- what answers an input
abbrev pub replay_text : {S : Type 0} → (S → List ℕ → List ℕ) → (S → List ℕ → S) → S → List ℕ → List ℕ
replay_text text after state input = texts text after state (lines_of input)

-- the state after an input
abbrev pub replay_state : {S : Type 0} → (S → List ℕ → S) → S → List ℕ → S
replay_state after state input = state_after after state (lines_of input)
