-- Which marks a turn tells, so that each is told once.
use Rattle.std.specs.Prelude.{◌≡◌, ◌⊎◌, ℕ, List, [], ◌∷◌, take, length, ◌≤◌}
use Rattle.journal.specs.declared.entry.Entry.{Entry}
use Rattle.queue_core.specs.Queue.{QueueHistory}
use Rattle.desk.specs.Printed.{TurnReport, marks_of, after_marks, HasBegunAnew, GoOn}

-- the marks that turns have told, joined behind others, from the last checkpoint on
abbrev pub joined : List (Entry ℕ) → List TurnReport → List (Entry ℕ)
joined before [] = before
joined before (t ∷ ts) = joined (after_marks before t.marks) ts

-- marks are the queue's first so many, or its journal has begun anew behind them, and nothing of it was told yet
abbrev pub AreTold : List (Entry ℕ) → QueueHistory → ℕ → Type 0
AreTold marks q told = (marks ≡ marks_of (take told q.lines)) ⊎ ((told ≡ 0) × HasBegunAnew marks q)

-- what a press stands for is a record of the queue's first so many marks, or of those behind which its journal has begun anew
pub record IsPrinted (stands : List TurnReport → Type 0) (q : QueueHistory) (told : ℕ) : Type 0 where
  pub turns : List TurnReport
  pub stood : stands turns
  pub record_of : GoOn q.rules [] turns
  pub marks : AreTold (joined [] turns) q told
  pub within : told ≤ length q.lines
