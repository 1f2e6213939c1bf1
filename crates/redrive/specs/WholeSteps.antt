-- Steps of everything with whole journals: what the same steps with the same answers leave of it where no journal ever begins anew.
use Rattle.std.specs.Prelude.{⊤, ℕ, ◌==◌, List, [], ◌∷◌, Option, Some, None, Result}
use Rattle.std.specs.List.{find}
use Rattle.message.specs.declared.fault.Fault.{Fault}
use Rattle.queue_core.specs.declared.command.Command.{Command}
use Rattle.queue_core.specs.Queue.{QueueHistory}
use Rattle.queue_core.specs.Standing.{StandsFor}
use Rattle.queue_core.specs.Whole.{whole_after}
use Rattle.redrive.specs.House.{queue_of_uid, with_queue_changed}
use Rattle.redrive.specs.History.{AllQueues}
use Rattle.redrive.specs.HouseSteps.{HouseAnswer, HouseChange, Performs, all_changed}
use Rattle.redrive.specs.HistorySteps.{HistoryStep, act_in_history}

-- a command for the queue of a uid, which is answered so
abbrev pub with_command : {T : Type 0} → AllQueues → ℕ → ℕ → Command → Result T Fault → AllQueues
with_command all uid at command answer = record all { house = with_queue_changed all.house uid (λ q. whole_after q at command answer) }

-- what a change leaves
abbrev pub whole_changed : AllQueues → ℕ → HouseChange → HouseAnswer → AllQueues
whole_changed all at (Performs uid command) answer = with_command all uid at command answer
whole_changed all at change answer = all_changed all at change answer

abbrev pub whole_after_step : AllQueues → HistoryStep → HouseAnswer → AllQueues
whole_after_step all step answer = whole_changed all (act_in_history all step).at (act_in_history all step).change answer

abbrev pub whole_after_steps : AllQueues → List HistoryStep → List HouseAnswer → AllQueues
whole_after_steps all [] answers = all
whole_after_steps all (step ∷ steps) [] = all
whole_after_steps all (step ∷ steps) (answer ∷ answers) = whole_after_steps (whole_after_step all step answer) steps answers

-- one is found in both, and the first stands for the second, or in neither
abbrev pub StandsIn : Option QueueHistory → Option QueueHistory → Type 0
StandsIn None None = ⊤
StandsIn None (Some w) = ⊥
StandsIn (Some q) None = ⊥
StandsIn (Some q) (Some w) = StandsFor q w

-- of each uid
pub record StandForWhole (all whole : AllQueues) : Type 0 where
  pub there : (uid : ℕ) → StandsIn (queue_of_uid all.house uid) (queue_of_uid whole.house uid)
  pub deleted : (uid : ℕ) → StandsIn (find (λ q. q.uid == uid) all.deleted) (find (λ q. q.uid == uid) whole.deleted)
