-- How many operations a call of the registry may cost: as the queues that it comes to, each by what it makes of it (this project's own).
use Rattle.std.specs.Prelude.{ℕ, ◌+◌, ◌≤◌, if◌then◌else◌, List, [], ◌∷◌, sum_by, Result}
use Rattle.std.specs.Option.{option_map_or}
use Rattle.message.specs.declared.fault.Fault.{Fault}
use Rattle.message.specs.Fault.{is_out_of_memory}
use Rattle.queue_core.specs.declared.command.Command.{Command}
use Rattle.queue_core.specs.declared.command.Command.TheVariants.{Settle}
use Rattle.queue_core.specs.Queue.{QueueHistory, at_moment, after_answer}
use Rattle.queue_core.specs.Cost.{most_ticks}
use Rattle.redrive.specs.declared.moved.Moved.{Moved}
use Rattle.redrive.specs.declared.steps.HouseStep.{HouseStep}
use Rattle.redrive.specs.House.{House, queue_of_uid, step_refusal, closed_queue, first_parcel_in, delivery_of, accepted_number, needs_confirmation, IsMoved}
use Rattle.redrive.specs.HouseSteps.{HouseAnswer, HouseChange, Nothing, Performs, Opens, Closes, Passes, act_of, house_after}

-- a change of the queue of a uid; nothing where it is not there
abbrev pub change_ticks : House → ℕ → (QueueHistory → QueueHistory) → ℕ
change_ticks w uid change = option_map_or (λ q. most_ticks q (change q)) (queue_of_uid w uid) 0

-- a command that comes to the queue of a uid, and is answered so
abbrev pub command_ticks : {T : Type 0} → House → ℕ → ℕ → Command → Result T Fault → ℕ
command_ticks w uid at command answer = change_ticks w uid (λ q. after_answer q at command answer)

-- the same, where nothing refuses it before
abbrev pub step_ticks : {T : Type 0} → House → ℕ → ℕ → Command → Result T Fault → ℕ
step_ticks w uid at command answer = option_map_or (λ fault. 0) (step_refusal w uid command) (command_ticks w uid at command answer)

-- a deletion, which closes its queue
abbrev pub after_deletion : {T : Type 0} → QueueHistory → ℕ → Result T Fault → QueueHistory
after_deletion q at answer = if is_out_of_memory answer then at_moment q at else closed_queue q at

abbrev pub deletion_ticks : {T : Type 0} → House → ℕ → ℕ → Result T Fault → ℕ
deletion_ticks w uid at answer = change_ticks w uid (λ q. after_deletion q at answer)

-- the two halves of a move: the one at the queue that the parcel goes to, the other at its source
abbrev pub hand_over_ticks : {T : Type 0} → House → ℕ → ℕ → Result T Fault → ℕ
hand_over_ticks w source at answer =
    option_map_or (λ p. command_ticks w (delivery_of w source p).uid at (delivery_of w source p).command answer) (first_parcel_in w source) 0

abbrev pub confirm_ticks : {T : Type 0} → House → ℕ → ℕ → Result T Fault → ℕ
confirm_ticks w source at answer = option_map_or (λ number. command_ticks w source at (Settle number) answer) (accepted_number w source) 0

-- a move costs what its halves do: from so many operations before it to so many after it
pub record CostsMove (old : House) (source at : ℕ) (answer : Result Moved Fault) (new : House) (before after : ℕ) : Type 0 where
  pub move : IsMoved old source at answer new
  pub within : after ≤ before + hand_over_ticks old source at move.handed_over
      + (if needs_confirmation move.handed_over then confirm_ticks move.between source at answer else 0)

-- time, for every queue
abbrev pub moment_ticks : ℕ → List QueueHistory → ℕ
moment_ticks at queues = sum_by (λ q. most_ticks q (at_moment q at)) queues

-- a change that is answered so, and a step
abbrev pub ticks_of_change : House → ℕ → HouseChange → HouseAnswer → ℕ
ticks_of_change w at Nothing answer = 0
ticks_of_change w at (Performs uid command) answer = command_ticks w uid at command answer
ticks_of_change w at (Opens name settings) answer = 0
ticks_of_change w at (Closes uid) answer = deletion_ticks w uid at answer
ticks_of_change w at Passes answer = moment_ticks at w.queues

abbrev pub ticks_of_step : House → HouseStep → HouseAnswer → ℕ
ticks_of_step w step answer = ticks_of_change w (act_of w step).at (act_of w step).change answer

-- steps with these answers, one after another
abbrev pub ticks_of_steps : House → List HouseStep → List HouseAnswer → ℕ
ticks_of_steps w [] answers = 0
ticks_of_steps w (step ∷ steps) [] = 0
ticks_of_steps w (step ∷ steps) (answer ∷ answers) = ticks_of_step w step answer + ticks_of_steps (house_after w step answer) steps answers
