-- The dead letters of a queue, which move on after a line that names it.
use Rattle.std.specs.Prelude.{◌≡◌, ℕ, suc, zero, Bool, true, false, if◌then◌else◌, Result, Ok, Err}
use Rattle.std.specs.Option.{option_map_or}
use Rattle.message.specs.declared.fault.Fault.{Fault}
use Rattle.queue_core.specs.Messages.{message_count}
use Rattle.redrive.specs.declared.moved.Moved.{Moved}
use Rattle.redrive.specs.declared.moved.Moved.TheVariants as moved
use Rattle.redrive.specs.House.{House, queue_of_uid, arrive_answer, house_after_hand_over, needs_confirmation, confirm_answer, house_after_confirm, move_answer}

-- ---- one parcel

-- the house between the halves of a move: the parcel is handed over, and not confirmed
abbrev pub house_between : House → ℕ → ℕ → House
house_between w source at = house_after_hand_over w source at (arrive_answer w source at)

abbrev pub confirmed_house : House → ℕ → ℕ → House
confirmed_house between source at = house_after_confirm between source at (confirm_answer between source at)

-- what a move leaves
abbrev pub house_after_move : House → ℕ → ℕ → House
house_after_move w source at =
    if needs_confirmation (arrive_answer w source at) then confirmed_house (house_between w source at) source at else house_between w source at

-- ---- one after another

-- whether another parcel is tried after this answer: none is where none waits, or where a queue refuses
abbrev pub goes_on : Result Moved Fault → Bool
goes_on (Ok moved.None) = false
goes_on (Ok _) = true
goes_on (Err fault) = false

-- what so many parcels at most leave, until none waits or a queue refuses
abbrev pub some_moves : ℕ → House → ℕ → ℕ → House
some_moves zero w source at = w
some_moves (suc n) w source at =
    if goes_on (move_answer w source at) then some_moves n (house_after_move w source at) source at else house_after_move w source at

-- how many messages the queue of a uid ever had: no more of them can wait than that
abbrev pub message_count_in : House → ℕ → ℕ
message_count_in w uid = option_map_or (λ q. message_count q.lines) (queue_of_uid w uid) 0

-- what every parcel of the queue of a uid leaves
abbrev pub all_moves : House → ℕ → ℕ → House
all_moves w source at = some_moves (message_count_in w source) w source at

-- one of the moves, behind so many others, was refused, and left this house
pub record WasRefused (w : House) (source at : ℕ) (left : House) : Type 0 where
  pub moved : ℕ
  pub fault : Fault
  pub refused : move_answer (some_moves moved w source at) source at ≡ Err fault
  pub last : left ≡ house_after_move (some_moves moved w source at) source at
