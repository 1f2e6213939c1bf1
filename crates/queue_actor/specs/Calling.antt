-- What an actor does with its own pass: it looks whether polls have to wait, and moves its queue's dead letters.
use Rattle.std.specs.Prelude.{◌≡◌, ◌⊎◌, ℕ, ◌≤◌, ◌==◌, ◌&&◌, nat_lt, Bool, true, false, MatchBool, List, [], ◌∷◌, ◌++◌, Option, Some, None, Result, Ok, Err, is_ok}
use Rattle.message.specs.declared.fault.Fault.{Fault}
use Rattle.message.specs.declared.fault.Fault.TheVariants.{Spent, QueueDoesNotExist}
use Rattle.queue_core.specs.declared.command.Command.{Command}
use Rattle.queue_core.specs.declared.command.Command.TheVariants as commands
use Rattle.queue_core.specs.declared.reply.Reply.{Reply}
use Rattle.queue_core.specs.declared.reply.Reply.TheVariants as replies
use Rattle.queue_core.specs.declared.parcel.Parcel.{Parcel}
use Rattle.desk.specs.declared.view.Call.{Call}
use Rattle.desk.specs.History.{GoesOnFrom}
use Rattle.desk.specs.Views.{Pass, HasCalled, IsSpent, IsKnown, most_tickets}
use Rattle.queue_actor.specs.Answered.{Answered}
use Rattle.queue_actor.specs.declared.parcels.Delivery.{Delivery}
use Rattle.queue_actor.specs.declared.parcels.Delivery.TheVariants as deliveries

-- a call was made with a pass, or its desk is spent
abbrev pub HasAsked : Pass → ℕ → Command → Result Reply Fault → Pass → Type 0
HasAsked before at command reply after = HasCalled before at command reply after ⊎ ((reply ≡ Err Spent) × IsSpent before after)

-- a look shows that nothing is visible and that the in-flight limit is not reached
abbrev pub is_quiet : ℕ → Result Reply Fault → Bool
is_quiet limit (Ok (replies.Looked look)) = (look.gauges.visible == 0) && nat_lt look.gauges.in_flight limit
is_quiet limit _ = false

-- whether the queue is quiet at a moment: the actor looks, unless its last look has shown it and nothing was asked since
abbrev pub Finds : ℕ → ℕ → Bool → Bool → Pass → Pass → Type 0
Finds limit at true found before after = (found ≡ true) × (after ≡ before)
Finds limit at false found before after = (reply : Result Reply Fault) × HasAsked before at commands.Look reply after × (found ≡ is_quiet limit reply)

-- whether a poll that may wait until a time goes on waiting at a moment: that time is to come, and the queue is quiet
abbrev pub KeepsWaiting : ℕ → ℕ → Bool → ℕ → Bool → Pass → Pass → Type 0
KeepsWaiting limit at quiet until keeps before after =
    MatchBool (nat_lt at until) (Finds limit at quiet keeps before after) ((keeps ≡ false) × (after ≡ before))

-- whether the queue is known to be quiet at the moment of a mail, before the polls are looked over: at a tick the actor looks, and else it asks nothing
abbrev pub LooksAtTick : ℕ → ℕ → Bool → Bool → Pass → Pass → Type 0
LooksAtTick limit at is_tick quiet before after =
    MatchBool is_tick (Finds limit at false quiet before after) ((quiet ≡ false) × (after ≡ before))

-- the parcel that a reply hands over
abbrev pub parcel_in : Result Reply Fault → Option Parcel
parcel_in (Ok (replies.Parcel parcel)) = parcel
parcel_in _ = None

-- all tickets of a pass's desk are drawn: it asks nothing any more
abbrev pub HasEnded : Pass → Type 0
HasEnded pass = pass.begun ≡ most_tickets

-- Calls were made with a pass, of which this is true: others may have called in between. No fewer tickets were drawn than the pass knew before: behind an answer of a spent desk no call follows
pub record HasMade (Are : List Call → Type 0) (before after : Pass) : Type 0 where
  pub same_desk : after.desk ≡ before.desk
  pub same_start : after.start ≡ before.start
  pub same_number : after.number ≡ before.number
  pub counted : before.begun ≤ after.begun
  pub goes_on : GoesOnFrom before.seen after.seen
  pub calls : List Call
  pub own : after.mine ≡ before.mine ++ calls
  pub made : Are calls

-- an answer says that a parcel arrived at a moment: its pass is of a desk of the uid that the parcel is for, and its last call is the arrival there, which was accepted
pub record HasArrived (at : ℕ) (parcel : Parcel) (answer : Answered) : Type 0 where
  pub before : Pass
  pub reply : Reply
  pub uid : before.start.uid ≡ parcel.target
  pub accepted : answer.reply ≡ Ok reply
  pub called : HasCalled before at (commands.Arrive parcel) (Ok reply) answer.pass
  pub known : IsKnown answer.pass

-- an answer says that a parcel came too late: its pass is of a desk of the uid that the parcel is for, and its last call is the arrival there at a moment, to which the queue answered that it is closed
pub record HasMissed (at : ℕ) (parcel : Parcel) (answer : Answered) : Type 0 where
  pub before : Pass
  pub uid : before.start.uid ≡ parcel.target
  pub closed : answer.reply ≡ Err QueueDoesNotExist
  pub called : HasCalled before at (commands.Arrive parcel) (Err QueueDoesNotExist) answer.pass
  pub known : IsKnown answer.pass

-- a fact of what shows that a queue is gone, where anything shows it
abbrev pub IfGone : {T : Type 0} → Delivery T → (Option T → Type 0) → Type 0
IfGone (deliveries.Accepted receipt) P = Unit {0}
IfGone (deliveries.Gone shown) P = P shown
IfGone deliveries.Refused P = Unit {0}

-- a fact of what shows that a parcel was accepted
abbrev pub IfAccepted : {T : Type 0} → Delivery T → (T → Type 0) → Type 0
IfAccepted (deliveries.Accepted receipt) P = P receipt
IfAccepted (deliveries.Gone shown) P = Unit {0}
IfAccepted deliveries.Refused P = Unit {0}

-- what deliveries tell: of a parcel at a moment, that it was accepted, and what shows it, that its queue is gone, or that it was refused
module _ {T : Type 0} (told : ℕ → Parcel → Delivery T → Type 0) where
  -- one dead letter is moved: the actor asks for the first parcel and gets one, and delivers it; where it was accepted it is confirmed, and where its queue is gone all that wait for that queue are taken back
  pub record IsMove (at : ℕ) (asks moves : Call) : Type 0 where
    pub times : (asks.at ≡ at) × (moves.at ≡ at)
    pub asked : asks.command ≡ commands.FirstParcel
    pub parcel : Parcel
    pub there : parcel_in asks.reply ≡ Some parcel
    pub moved : ((receipt : T) × told at parcel (deliveries.Accepted receipt) × (moves.command ≡ commands.Settle parcel.origin.number))
        ⊎ ((shown : Option T) × told at parcel (deliveries.Gone shown) × (moves.command ≡ commands.Orphan parcel.target))

  -- the last question for a parcel: there is none, or it was refused; or the desk asks nothing any more
  pub record IsLastQuestion (at : ℕ) (ended : Type 0) (asks : Call) : Type 0 where
    pub time : asks.at ≡ at
    pub asked : asks.command ≡ commands.FirstParcel
    pub stops : (parcel_in asks.reply ≡ None) ⊎ (ended ⊎ ((parcel : Parcel) × (parcel_in asks.reply ≡ Some parcel) × told at parcel deliveries.Refused))

  -- dead letters are moved one after another, until there is none or one is refused
  abbrev pub AreMoves : ℕ → Type 0 → List Call → Type 0
  AreMoves at ended [] = ended
  AreMoves at ended (c ∷ []) = IsLastQuestion at ended c
  AreMoves at ended (c ∷ (d ∷ rest)) = IsMove at c d × MatchBool (is_ok d.reply) (AreMoves at ended rest) (rest ≡ [])

  -- nothing was asked with the actor's pass but what moves dead letters, at this moment, until there is none or something is refused
  abbrev pub HasMoved : ℕ → Pass → Pass → Type 0
  HasMoved at before after = HasMade (λ calls. AreMoves at (HasEnded after) calls) before after

  -- one dead letter was moved
  abbrev pub HasMovedOne : ℕ → Pass → Pass → Type 0
  HasMovedOne at before after = HasMade (λ calls. (asks moves : Call) × (calls ≡ asks ∷ moves ∷ []) × IsMove at asks moves × (is_ok moves.reply ≡ true)) before after
