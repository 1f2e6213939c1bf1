-- What a pass knows, as contracts see it, and what one call adds to it.
use Rattle.std.specs.Prelude.{◌≡◌, ◌≢◌, ◌⊎◌, ℕ, ◌<◌, ◌≤◌, List, [], ◌∷◌, ◌++◌, ◌^◌, length, Result}
use Rattle.message.specs.declared.fault.Fault.{Fault}
use Rattle.atomic_table.specs.Seated.{TableId}
use Rattle.queue_core.specs.declared.command.Command.{Command}
use Rattle.queue_core.specs.declared.reply.Reply.{Reply}
use Rattle.queue_core.specs.Queue.{QueueHistory}
use Rattle.desk.specs.declared.view.Call.{Call}
use Rattle.desk.specs.declared.view.View.{View}
use Rattle.desk.specs.History.{IsLegalHistory, calls_by, call, GoesOnFrom, state_of}

-- how many calls may be begun at one desk (this project's own)
abbrev pub most_tickets : ℕ
most_tickets = 2 ^ 62

-- the desk that a pass is of, the queue that the desk was made with, the place of its press, the pass's number, how many tickets it knows to be drawn there, the history that the pass has seen, and its own calls in it
pub record Pass : Type 0 where
  pub desk : TableId
  pub start : QueueHistory
  pub place : List ℕ
  pub number : ℕ
  pub begun : ℕ
  pub seen : List Call
  pub mine : List Call

-- what has been seen is a legal history, and the calls of the pass's number in it are its own
pub record IsKnown (k : Pass) : Type 0 where
  pub legal : IsLegalHistory k.start k.seen
  pub own : calls_by k.number k.seen ≡ k.mine

-- the pass of a new desk
abbrev pub first_pass : TableId → QueueHistory → List ℕ → Pass
first_pass desk start place = record { desk = desk; start = start; place = place; number = 0; begun = 0; seen = []; mine = [] }

abbrev pub pass_of : TableId → View → Pass
pass_of desk v = record { desk = desk; start = v.start; place = v.place; number = v.number; begun = v.begun; seen = v.seen; mine = v.mine }

-- A call was made: behind all that the pass had seen, and behind what others had done meanwhile, the history ends with it, under the pass's number, and it is the last of the pass's own calls.
-- A ticket was left for it, and no fewer were drawn than the pass knew before
pub record HasCalled (before : Pass) (at : ℕ) (command : Command) (reply : Result Reply Fault) (after : Pass) : Type 0 where
  pub same_desk : after.desk ≡ before.desk
  pub same_start : after.start ≡ before.start
  pub same_place : after.place ≡ before.place
  pub same_number : after.number ≡ before.number
  pub counted : before.begun ≤ after.begun
  pub room : after.begun < most_tickets
  pub between : List Call
  pub history : after.seen ≡ (before.seen ++ between) ++ call before.number at command reply ∷ []
  pub own : after.mine ≡ before.mine ++ call before.number at command reply ∷ []

-- the desk that a note is of, the queue that the desk was made with, and the history that was seen
pub record Remark : Type 0 where
  pub desk : TableId
  pub start : QueueHistory
  pub seen : List Call

abbrev pub remark_of : TableId → View → Remark
remark_of desk v = record { desk = desk; start = v.start; seen = v.seen }

-- what was seen goes on, and nothing else changes
pub record SeesMore (before after : Pass) : Type 0 where
  pub same_desk : after.desk ≡ before.desk
  pub same_start : after.start ≡ before.start
  pub same_place : after.place ≡ before.place
  pub same_number : after.number ≡ before.number
  pub same_calls : after.mine ≡ before.mine
  pub goes_on : GoesOnFrom before.seen after.seen

-- a pass of the same desk with another number, which has made no calls, and has seen at least as much
pub record IsNewPass (parent new : Pass) : Type 0 where
  pub same_desk : new.desk ≡ parent.desk
  pub same_start : new.start ≡ parent.start
  pub same_place : new.place ≡ parent.place
  pub other_number : new.number ≢ parent.number
  pub no_calls : new.mine ≡ []
  pub goes_on : GoesOnFrom parent.seen new.seen

-- a queue that is what a legal history leaves, which goes on from all that the pass had seen, and has the pass's calls and no others of its number
pub record IsLastState (pass : Pass) (queue : QueueHistory) : Type 0 where
  pub history : List Call
  pub legal : IsLegalHistory pass.start history
  pub goes_on : GoesOnFrom pass.seen history
  pub own : calls_by pass.number history ≡ pass.mine
  pub state : queue ≡ state_of pass.start history

-- all tickets are drawn, which are no fewer than were known before: nothing else is known that was not
abbrev pub IsSpent : Pass → Pass → Type 0
IsSpent before after = (before.begun ≤ most_tickets) × (after ≡ record before { begun = most_tickets })

-- No turn was free: more tickets were drawn than turns had ended that were seen, or as many turns have ended as there may be. No fewer tickets are known than before
pub record IsBusy (before after : Pass) : Type 0 where
  pub counted : before.begun ≤ after.begun
  pub taken : (length after.seen < after.begun) ⊎ (most_tickets ≤ length after.seen)
