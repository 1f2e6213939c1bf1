-- What each step at a desk tells the pass that makes it.
use Rattle.std.specs.Prelude.{◌≡◌, ℕ, ◌==◌, ◌<◌, ◌≤◌, ◌≢◌, List, [], ◌∷◌, ◌++◌, length, Option, Some, None, MatchBool, option_and_then, unwrap_or}
use Rattle.atomic_table.specs.Table.{Step, Me}
use Rattle.desk.specs.declared.view.Call.{Call}
use Rattle.desk.specs.declared.view.View.{View}
use Rattle.desk.specs.declared.view.PassStage.{PassStage}
use Rattle.desk.specs.declared.view.PassStage.TheVariants.{Idle, Drawn, Turn}
use Rattle.desk.specs.declared.made.Made.{Made}
use Rattle.desk.specs.History.{IsAnswered, after_call, state_of, IsLegalHistory, calls_by, GoesOnFrom, call}
use Rattle.desk.specs.Held.{Lying}
use Rattle.desk.specs.Views.{most_tickets}
use Rattle.desk.specs.private.Rule.{ticket_of}

abbrev pub Holder : Type 0
Holder = Me (Option Lying) View

abbrev pub at_stage : View → PassStage → View
at_stage v stage = record v { stage = stage }

-- a view that knows how many tickets were drawn
abbrev pub counting : View → ℕ → View
counting v tickets = record v { begun = tickets }

-- the tickets that were drawn were counted: they are no fewer than were known, and not more than there may be
abbrev pub has_counted : Step (Option Lying) → Holder → ℕ → Holder → Type 0
has_counted s before found after = (before.0.begun ≤ found) × (found ≤ most_tickets) × (after ≡ (counting before.0 found, before.1))

-- where the word was the one expected, a ticket was drawn, and else they were counted
abbrev pub has_drawn : Step (Option Lying) → Holder → ℕ → Holder → Type 0
has_drawn s before found after =
    (before.0.begun ≤ found)
    × MatchBool (found == s.first) (after ≡ (at_stage before.0 (Drawn found), before.1)) ((found ≤ most_tickets) × (after ≡ (counting before.0 found, before.1)))

-- the history so far was seen: it is legal, it goes on from what was seen before, and its calls of the pass's number are its own
pub record HasSeen (before after : View) : Type 0 where
  pub start : after.start ≡ before.start
  pub place : after.place ≡ before.place
  pub number : after.number ≡ before.number
  pub begun : after.begun ≡ before.begun
  pub mine : after.mine ≡ before.mine
  pub told : after.heard ≡ before.heard
  pub seen : GoesOnFrom before.seen after.seen
  pub heard : GoesOnFrom before.heard after.seen
  pub legal : IsLegalHistory before.start after.seen
  pub own : calls_by before.number after.seen ≡ before.mine
  pub foreign : before.other ≢ before.number
  pub other : after.other ≡ before.other

-- while a pass waits for its turn it sees more and more of the history, and nothing else changes
pub record StillWaits (before after : Holder) (ticket : ℕ) : Type 0 where
  pub start : after.0.start ≡ before.0.start
  pub place : after.0.place ≡ before.0.place
  pub number : after.0.number ≡ before.0.number
  pub other : after.0.other ≡ before.0.other
  pub begun : after.0.begun ≡ before.0.begun
  pub mine : after.0.mine ≡ before.0.mine
  pub told : after.0.heard ≡ before.0.heard
  pub seen : GoesOnFrom before.0.seen after.0.seen
  pub stage : after.0.stage ≡ Drawn ticket
  pub empty : after.1 ≡ []

-- the queue that the history leaves is the pass's until its turn ends, and the press with it
abbrev pub HasTurn : Holder → ℕ → Type 0
HasTurn after ticket =
    (after.0.stage ≡ Turn ticket) × (length after.0.seen ≡ ticket) × ((x : Lying) × (after.1 ≡ (0, Some x) ∷ []) × (x.queue ≡ state_of after.0.start after.0.seen) × (x.place ≡ after.0.place))

abbrev pub drawn_ticket : Holder → ℕ
drawn_ticket holder = unwrap_or (ticket_of holder.0.stage) 0

-- the turns that have ended were counted: where they are as many as the ticket says, it is the pass's turn
abbrev pub has_waited : Step (Option Lying) → Holder → ℕ → Holder → Type 0
has_waited s before found after =
    HasSeen before.0 after.0
    × MatchBool (found == drawn_ticket before) (HasTurn after found) ((after.0.stage ≡ before.0.stage) × (after.1 ≡ []))

-- Where the word was the one expected, a ticket was drawn whose turn had come: the pass has the queue that the history leaves which it had seen. Else more tickets were drawn than that, and they were counted
abbrev pub has_begun : Step (Option Lying) → Holder → ℕ → Holder → Type 0
has_begun s before found after =
    (before.0.begun ≤ found)
    × MatchBool (found == s.first) ((after.0 ≡ at_stage (counting before.0 found) (Turn found)) × HasTurn after found) ((s.first < found) × (after ≡ (counting before.0 found, before.1)))

-- the call that lies in the slot that a pass holds
abbrev pub made_in : List (ℕ × Option Lying) → Option Made
made_in [] = None
made_in (x ∷ xs) = option_and_then (λ l. l.made) x.1

abbrev pub call_of : ℕ → Made → Call
call_of number made = call number made.at made.command.value made.reply.value

-- a view behind a call
abbrev pub behind_call : View → Call → View
behind_call v c = record v { seen = v.seen ++ c ∷ []; mine = v.mine ++ c ∷ []; stage = Idle }

-- a view behind one call more
abbrev pub with_call : View → Option Made → View
with_call v None = v
with_call v (Some made) = record v { seen = v.seen ++ call_of v.number made ∷ []; mine = v.mine ++ call_of v.number made ∷ []; stage = Idle }

-- the turn has ended, and the call that was made in it stands in the history
abbrev pub has_ended : Step (Option Lying) → Holder → ℕ → Holder → Type 0
has_ended s before found after = after ≡ (with_call before.0 (made_in before.1), [])

-- what lies in a pass's hand is the queue that it found, behind the call that was made to it, with the press where it was
pub record HasPerformed (v : View) (x : Lying) : Type 0 where
  pub made : Made
  pub last : x.made ≡ Some made
  pub queue : x.queue ≡ after_call (state_of v.start v.seen) (call_of v.number made)
  pub place : x.place ≡ v.place
  pub answered : IsAnswered (state_of v.start v.seen) made.at made.command.value made.reply.value

-- the turns that have ended were counted: they are the calls of the history
abbrev pub has_looked : Step (Option Lying) → Holder → ℕ → Holder → Type 0
has_looked s before found after =
    HasSeen before.0 after.0 × (found ≡ length after.0.seen) × (after.0.stage ≡ before.0.stage) × (after.1 ≡ before.1)

-- a pass that was cut off has its number: it is another than that of the pass which it was cut off from, and there are no calls of it
pub record HasEntered (before after : View) : Type 0 where
  pub start : after.start ≡ before.start
  pub place : after.place ≡ before.place
  pub mine : after.mine ≡ []
  pub seen : GoesOnFrom before.seen after.seen
  pub legal : IsLegalHistory before.start after.seen
  pub own : calls_by after.number after.seen ≡ []
  pub other : after.number ≢ before.other
  pub stage : after.stage ≡ Idle

abbrev pub has_entered : Step (Option Lying) → Holder → ℕ → Holder → Type 0
has_entered s before found after = HasEntered before.0 after.0 × (after.1 ≡ before.1)
