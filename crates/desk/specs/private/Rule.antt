-- The rule of a desk: what holds of its words, of the queue on it and of what the passes know, between any two steps.
-- Word 0 counts the turns that have ended, word 1 the tickets that were drawn.
use Rattle.std.specs.Prelude.{◌≡◌, ℕ, ◌+◌, ◌<◌, ◌≤◌, ◌≢◌, ◌⊎◌, List, [], ◌∷◌, length, Option, Some, None}
use mathlib.Core.Option.{some, none}
use mathlib.Core.Option as maybe
use lib.ListN.{get_elem?}
use Rattle.atomic_table.specs.Table.{State}
use Rattle.desk.specs.declared.view.Call.{Call}
use Rattle.desk.specs.declared.view.View.{View}
use Rattle.desk.specs.declared.view.PassStage.{PassStage}
use Rattle.desk.specs.declared.view.PassStage.TheVariants.{Fresh, Idle, Drawn, Turn, Ended}
use Rattle.desk.specs.History.{state_of, IsLegalHistory, calls_by, GoesOnFrom}
use Rattle.desk.specs.Held.{Lying}
use Rattle.desk.specs.Views.{most_tickets}

-- the ticket that a pass holds
abbrev pub ticket_of : PassStage → Option ℕ
ticket_of (Drawn ticket) = Some ticket
ticket_of (Turn ticket) = Some ticket
ticket_of _ = None

-- how many tickets a pass holds
abbrev pub tickets_of : PassStage → ℕ
tickets_of (Drawn ticket) = 1
tickets_of (Turn ticket) = 1
tickets_of _ = 0

-- how many tickets are held
abbrev pub held_tickets : List View → ℕ
held_tickets [] = 0
held_tickets (v ∷ vs) = tickets_of v.stage + held_tickets vs

-- what a pass knows is true: the queue and the place that the desk was made with, and what was seen and heard of the history
pub record Follows (start : Lying) (log : List Call) (v : View) : Type 0 where
  pub opened : v.start ≡ start.queue
  pub placed : v.place ≡ start.place
  pub seen : GoesOnFrom v.seen log
  pub heard : GoesOnFrom v.heard log

-- the calls of a pass's number are its own, and what it knows as another number is not its own
abbrev pub IsOwn : List Call → ℕ → View → Type 0
IsOwn log number v = (v.number ≡ number) × (calls_by number log ≡ v.mine) × (v.other ≢ number)

-- What a stage says of the pass in a seat, where the history and the number of tickets are these. A ticket was drawn, and its turn has not ended; at its turn the pass has seen the whole history. A pass that has ended says nothing
abbrev pub FitsStage : Lying → List Call → ℕ → ℕ → View → PassStage → Type 0
FitsStage start log tickets seat v Fresh = Follows start log v × (calls_by seat log ≡ []) × (v.mine ≡ []) × (v.other < seat)
FitsStage start log tickets seat v Idle = Follows start log v × IsOwn log seat v
FitsStage start log tickets seat v (Drawn ticket) = Follows start log v × IsOwn log seat v × (length log ≤ ticket) × (ticket < tickets)
FitsStage start log tickets seat v (Turn ticket) = Follows start log v × IsOwn log seat v × (ticket ≡ length log) × (ticket < tickets) × (v.seen ≡ log)
FitsStage start log tickets seat v Ended = Unit {0}

abbrev pub Fits : Lying → List Call → ℕ → ℕ → View → Type 0
Fits start log tickets seat v = FitsStage start log tickets seat v v.stage

abbrev pub EachFits : Lying → List Call → ℕ → List View → Type 0
EachFits start log tickets views = (seat : ℕ) (v : View) → get_elem? views seat ≡ some v → Fits start log tickets seat v

-- no two passes hold one ticket
abbrev pub AreApart : List View → Type 0
AreApart views =
    (j k ticket : ℕ) (v w : View) → get_elem? views j ≡ some v → get_elem? views k ≡ some w
    → ticket_of v.stage ≡ Some ticket → ticket_of w.stage ≡ Some ticket → j ≡ k

-- a number that no pass has yet has no calls
abbrev pub HaveNoCalls : List Call → ℕ → Type 0
HaveNoCalls log passes = (number : ℕ) → passes ≤ number → calls_by number log ≡ []

-- the queue that the history leaves lies on the desk, and the press is at its place
abbrev pub IsHome : Lying → List Call → List (maybe.Option (Option Lying)) → Type 0
IsHome start log homes = (x : Lying) × (homes ≡ some (Some x) ∷ []) × (x.queue ≡ state_of start.queue log) × (x.place ≡ start.place)

-- a pass has the queue, at its turn
abbrev pub IsOut : List (maybe.Option (Option Lying)) → List View → Type 0
IsOut homes views = (homes ≡ none ∷ []) × ((number ticket : ℕ) × (v : View) × (get_elem? views number ≡ some v) × (v.stage ≡ Turn ticket))

-- a pass knows of no more tickets than were drawn
abbrev pub EachCounted : ℕ → List View → Type 0
EachCounted tickets views = (seat : ℕ) (v : View) → get_elem? views seat ≡ some v → v.begun ≤ tickets

-- A desk was made with what lay on it at first. There is one legal history. As many turns have ended as it has calls, and the queue is what it leaves. Each ticket that was drawn is held, or its turn has ended
pub record IsInTurn (start : Lying) (s : State (Option Lying) View) : Type 0 where
  pub log : List Call
  pub tickets : ℕ
  pub words : s.words ≡ length log ∷ tickets ∷ []
  pub all : length log + held_tickets s.views ≡ tickets
  pub within : tickets ≤ most_tickets
  pub legal : IsLegalHistory start.queue log
  pub home : IsHome start log s.homes ⊎ IsOut s.homes s.views
  pub fits : EachFits start log tickets s.views
  pub counted : EachCounted tickets s.views
  pub apart : AreApart s.views
  pub unborn : HaveNoCalls log (length s.views)
