-- The history of a queue that threads share: the calls that were made, in the one order in which they took place.
use Rattle.std.specs.Prelude.{◌≡◌, ℕ, ◌==◌, List, [], ◌∷◌, ◌++◌, filter, Result}
use Rattle.message.specs.declared.fault.Fault.{Fault}
use Rattle.message.specs.Fault.{Meets}
use Rattle.queue_core.specs.declared.command.Command.{Command}
use Rattle.queue_core.specs.declared.reply.Reply.{Reply}
use Rattle.queue_core.specs.Queue.{QueueHistory, outcome_at, after_answer, IsExact, IsExactWithRoom}
use Rattle.desk.specs.declared.view.Call.{Call}

-- an answer that the queue of one thread gives to a command at a time: that of the definitions, or lack of memory where it takes memory, and where it takes no more
-- than the place of an entry, only if there is no room for one
pub record IsAnswered (q : QueueHistory) (at : ℕ) (command : Command) (reply : Result Reply Fault) : Type 0 where
  pub answer : Meets reply (outcome_at q at command).reply
  pub exact : IsExact (outcome_at q at command) reply
  pub room : IsExactWithRoom q (outcome_at q at command) reply

-- what a call leaves of a queue: where memory ran out, only the clock has moved
abbrev pub after_call : QueueHistory → Call → QueueHistory
after_call q c = after_answer q c.at c.command c.reply

-- the queue after the calls, one after another
abbrev pub state_of : QueueHistory → List Call → QueueHistory
state_of q [] = q
state_of q (c ∷ cs) = state_of (after_call q c) cs

-- each call was answered as the queue of one thread answers it at that place
abbrev pub IsLegalHistory : QueueHistory → List Call → Type 0
IsLegalHistory q [] = Unit {0}
IsLegalHistory q (c ∷ cs) = IsAnswered q c.at c.command c.reply × IsLegalHistory (after_call q c) cs

-- the calls of the pass of a number, in order
abbrev pub calls_by : ℕ → List Call → List Call
calls_by number calls = filter (λ c. c.by == number) calls

-- a history goes on from what was seen of it
abbrev pub GoesOnFrom : List Call → List Call → Type 0
GoesOnFrom seen history = (rest : List Call) × (history ≡ seen ++ rest)

abbrev pub call : ℕ → ℕ → Command → Result Reply Fault → Call
call number at command reply = record { by = number; at = at; command = command; reply = reply }
