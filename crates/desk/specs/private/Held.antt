-- What lies on a desk before a call and behind it, and how many of its marks were told.
use Rattle.std.specs.Prelude.{◌≡◌, ℕ, Bool, not, ◌&&◌, if◌then◌else◌, List, Some, None, Result}
use Rattle.message.specs.declared.fault.Fault.{Fault}
use Rattle.message.specs.Fault.{is_out_of_memory}
use Rattle.queue_core.specs.declared.command.Command.{Command}
use Rattle.queue_core.specs.declared.reply.Reply.{Reply}
use Rattle.queue_core.specs.Queue.{QueueHistory, after_answer}
use Rattle.desk.specs.declared.made.Made.{Made}
use Rattle.desk.specs.Held.{Lying}

abbrev pub untouched : QueueHistory → List ℕ → Lying
untouched queue place = record { queue = queue; made = None; place = place }

-- how many marks of the journal were told, behind an answer: none, where a checkpoint took the place of all entries
abbrev pub told_behind : ℕ → Bool → Result Reply Fault → ℕ
told_behind told rebases answer = if rebases && not (is_out_of_memory answer) then 0 else told

-- the queue behind a call
pub record IsBehind (queue : QueueHistory) (at : ℕ) (command : Command) (reply : Result Reply Fault) (x : Lying) : Type 0 where
  pub left : x.queue ≡ after_answer queue at command reply
  pub made : Made
  pub last : x.made ≡ Some made
  pub moment : made.at ≡ at
  pub asked : made.command.value ≡ command
  pub answered : made.reply.value ≡ reply
