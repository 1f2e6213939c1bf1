-- What an answer says of the call that it answers.
use Rattle.std.specs.Prelude.{◌≡◌, ◌⊎◌, ℕ, List, [], ◌∷◌, ◌++◌, Result, Err}
use Rattle.message.specs.declared.fault.Fault.{Fault}
use Rattle.message.specs.declared.fault.Fault.TheVariants.{Spent}
use Rattle.atomic_table.specs.Seated.{TableId}
use Rattle.queue_core.specs.declared.command.Command.{Command}
use Rattle.queue_core.specs.declared.reply.Reply.{Reply}
use Rattle.desk.specs.declared.view.Call.{Call}
use Rattle.desk.specs.History.{call}
use Rattle.desk.specs.Views.{Pass, most_tickets}

-- The last call that was made with a pass has this command and this reply. A desk that is spent, whose tickets are all drawn, answers without a call.
abbrev pub IsLastCall : Pass → Command → Result Reply Fault → Type 0
IsLastCall pass command reply = ((reply ≡ Err Spent) × (pass.begun ≡ most_tickets)) ⊎ ((before : List Call) × (at : ℕ) × (pass.mine ≡ before ++ call pass.number at command reply ∷ []))

-- which desk an answer is of, what its pass knows, the command and the reply
pub record Answered : Type 0 where
  pub desk : TableId
  pub pass : Pass
  pub command : Command
  pub reply : Result Reply Fault
