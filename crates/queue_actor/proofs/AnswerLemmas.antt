-- What an answer may say of a call that was just made.
use Rattle.std.proofs.Common.{◌≡◌, ◌⊎◌, ℕ, Result, Err, ap, inl, inr}
use Rattle.message.specs.declared.fault.Fault.{Fault}
use Rattle.message.specs.declared.fault.Fault.TheVariants.{Spent}
use Rattle.queue_core.specs.declared.command.Command.{Command}
use Rattle.queue_core.specs.declared.reply.Reply.{Reply}
use Rattle.desk.specs.Views.{Pass, HasCalled, IsSpent}
use Rattle.queue_actor.specs.Answered.{IsLastCall}

-- a call that was made with a pass is its last one
pub last_call : (before after : Pass) (at : ℕ) (command : Command) (reply : Result Reply Fault) → HasCalled before at command reply after → IsLastCall after command reply
last_call before after at command reply called = inr (before.mine, at, rw called.same_number called.own)

-- so is a call that a desk answered
pub last_answer : {A : Type 0} (before after : Pass) (at : ℕ) (command : Command) (reply : Result Reply Fault) → HasCalled before at command reply after ⊎ ((reply ≡ Err Spent) × A × IsSpent before after) → IsLastCall after command reply
last_answer before after at command reply (inl called) = last_call before after at command reply called
last_answer before after at command reply (inr spent) = inl (spent.0, ap (λ k. k.begun) spent.2.1)
