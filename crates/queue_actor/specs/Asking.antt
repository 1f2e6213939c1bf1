-- How far an ask is, and what its future gives.
use Rattle.std.specs.Prelude.{◌≡◌, ℕ, ⊤, Bool, true, false, Option, Some, None, Result, IfOk, IfErr}
use Rattle.std.specs.Arc.{arc_value}
use Rattle.message.specs.declared.fault.Fault.TheVariants.{ActorGone}
use Rattle.crossbeam_channel.specs.declared.err.SendError.{SendError}
use Rattle.crossbeam_channel.specs.declared.err.SendError.TheVariants as Send
use Rattle.futures.specs.Channel.{completed_source}
use Rattle.queue_core.specs.declared.command.Command.{Command}
use Rattle.queue_core.specs.declared.command.Command.TheVariants as commands
use Rattle.desk.specs.Views.{Pass}
use Rattle.queue_actor.specs.Answered.{Answered}
use Rattle.queue_actor.specs.declared.fault.AskFault.{AskFault}
use Rattle.queue_actor.specs.declared.future.Progress.{Progress}
use Rattle.queue_actor.specs.declared.future.Progress.TheVariants as Far
use Rattle.queue_actor.specs.Questions.{Question, IsMailedAnswer}

-- whether a command is for the actor alone: what follows a close or new settings is the actor's, and a purge may take long (this project's own)
abbrev pub is_for_actor : Command → Bool
is_for_actor commands.Close = true
is_for_actor (commands.Set wish target) = true
is_for_actor commands.Purge = true
is_for_actor _ = false

-- The mail with this question was put, and its answer comes to the slot whose source has this number; or the mail never left, and the pass is kept; or what came was given
pub data Asking : Type 0 where
  Sent : Question → ℕ → Asking
  Unsent : Pass → Asking
  Over : Asking

abbrev pub asking_of : {P T : Type 0} → Progress P T → Asking
asking_of (Far.Sent place) = Asking.Sent (arc_value place.cell).value (completed_source place.told)
asking_of (Far.Unsent pass) = Asking.Unsent pass
asking_of Far.Over = Asking.Over

-- a fact of what was asked, and of the source of the slot that is waited at
abbrev pub IfSent : Asking → (Question → ℕ → Type 0) → Type 0
IfSent (Asking.Sent asked source) P = P asked source
IfSent (Asking.Unsent pass) P = ⊤
IfSent Asking.Over P = ⊤

-- a fact of the pass of a mail that never left
abbrev pub IfUnsent : Asking → (Pass → Type 0) → Type 0
IfUnsent (Asking.Sent asked source) P = ⊤
IfUnsent (Asking.Unsent pass) P = P pass
IfUnsent Asking.Over P = ⊤

-- the slot that is waited at has this source
abbrev pub WaitsAt : Asking → ℕ → Type 0
WaitsAt asking source = (asked : Question) × (asking ≡ Asking.Sent asked source)

-- what was asked, where its answer is waited for
abbrev pub waiting_question : Asking → Option Question
waiting_question (Asking.Sent asked source) = Some asked
waiting_question (Asking.Unsent pass) = None
waiting_question Asking.Over = None

-- the pass of a mail that never left
abbrev pub kept_pass : Asking → Option Pass
kept_pass (Asking.Sent asked source) = None
kept_pass (Asking.Unsent pass) = Some pass
kept_pass Asking.Over = None

-- an answer comes only where the mail was put, and is the one to what was asked; the only fault that a future gives is ActorGone, and the pass of a mail that never left comes back
abbrev pub MayGive : {P T : Type 0} → Asking → Result Answered (AskFault P T) → Type 0
MayGive asking output =
    IfOk output (λ answer. (asked : Question) × (source : ℕ) × (asking ≡ Asking.Sent asked source) × IsMailedAnswer asked answer)
    × IfErr output (λ e. (e.fault ≡ ActorGone) × (e.pass ≡ kept_pass asking))

-- nobody takes mail from the mailbox any more
abbrev pub IfDisconnected : {M : Type 0} → SendError M → Type 0 → Type 0
IfDisconnected (Send.Disconnected message) P = P
IfDisconnected (Send.OutOfMemory message) P = ⊤
