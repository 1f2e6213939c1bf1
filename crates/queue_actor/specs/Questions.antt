-- What is asked of a queue, and what is an answer to just that.
use Rattle.std.specs.Prelude.{◌≡◌, ℕ, ⊤, ◌&&◌, nat_lt, Bool, true, false}
use Rattle.std.specs.Arc.{arc_value}
use Rattle.atomic_table.specs.Seated.{TableId}
use Rattle.queue_core.specs.declared.command.Command.{Command}
use Rattle.queue_core.specs.declared.command.Command.TheVariants as commands
use Rattle.desk.specs.Views.{Pass, HasCalled, IsKnown}
use Rattle.queue_actor.specs.Answered.{Answered}
use Rattle.queue_actor.specs.Calling.{HasAsked}
use Rattle.queue_actor.specs.declared.mail.Ask.{Ask}
use Rattle.queue_actor.specs.declared.mail.Mail.{Mail}
use Rattle.queue_actor.specs.declared.mail.Mail.TheVariants as mails

-- what an ask asks: of which desk, with what its pass knows, at which moment, which command, and until when it may wait
pub record Question : Type 0 where
  pub desk : TableId
  pub pass : Pass
  pub moment : ℕ
  pub command : Command
  pub wait_until : ℕ

abbrev pub question : TableId → Pass → ℕ → Command → ℕ → Question
question desk pass moment command wait_until =
    record { desk = desk; pass = pass; moment = moment; command = command; wait_until = wait_until }

-- the question of an ask
abbrev pub question_of : {P S T : Type 0} → Ask P S T → Question
question_of ask = question (arc_value ask.desk) ask.pass ask.moment ask.command ask.wait_until

-- the answer to a question that was asked at its moment: of its desk, by a call with its pass and its command
abbrev pub IsAnswerTo : Question → Answered → Type 0
IsAnswerTo asked answer =
    (answer.desk ≡ asked.desk) × (answer.command ≡ asked.command)
    × HasCalled asked.pass asked.moment asked.command answer.reply answer.pass × IsKnown answer.pass

-- whether a command is a receive
abbrev pub is_receive : Command → Bool
is_receive (commands.Receive maximum timeout) = true
is_receive _ = false

-- whether a question is a receive that has time to wait when it comes
abbrev pub has_time : Question → Bool
has_time asked = is_receive asked.command && nat_lt asked.moment asked.wait_until

-- the answer to a question that an actor asked at a moment: of its desk, by a call with its pass and its command; or the desk is spent
abbrev pub AnswersAt : ℕ → Question → Answered → Type 0
AnswersAt at asked answer =
    (answer.desk ≡ asked.desk) × (answer.command ≡ asked.command) × HasAsked asked.pass at asked.command answer.reply answer.pass × IsKnown answer.pass

-- the answer to a question that went by mail: at its own moment, unless it has time to wait
abbrev pub IsMailedAnswer : Question → Answered → Type 0
IsMailedAnswer asked answer = (at : ℕ) × (has_time asked ≡ false → at ≡ asked.moment) × AnswersAt at asked answer

-- what a slot for an answer shows: the question that it was made for, and the source that whoever waits for the answer hears
pub record Awaited : Type 0 where
  pub asked : Question
  pub source : ℕ

-- the slot of an ask was made for its own question
abbrev pub HasOwnSlot : {P T : Type 0} → Mail P Awaited T → Type 0
HasOwnSlot (mails.Ask r) = r.reply.asked ≡ question_of r
HasOwnSlot (mails.Tick t) = ⊤
HasOwnSlot mails.End = ⊤
