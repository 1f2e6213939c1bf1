-- What a request asks of one queue: commands, one after another, and what a client is told of their answers (Amazon SQS API Reference).
use Rattle.std.specs.Prelude.{◌≡◌, ◌⊎◌, ℕ, Bool, false, List, [], ◌∷◌, ◌++◌, Option, Some, None, Result, Ok, Err, is_err, if◌then◌else◌}
use Rattle.message.specs.declared.fault.Fault.{Fault}
use Rattle.message.specs.declared.fault.Fault.TheVariants.{QueueDoesNotExist, OutOfMemory}
use Rattle.queue_core.specs.declared.command.Command.{Command}
use Rattle.queue_core.specs.declared.command.Command.TheVariants as commands
use Rattle.queue_core.specs.declared.reply.Reply.{Reply}
use Rattle.queue_core.specs.declared.reply.Reply.TheVariants as replies
use Rattle.aws_json.specs.Steps.{◌>>=◌, result_map}
use Rattle.aws_json.specs.declared.batch.BatchAnswer.{BatchAnswer}
use Rattle.aws_json.specs.declared.batch.BatchEntry.{BatchEntry}
use Rattle.aws_json.specs.declared.batch.EntryReply.{EntryReply}
use Rattle.aws_json.specs.declared.batch.EntryReply.TheVariants as entries
use Rattle.aws_json.specs.declared.request.AttributeNames.{AttributeNames}
use Rattle.aws_json.specs.declared.reply.ReplyShape.{ReplyShape}
use Rattle.aws_json.specs.declared.reply.ReplyShape.TheVariants as shapes
use Rattle.request_plan.specs.declared.plan.Performed.{Performed}
use Rattle.request_plan.specs.declared.plan.ReceiveParts.{ReceiveParts}
use Rattle.request_plan.specs.declared.plan.Then.{Then}
use Rattle.request_plan.specs.declared.plan.Then.TheVariants as thens
use Rattle.request_plan.specs.declared.plan.Step.{Step}
use Rattle.request_plan.specs.declared.plan.Step.TheVariants.{Ask, Answer}

-- ---- what is asked first

-- a command whose success a client is told
abbrev pub done : Command → Step
done command = Ask command 0 thens.Done

-- attributes, by a look
abbrev pub attributes : List ℕ → Option AttributeNames → Step
attributes queue names = Ask commands.Look 0 (thens.Attributes queue names)

-- messages, for which it may wait so many seconds
abbrev pub receive_within : ℕ → Option ℕ → ℕ → ReceiveParts → Step
receive_within maximum timeout seconds told = Ask (commands.Receive maximum timeout) seconds (thens.Messages told)

-- messages; where it is not said how long to wait for them, the queue is looked at first
abbrev pub receive : ℕ → Option ℕ → Option ℕ → ReceiveParts → Step
receive maximum timeout (Some seconds) told = receive_within maximum timeout seconds told
receive maximum timeout None told = Ask commands.Look 0 (thens.Receive maximum timeout told)

-- what comes of a command, or of the fault in its place
abbrev pub by_case : {T : Type 0} → (Command → T) → (Fault → T) → Result Command Fault → T
by_case asked failed (Ok command) = asked command
by_case asked failed (Err fault) = failed fault

-- what the next entry of a batch asks that has no fault of its own, behind these answers
abbrev pub next_entry : List BatchEntry → List BatchAnswer → Step
next_entry [] answers = Answer (Ok (shapes.Batch answers))
next_entry (e ∷ es) answers =
    by_case (λ command. Ask command 0 (thens.Entry e.id es answers))
    (λ fault. next_entry es (answers ++ record { id = e.id; answer = Err fault } ∷ [])) e.command

-- whether the first of these entries has a fault of its own: it is answered before anything is asked, which takes memory
abbrev pub begins_with_fault : List BatchEntry → Bool
begins_with_fault [] = false
begins_with_fault (e ∷ es) = is_err e.command

-- the entries of a batch, one after another
abbrev pub batch : List BatchEntry → Step
batch es = next_entry es []

-- ---- what a client is told

-- of a command that was done: of a send the message, of any other that it succeeded
abbrev pub done_reply : Command → Reply → EntryReply
done_reply (commands.Send content delay) (replies.Sent posted) = entries.Sent content posted.id
done_reply command reply = entries.Done

-- the same by itself
abbrev pub done_shape : EntryReply → ReplyShape
done_shape (entries.Sent content id) = shapes.Sent content id
done_shape entries.Done = shapes.Nothing

-- of a command by itself
abbrev pub done_answer : Result Performed Fault → Result ReplyShape Fault
done_answer outcome = result_map (λ p. done_shape (done_reply p.command p.reply)) outcome

-- of a look; a queue that was closed is not there any more
abbrev pub attributes_shape : List ℕ → Option AttributeNames → Reply → Result ReplyShape Fault
attributes_shape queue names (replies.Looked look) = if look.closed then Err QueueDoesNotExist else Ok (shapes.Attributes names queue look)
attributes_shape queue names reply = Ok shapes.Nothing

abbrev pub attributes_answer : List ℕ → Option AttributeNames → Result Performed Fault → Result ReplyShape Fault
attributes_answer queue names outcome = outcome >>= λ p. attributes_shape queue names p.reply

-- of a receive from the queue of a uid
abbrev pub messages_shape : ℕ → ReceiveParts → Reply → ReplyShape
messages_shape uid told (replies.Received offers) = shapes.Messages uid told.names told.attributes offers
messages_shape uid told reply = shapes.Nothing

abbrev pub messages_answer : ℕ → ReceiveParts → Result Performed Fault → Result ReplyShape Fault
messages_answer uid told outcome = result_map (λ p. messages_shape uid told p.reply) outcome

-- of an entry of a batch
abbrev pub entry_answer : Result Performed Fault → Result EntryReply Fault
entry_answer outcome = result_map (λ p. done_reply p.command p.reply) outcome

-- ---- what comes after a command that was asked of the queue of a uid

-- messages are asked for after a look, for as long as the queue has it; a queue that was closed is not there any more
abbrev pub receive_looked : ℕ → Option ℕ → ReceiveParts → Reply → Step
receive_looked maximum timeout told (replies.Looked look) =
    if look.closed then Answer (Err QueueDoesNotExist) else receive_within maximum timeout look.settings.wait_seconds told
receive_looked maximum timeout told reply = Answer (Ok shapes.Nothing)

-- a step, or the fault as the answer
abbrev pub step_or : {A : Type 0} → (A → Step) → Result A Fault → Step
step_or next (Ok x) = next x
step_or next (Err fault) = Answer (Err fault)

abbrev pub receive_after : ℕ → Option ℕ → ReceiveParts → Result Performed Fault → Step
receive_after maximum timeout told outcome = step_or (λ p. receive_looked maximum timeout told p.reply) outcome

-- the other entries of a batch, whatever became of this one
abbrev pub after_entry : List ℕ → List BatchEntry → List BatchAnswer → Result Performed Fault → Step
after_entry id es answers outcome = next_entry es (answers ++ record { id = id; answer = entry_answer outcome } ∷ [])

abbrev pub after : ℕ → Then → Result Performed Fault → Step
after uid thens.Done outcome = Answer (done_answer outcome)
after uid (thens.Attributes queue names) outcome = Answer (attributes_answer queue names outcome)
after uid (thens.Receive maximum timeout told) outcome = receive_after maximum timeout told outcome
after uid (thens.Messages told) outcome = Answer (messages_answer uid told outcome)
after uid (thens.Entry id es answers) outcome = after_entry id es answers outcome

-- a step is the wanted one, unless memory ran out
abbrev pub Comes : Step → Step → Type 0
Comes step wanted = (step ≡ wanted) ⊎ (step ≡ Answer (Err OutOfMemory))

-- what comes after a command is the wanted step; only behind an entry of a batch memory may have run out
abbrev pub Follows : Then → Step → Step → Type 0
Follows (thens.Entry id es answers) step wanted = Comes step wanted
Follows purpose step wanted = step ≡ wanted
