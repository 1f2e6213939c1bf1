-- The steps of a request, one on and at their end.
use Rattle.std.proofs.Common.{◌≡◌, ◌⊎◌, inl, inr, ℕ, zero, suc, ◌≤◌, Bool, true, false, List, [], ◌∷◌, ◌++◌, length, Option, Some, None, Result, Ok, Err, if◌then◌else◌, refl, ap, subst, ◌∙◌, arith}
use Rattle.std.specs.Option.{option_map_or}
use Rattle.message.specs.declared.fault.Fault.{Fault}
use Rattle.message.specs.declared.fault.Fault.TheVariants.{OutOfMemory, QueueDoesNotExist}
use Rattle.message.specs.Fault.{is_out_of_memory, Meets}
use Rattle.queue_core.specs.declared.command.Command.{Command}
use Rattle.queue_core.specs.declared.reply.Reply.{Reply}
use Rattle.queue_core.specs.declared.reply.Reply.TheVariants as replies
use Rattle.aws_json.specs.declared.batch.BatchAnswer.{BatchAnswer}
use Rattle.aws_json.specs.declared.batch.BatchEntry.{BatchEntry}
use Rattle.aws_json.specs.declared.reply.ReplyShape.{ReplyShape}
use Rattle.aws_json.specs.declared.request.Request.{Request}
use Rattle.aws_json.specs.Steps.{result_map}
use Rattle.redrive.specs.House.{House, found_uid}
use Rattle.request_plan.specs.declared.plan.Performed.{Performed}
use Rattle.request_plan.specs.declared.plan.Step.{Step}
use Rattle.request_plan.specs.declared.plan.Step.TheVariants as steps
use Rattle.request_plan.specs.declared.plan.Then.{Then}
use Rattle.request_plan.specs.declared.plan.Then.TheVariants as thens
use Rattle.request_plan.specs.declared.plan.ReceiveParts.{ReceiveParts}
use Rattle.request_plan.specs.declared.task.Task.{Task}
use Rattle.request_plan.specs.declared.task.Task.TheVariants as tasks
use Rattle.request_plan.specs.Plan.{Comes, Follows, after, by_case, next_entry, receive_looked}
use Rattle.request_plan.specs.Task.{Begins, queue_of_task, task_of, task_without_memory}
use Rattle.sqs_replay.specs.declared.shown.LineAnswer.{LineAnswer}
use Rattle.sqs_replay.specs.declared.shown.LineAnswer.TheVariants as shown
use Rattle.sqs_replay.specs.Served.{AnswerAndHouse, Leaves, most_behind, most_commands, played, step_served, steps_served, task_served, unchanged}
use Rattle.sqs_replay.proofs.Memory.{memory_or_other, met}

-- ---- a step asks no more commands than the one before it says

most-entry : (command : Result Command Fault) (id : List ℕ) (es : List BatchEntry) (answers : List BatchAnswer)
    → ((told : List BatchAnswer) → most_commands (next_entry es told) ≤ length es)
    → most_commands (by_case (λ command. steps.Ask command 0 (thens.Entry id es answers))
    (λ fault. next_entry es (answers ++ record { id = id; answer = Err fault } ∷ [])) command) ≤ suc (length es)
most-entry (Ok command) id es answers rest = omega arith
most-entry (Err fault) id es answers rest = omega (arith, rest (answers ++ record { id = id; answer = Err fault } ∷ []))

most-next_entry : (es : List BatchEntry) (answers : List BatchAnswer) → most_commands (next_entry es answers) ≤ length es
most-next_entry [] answers = omega arith
most-next_entry (e ∷ es) answers = most-entry e.command e.id es answers (most-next_entry es)

most-if : (b : Bool) (one other : Step) (n : ℕ) → most_commands one ≤ n → most_commands other ≤ n → most_commands (if b then one else other) ≤ n
most-if true one other n h k = h
most-if false one other n h k = k

most-looked : (maximum : ℕ) (timeout : Option ℕ) (told : ReceiveParts) (reply : Reply) → most_commands (receive_looked maximum timeout told reply) ≤ 1
most-looked maximum timeout told (replies.Looked look) = most-if look.closed _ _ 1 (omega arith) (omega arith)
most-looked maximum timeout told (replies.Sent posted) = omega arith
most-looked maximum timeout told (replies.Received offers) = omega arith
most-looked maximum timeout told (replies.Arrived arrival) = omega arith
most-looked maximum timeout told (replies.Settled found) = omega arith
most-looked maximum timeout told (replies.Orphaned count) = omega arith
most-looked maximum timeout told (replies.Parcel parcel) = omega arith
most-looked maximum timeout told replies.Done = omega arith

most-after : (uid : ℕ) (purpose : Then) (outcome : Result Performed Fault) → most_commands (after uid purpose outcome) ≤ most_behind purpose
most-after uid thens.Done outcome = omega arith
most-after uid (thens.Attributes queue names) outcome = omega arith
most-after uid (thens.Receive maximum timeout told) (Ok p) = most-looked maximum timeout told p.reply
most-after uid (thens.Receive maximum timeout told) (Err fault) = omega arith
most-after uid (thens.Messages told) outcome = omega arith
most-after uid (thens.Entry id es answers) outcome = most-next_entry es _

pub most-next : (uid : ℕ) (purpose : Then) (outcome : Result Performed Fault) (step : Step) → Comes step (after uid purpose outcome)
    → most_commands step ≤ most_behind purpose
most-next uid purpose outcome step (inl is) = rw is (most-after uid purpose outcome)
most-next uid purpose outcome step (inr memory) = rw memory (omega arith)

-- only behind an entry of a batch memory may have run out
pub follows_comes : (purpose : Then) (step wanted : Step) → Follows purpose step wanted → Comes step wanted
follows_comes thens.Done step wanted h = inl h
follows_comes (thens.Attributes queue names) step wanted h = inl h
follows_comes (thens.Receive maximum timeout told) step wanted h = inl h
follows_comes (thens.Messages told) step wanted h = inl h
follows_comes (thens.Entry id es answers) step wanted h = h

-- ---- the steps from here

-- what they come to, with commands enough, is what they come to from the first one, unless memory ran out
abbrev pub GoesOn : AnswerAndHouse (Result ReplyShape Fault) → House → ℕ → ℕ → Step → Type 0
GoesOn whole now uid at step =
    ((most : ℕ) × (most_commands step ≤ most) × (played most now uid at step ≡ whole)) ⊎ (step ≡ steps.Answer (Err OutOfMemory))

pub GoesOn-next : (whole : AnswerAndHouse (Result ReplyShape Fault)) (now : House) (uid at : ℕ) (command : Command) (seconds : ℕ) (purpose : Then) (step next : Step)
    (left : House) → GoesOn whole now uid at step → step ≡ steps.Ask command seconds purpose
    → Comes next (step_served now uid at command purpose).answer → left ≡ (step_served now uid at command purpose).house
    → GoesOn whole left uid at next
GoesOn-next whole now uid at command seconds purpose step next left (inr memory) asks comes is = absurd (cc)
GoesOn-next whole now uid at command seconds purpose step next left (inl due) asks (inr memory) is = inr memory
GoesOn-next whole now uid at command seconds purpose step next left (inl (zero, enough, same)) asks (inl comes) is =
    absurd (let none : most_commands (steps.Ask command seconds purpose) ≤ 0 = rw asks at enough in omega arith)
GoesOn-next whole now uid at command seconds purpose step next left (inl (suc most, enough, same)) asks (inl comes) is =
    let fewer : most_commands next ≤ most_behind purpose = most-next uid purpose _ next (inl comes) in
    let more : most_commands (steps.Ask command seconds purpose) ≤ suc most = rw asks at enough in
    inl (most, omega arith, rw (is, comes) (rw asks at same))

-- as many commands as a step may ask are as good as any greater number
pub enough-played : (n : ℕ) (now : House) (uid at : ℕ) (step : Step) (most : ℕ) → most_commands step ≤ most → most_commands step ≤ n
    → played n now uid at step ≡ played most now uid at step
enough-played n now uid at (steps.Answer answer) most h k = refl
enough-played zero now uid at (steps.Ask command seconds purpose) most h k = absurd (let none : suc (most_behind purpose) ≤ 0 = k in omega arith)
enough-played (suc n) now uid at (steps.Ask command seconds purpose) zero h k = absurd (let none : suc (most_behind purpose) ≤ 0 = h in omega arith)
enough-played (suc n) now uid at (steps.Ask command seconds purpose) (suc most) h k =
    let next = step_served now uid at command purpose in
    let fewer : most_commands next.answer ≤ most_behind purpose = most-after uid purpose _ in
    let one : suc (most_behind purpose) ≤ suc n = k in
    let other : suc (most_behind purpose) ≤ suc most = h in
    enough-played n next.house uid at next.answer most (omega arith) (omega arith)

-- ---- the task of a request; of a batch memory may have run out

same-queue : (task : Task) → queue_of_task (task_without_memory task) ≡ queue_of_task task
same-queue (tasks.Ask queue step) = refl
same-queue task = refl

pub begun_queue : (request : Request) (task : Task) → Begins request task → queue_of_task task ≡ queue_of_task (task_of request)
begun_queue request task (inl same) = ap queue_of_task same
begun_queue request task (inr (batch, memory)) = ap queue_of_task memory ∙ same-queue (task_of request)

meets_memory : {T : Type 0} (answer : Result T Fault) → Meets answer (Err OutOfMemory) → is_out_of_memory answer ≡ true
meets_memory answer meets =
    elim (memory_or_other answer) [
      | inl memory ↦ ap is_out_of_memory memory
      | inr other ↦ ap is_out_of_memory (met answer (Err OutOfMemory) other meets)
    ]

module _ (w left : House) (at : ℕ) (result : Result LineAnswer Fault) where
  abbrev IsMet : AnswerAndHouse (Result ReplyShape Fault) → Type 0
  IsMet s = Meets result (result_map shown.Reply s.answer) × Leaves result left s.house

  met_in : (found : Option ℕ) (serve : ℕ → AnswerAndHouse (Result ReplyShape Fault))
      → IsMet (option_map_or (λ uid. unchanged w (Err OutOfMemory)) found (unchanged w (Err QueueDoesNotExist)))
      → IsMet (option_map_or serve found (unchanged w (Err QueueDoesNotExist)))
  met_in None serve h = h
  met_in (Some uid) serve h = let no_memory : is_out_of_memory result ≡ true = meets_memory result h.0 in (rw no_memory tt, rw no_memory tt)

  met_memory : (task : Task) → IsMet (task_served w at (task_without_memory task)) → IsMet (task_served w at task)
  met_memory (tasks.Ask queue step) h = met_in (found_uid w queue) (λ uid. steps_served w uid at step) h
  met_memory task h = h

  pub begun_served : (request : Request) (task : Task) → Begins request task
      → Meets result (result_map shown.Reply (task_served w at task).answer) → Leaves result left (task_served w at task).house
      → Meets result (result_map shown.Reply (task_served w at (task_of request)).answer) × Leaves result left (task_served w at (task_of request)).house
  begun_served request task (inl same) meets leaves = subst (λ (t : Task). IsMet (task_served w at t)) same (meets, leaves)
  begun_served request task (inr (batch, memory)) meets leaves =
      met_memory (task_of request) (subst (λ (t : Task). IsMet (task_served w at t)) memory (meets, leaves))
