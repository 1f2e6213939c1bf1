-- What a line of the input asks, and what the registry answers it.
use Rattle.std.specs.Prelude.{◌≡◌, ℕ, zero, suc, ⊤, nat_lt, if◌then◌else◌, List, ◌++◌, length, codes, decimal, Option, Some, None, option_and_then, Result, Ok, Err, MatchBool}
use Rattle.std.specs.Option.{option_map_or}
use Rattle.std.specs.Str.{bytes_eq}
use Rattle.message.specs.declared.fault.Fault.{Fault}
use Rattle.message.specs.declared.fault.Fault.TheVariants.{QueueDoesNotExist, SerializationException, OutOfMemory}
use Rattle.message.specs.Fault.{is_out_of_memory}
use Rattle.queue_core.specs.declared.command.Command.{Command}
use Rattle.queue_core.specs.declared.command.Command.TheVariants as commands
use Rattle.queue_core.specs.declared.reply.Reply.{Reply}
use Rattle.serde_json.specs.Written.{compact_text}
use Rattle.aws_json.specs.Steps.{◌>>=◌, result_map, required}
use Rattle.aws_json.specs.Members.{object_of}
use Rattle.aws_json.specs.Request.{request_of, queue_of_body}
use Rattle.aws_json.specs.Reply.{reply_data}
use Rattle.aws_json.specs.FaultText.{fault_body, fault_status}
use Rattle.aws_json.specs.declared.request.Request.{Request}
use Rattle.aws_json.specs.declared.reply.ReplyShape.{ReplyShape}
use Rattle.aws_json.specs.declared.reply.ReplyShape.TheVariants.{QueueUrl, QueueUrls, SourceQueueUrls, Nothing}
use Rattle.request_plan.specs.declared.plan.Performed.{Performed}
use Rattle.request_plan.specs.declared.plan.Step.{Step}
use Rattle.request_plan.specs.declared.plan.Step.TheVariants as steps
use Rattle.request_plan.specs.declared.plan.Then.{Then}
use Rattle.request_plan.specs.declared.plan.Then.TheVariants as thens
use Rattle.request_plan.specs.declared.task.Task.{Task}
use Rattle.request_plan.specs.declared.task.Task.TheVariants as tasks
use Rattle.request_plan.specs.Plan.{after}
use Rattle.request_plan.specs.Task.{queue_of_task, task_of}
use Rattle.sqs_replay.specs.declared.answer.Asked.{Asked}
use Rattle.sqs_replay.specs.declared.answer.Asked.TheVariants.{Client, Tick, Statistics, Rows, Alarms}
use Rattle.sqs_replay.specs.declared.answer.Timed.{Timed}
use Rattle.sqs_replay.specs.declared.shown.LineAnswer.{LineAnswer}
use Rattle.sqs_replay.specs.declared.shown.LineAnswer.TheVariants as shown
use Rattle.board.specs.Sheet as board
use Rattle.board.specs.Queue.{sheet_of}
use Rattle.statistics_api.specs.Texts.{sheet_text, sheets_text, rows_text, alarms_text}
use Rattle.sqs_replay.specs.Cutting.{longest_line}
use Rattle.sqs_replay.specs.InputLine.{input_line_of}
use Rattle.redrive.specs.House.{House, queue_of_uid, found_uid, target_uid, create_answer, house_after_create, step_answer, house_after_step, delete_answer, house_after_delete, names_in_house, sources_answer, house_at_moment}
use Rattle.sqs_replay.specs.Moves.{all_moves}
use Rattle.sqs_replay.specs.Sheets.{sheets_of}

-- ---- what a line asks

-- the queue that a body has to name
abbrev pub required_queue : List ℕ → Result (List ℕ) Fault
required_queue body = queue_of_body body >>= required

-- one of the replay's own actions, or a client's request
abbrev pub asked_by : List ℕ → List ℕ → Result Asked Fault
asked_by action body =
    if bytes_eq action (codes "Tick") then result_map (λ d. Tick) (object_of body)
    else if bytes_eq action (codes "Statistics") then result_map Statistics (queue_of_body body)
    else if bytes_eq action (codes "Rows") then result_map Rows (required_queue body)
    else if bytes_eq action (codes "Alarms") then result_map Alarms (required_queue body)
    else result_map Client (request_of action body)

-- a line that is too long cannot be read, whatever it says
abbrev pub asked_of : List ℕ → Result Timed Fault
asked_of line =
    if nat_lt longest_line (length line) then Err SerializationException
    else (input_line_of line >>= λ parts. result_map (λ asked. record { at = parts.at; asked = asked }) (asked_by parts.action parts.body))

-- ---- what an action answers, and what it leaves

-- the answer, and the house after it
pub record AnswerAndHouse (T : Type 0) : Type 0 where
  pub answer : T
  pub house : House

-- nothing changes
abbrev pub unchanged : {T : Type 0} → House → T → AnswerAndHouse T
unchanged w answer = record { answer = answer; house = w }

-- a call of the queue registry, by its answer and what it leaves with an answer
abbrev pub called : {T : Type 0} → Result T Fault → (Result T Fault → House) → AnswerAndHouse (Result T Fault)
called answer after = record { answer = answer; house = after answer }

-- the same with another form of its answer
abbrev pub told : {A B : Type 0} → (A → B) → AnswerAndHouse A → AnswerAndHouse B
told form s = record { answer = form s.answer; house = s.house }

-- what is done in the queue of a name; nothing where no queue has it
abbrev pub in_queue : {T : Type 0} → House → List ℕ → (ℕ → AnswerAndHouse (Result T Fault)) → AnswerAndHouse (Result T Fault)
in_queue w name serve = option_map_or serve (found_uid w name) (unchanged w (Err QueueDoesNotExist))

-- a command in the queue of a uid
abbrev pub command_served : House → ℕ → ℕ → Command → AnswerAndHouse (Result Reply Fault)
command_served w uid at command = called (step_answer w uid at command) (house_after_step w uid at command)

-- the deletion of the queue of a uid
abbrev pub delete_served : House → ℕ → ℕ → AnswerAndHouse (Result (Unit {0}) Fault)
delete_served w uid at = called (delete_answer w uid) (house_after_delete w uid at)

-- ---- requests, each by its plan: what it is about, and the steps that it asks of one queue

-- what became of a command that was answered so
abbrev pub outcome_of : Command → Result Reply Fault → Result Performed Fault
outcome_of command answer = result_map (λ reply. record { command = command; reply = reply }) answer

-- a command in the queue of a uid, and the step that comes behind it
abbrev pub step_served : House → ℕ → ℕ → Command → Then → AnswerAndHouse Step
step_served w uid at command purpose = told (λ answer. after uid purpose (outcome_of command answer)) (command_served w uid at command)

-- Steps in the queue of a uid, one after another until there is an answer: so many commands at most, and then as if memory had run out. The replay does
-- not wait, so the seconds are not looked at
abbrev pub played : ℕ → House → ℕ → ℕ → Step → AnswerAndHouse (Result ReplyShape Fault)
played n w uid at (steps.Answer answer) = unchanged w answer
played zero w uid at (steps.Ask command seconds purpose) = unchanged w (Err OutOfMemory)
played (suc n) w uid at (steps.Ask command seconds purpose) =
    played n (step_served w uid at command purpose).house uid at (step_served w uid at command purpose).answer

-- how many commands may come behind one that was asked for this
abbrev pub most_behind : Then → ℕ
most_behind (thens.Receive maximum timeout told) = 1
most_behind (thens.Entry id es answers) = length es
most_behind purpose = 0

-- how many commands a step may ask in all
abbrev pub most_commands : Step → ℕ
most_commands (steps.Ask command seconds purpose) = suc (most_behind purpose)
most_commands (steps.Answer answer) = 0

-- from a step on, all that it may ask
abbrev pub steps_served : House → ℕ → ℕ → Step → AnswerAndHouse (Result ReplyShape Fault)
steps_served w uid at step = played (most_commands step) w uid at step

abbrev pub task_served : House → ℕ → Task → AnswerAndHouse (Result ReplyShape Fault)
task_served w at (tasks.Create name wish) = told (result_map (λ uid. QueueUrl name))
    (called (create_answer w name wish) (house_after_create w at name wish))
task_served w at (tasks.Delete queue) = in_queue w queue (λ uid. told (result_map (λ deleted. Nothing)) (delete_served w uid at))
task_served w at (tasks.Set queue wish) = in_queue w queue
    (λ uid. told (result_map (λ reply. Nothing)) (command_served w uid at (commands.Set wish (target_uid w wish))))
task_served w at (tasks.Url name) = in_queue w name (λ uid. unchanged w (Ok (QueueUrl name)))
task_served w at (tasks.Urls prefix) = unchanged w (Ok (QueueUrls (names_in_house w prefix)))
task_served w at (tasks.Sources queue) = in_queue w queue (λ uid. unchanged w (result_map SourceQueueUrls (sources_answer w uid)))
task_served w at (tasks.Ask queue step) = in_queue w queue (λ uid. steps_served w uid at step)

abbrev pub served : House → ℕ → Request → AnswerAndHouse (Result ReplyShape Fault)
served w at request = task_served w at (task_of request)

-- ---- statistics

-- those of the queue of a uid
abbrev pub sheet_in : House → ℕ → Result board.Sheet Fault
sheet_in w uid = option_map_or (λ q. Ok (sheet_of q)) (queue_of_uid w uid) (Err QueueDoesNotExist)

-- the same after a look at the queue, which moves its clock to that moment
abbrev pub sheet_served : House → ℕ → ℕ → AnswerAndHouse (Result board.Sheet Fault)
sheet_served w uid at = told (λ reply. sheet_in (command_served w uid at commands.Look).house uid) (command_served w uid at commands.Look)

-- the same of the queue of a name
abbrev pub named_sheet_served : House → ℕ → List ℕ → AnswerAndHouse (Result board.Sheet Fault)
named_sheet_served w at name = in_queue w name (λ uid. sheet_served w uid at)

-- what is shown of it
abbrev pub sheet_shown : (board.Sheet → LineAnswer) → House → ℕ → List ℕ → AnswerAndHouse (Result LineAnswer Fault)
sheet_shown show w at name = told (result_map show) (named_sheet_served w at name)

-- every queue's clock moves to a moment, and then this is the answer
abbrev pub all_served : {T : Type 0} → House → ℕ → (House → T) → AnswerAndHouse T
all_served w at answer = record { answer = answer (house_at_moment w at); house = house_at_moment w at }

-- ---- lines

-- a client's request, or one of the replay's own actions
abbrev pub asked_served : House → ℕ → Asked → AnswerAndHouse (Result LineAnswer Fault)
asked_served w at (Client request) = told (result_map shown.Reply) (served w at request)
asked_served w at Tick = all_served w at (λ after. Ok (shown.Reply Nothing))
asked_served w at (Statistics None) = all_served w at (λ after. Ok (shown.Queues (sheets_of after)))
asked_served w at (Statistics (Some queue)) = sheet_shown shown.Queue w at queue
asked_served w at (Rows queue) = sheet_shown shown.Rows w at queue
asked_served w at (Alarms queue) = sheet_shown shown.Alarms w at queue

-- the queue that a line names by its URL, if it names one
abbrev pub queue_of_asked : Asked → Option (List ℕ)
queue_of_asked (Client request) = queue_of_task (task_of request)
queue_of_asked Tick = None
queue_of_asked (Statistics queue) = queue
queue_of_asked (Rows queue) = Some queue
queue_of_asked (Alarms queue) = Some queue

-- the house after the parcels of the queue of a name moved on, where that queue is there
abbrev pub moves_after : House → ℕ → Option (List ℕ) → House
moves_after w at name = option_map_or (λ uid. all_moves w uid at) (option_and_then (λ name. found_uid w name) name) w

-- the answer, and what the moves leave that come after it
abbrev pub then_moves : {T : Type 0} → ℕ → Option (List ℕ) → AnswerAndHouse T → AnswerAndHouse T
then_moves at name s = record { answer = s.answer; house = moves_after s.house at name }

-- what is asked is answered, and then the dead letters of the queue that it names move on, whatever the answer was
abbrev pub timed_served : House → Timed → AnswerAndHouse (Result LineAnswer Fault)
timed_served w timed = then_moves timed.at (queue_of_asked timed.asked) (asked_served w timed.at timed.asked)

-- a line that cannot be read changes nothing
abbrev pub line_served : House → Result Timed Fault → AnswerAndHouse (Result LineAnswer Fault)
line_served w (Ok timed) = timed_served w timed
line_served w (Err fault) = unchanged w (Err fault)

-- the JSON text of what is shown; no request comes to a port, so URLs have that of the server where it is told no other
abbrev pub shown_text : LineAnswer → List ℕ
shown_text (shown.Reply shape) = compact_text (reply_data 9324 shape)
shown_text (shown.Queue sheet) = sheet_text sheet
shown_text (shown.Queues sheets) = sheets_text sheets
shown_text (shown.Rows sheet) = rows_text sheet.rows
shown_text (shown.Alarms sheet) = alarms_text sheet.alarms

-- the status, a space, the JSON text and a line feed
abbrev pub answer_text : Result LineAnswer Fault → List ℕ
answer_text (Ok shown) = decimal 200 ++ codes " " ++ shown_text shown ++ codes "\n"
answer_text (Err fault) = decimal (fault_status fault) ++ codes " " ++ fault_body fault ++ codes "\n"

-- what answers a line, and the house after it
abbrev pub text_of_line : House → List ℕ → List ℕ
text_of_line w line = answer_text (line_served w (asked_of line)).answer

abbrev pub house_of_line : House → List ℕ → House
house_of_line w line = (line_served w (asked_of line)).house

-- ---- for private clauses

-- what is left is what was wanted, unless memory ran out
abbrev pub Leaves : {T : Type 0} → Result T Fault → House → House → Type 0
Leaves answer left wanted = MatchBool (is_out_of_memory answer) ⊤ (left ≡ wanted)
