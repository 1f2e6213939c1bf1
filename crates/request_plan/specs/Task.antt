-- What a request is about: one queue, and the first command for it, or the directory of queues (Amazon SQS API Reference).
use Rattle.std.specs.Prelude.{◌≡◌, ◌⊎◌, Bool, true, false, List, ℕ, Option, Some, None, Err}
use Rattle.message.specs.declared.fault.Fault.TheVariants.{OutOfMemory}
use Rattle.queue_core.specs.declared.command.Command.TheVariants as commands
use Rattle.aws_json.specs.declared.request.Request.{Request}
use Rattle.aws_json.specs.declared.request.Request.TheVariants as requests
use Rattle.request_plan.specs.declared.plan.Step.TheVariants as steps
use Rattle.request_plan.specs.declared.task.Task.{Task}
use Rattle.request_plan.specs.declared.task.Task.TheVariants.{Create, Delete, Set, Url, Urls, Sources, Ask}
use Rattle.request_plan.specs.Plan.{done, attributes, receive, begins_with_fault, batch}

abbrev pub task_of : Request → Task
task_of (requests.CreateQueue name wish) = Create name wish
task_of (requests.DeleteQueue queue) = Delete queue
task_of (requests.SetQueueAttributes queue wish) = Set queue wish
task_of (requests.GetQueueUrl name) = Url name
task_of (requests.ListQueues prefix) = Urls prefix
task_of (requests.ListDeadLetterSourceQueues queue) = Sources queue
task_of (requests.GetQueueAttributes queue names) = Ask queue (attributes queue names)
task_of (requests.ReceiveMessage queue maximum timeout wait names attributes) =
    Ask queue (receive maximum timeout wait record { names = names; attributes = attributes })
task_of (requests.SendMessage queue content delay) = Ask queue (done (commands.Send content delay))
task_of (requests.DeleteMessage queue handle) = Ask queue (done (commands.Delete handle))
task_of (requests.ChangeMessageVisibility queue handle timeout) = Ask queue (done (commands.Change handle timeout))
task_of (requests.PurgeQueue queue) = Ask queue (done commands.Purge)
task_of (requests.Batch queue entries) = Ask queue (batch entries)

-- the queue that a task names by its URL, if it names one
abbrev pub queue_of_task : Task → Option (List ℕ)
queue_of_task (Create name wish) = None
queue_of_task (Delete queue) = Some queue
queue_of_task (Set queue wish) = Some queue
queue_of_task (Url name) = None
queue_of_task (Urls prefix) = None
queue_of_task (Sources queue) = Some queue
queue_of_task (Ask queue step) = Some queue

-- whether the first step takes memory: of a batch whose first entry has a fault of its own
abbrev pub begins_with_memory : Request → Bool
begins_with_memory (requests.Batch queue entries) = begins_with_fault entries
begins_with_memory request = false

-- a task whose first step found no memory: the same queue, and that answer
abbrev pub task_without_memory : Task → Task
task_without_memory (Ask queue step) = Ask queue (steps.Answer (Err OutOfMemory))
task_without_memory task = task

-- a request begins with its task; where the first step takes memory, it may find none
abbrev pub Begins : Request → Task → Type 0
Begins request task = (task ≡ task_of request) ⊎ ((begins_with_memory request ≡ true) × (task ≡ task_without_memory (task_of request)))
