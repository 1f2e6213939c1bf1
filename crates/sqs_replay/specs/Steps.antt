-- The steps of the queue registry by which a replay goes on.
use Rattle.std.specs.Prelude.{◌≡◌, ℕ, ⊤, Bool, true, false, List, [], ◌∷◌, ◌++◌, map, Result, Ok, Err}
use Rattle.message.specs.declared.fault.Fault.{Fault}
use Rattle.queue_config.specs.Config.{Configuration}
use Rattle.redrive.specs.declared.steps.HouseStep.{HouseStep}
use Rattle.redrive.specs.declared.steps.HouseStep.TheVariants as steps
use Rattle.redrive.specs.House.{House, new_house}
use Rattle.redrive.specs.HouseSteps.{HouseAnswer, AreHouseAnswers, AreTold, house_after_all, history_after}
use Rattle.redrive.specs.History.{AllQueues}
use Rattle.redrive.specs.HistorySteps.{Own}
use Rattle.redrive.specs.WholeSteps.{whole_after_steps}
use Rattle.redrive.specs.Places.{first_history, EachAcceptedOnce, EachHasItsFate, EachHasOnePlace, NoRelayDeleted}
use Rattle.request_plan.specs.declared.task.Task.{Task}
use Rattle.request_plan.specs.declared.task.Task.TheVariants as tasks
use Rattle.request_plan.specs.Task.{task_of}
use Rattle.sqs_replay.specs.declared.answer.Asked.{Asked}
use Rattle.sqs_replay.specs.declared.answer.Asked.TheVariants.{Client}
use Rattle.sqs_replay.specs.declared.answer.Timed.{Timed}
use Rattle.sqs_replay.specs.Served.{asked_of, text_of_line, house_of_line}

-- steps, the registry's answers to them, of which each look and each receive tells what the journal of its queue gives, and the registry that they leave
pub record LineCourse (old new : House) : Type 0 where
  pub steps : List HouseStep
  pub answers : List HouseAnswer
  pub answered : AreHouseAnswers old steps answers
  pub told : AreTold old steps answers
  pub left : new ≡ house_after_all old steps answers

-- each line is answered in a registry that steps have left, from the first one on, and so is what comes behind the last line
abbrev pub IsOutputOf : House → House → List (List ℕ) → List ℕ → Type 0
IsOutputOf first now [] output = LineCourse first now × (output ≡ [])
IsOutputOf first now (line ∷ lines) output =
    LineCourse first now × ((rest : List ℕ) × ((output ≡ text_of_line now line ++ rest) × IsOutputOf first (house_of_line now line) lines rest))

-- whether a step deletes a queue
abbrev pub is_deletion : HouseStep → Bool
is_deletion (steps.Delete at uid) = true
is_deletion step = false

-- no step of a list does
abbrev pub DeleteNone : List HouseStep → Type 0
DeleteNone [] = ⊤
DeleteNone (step ∷ steps) = (is_deletion step ≡ false) × DeleteNone steps

-- whether a task is to delete a queue
abbrev pub deletes : Task → Bool
deletes (tasks.Delete queue) = true
deletes task = false

-- whether what is asked is the deletion of a queue, so only of DeleteQueue
abbrev pub deletes_queue : Asked → Bool
deletes_queue (Client request) = deletes (task_of request)
deletes_queue asked = false

-- the same of a line, where it can be read
abbrev pub asks_deletion : Result Timed Fault → Bool
asks_deletion (Ok timed) = deletes_queue timed.asked
asks_deletion (Err fault) = false

-- no line asks for it
abbrev pub AskNoDeletion : List (List ℕ) → Type 0
AskNoDeletion [] = ⊤
AskNoDeletion (line ∷ lines) = (asks_deletion (asked_of line) ≡ false) × AskNoDeletion lines

-- everything that such steps leave of the configured queues, each with its whole journal
abbrev pub everything_after : (config : Configuration) (new : House) → LineCourse (new_house config 0) new → AllQueues
everything_after config new course = whole_after_steps (first_history config 0) (map Own course.steps) course.answers

-- the same with the journals that are there, which may begin with a checkpoint
abbrev pub kept_after : (config : Configuration) (new : House) → LineCourse (new_house config 0) new → AllQueues
kept_after config new course = history_after (first_history config 0) course.steps course.answers

-- no dead letter is accepted twice, each has its fate, and each message is in one place, by whole journals; the first and the last also by those that are there
pub record KeepsDeadLetters (config : Configuration) (new : House) (course : LineCourse (new_house config 0) new) : Type 0 where
  pub once : EachAcceptedOnce (everything_after config new course)
  pub fates : EachHasItsFate (everything_after config new course)
  pub places : NoRelayDeleted (first_history config 0) (map Own course.steps) course.answers → EachHasOnePlace (everything_after config new course)
  pub kept_once : EachAcceptedOnce (kept_after config new course)
  pub kept_places : NoRelayDeleted (first_history config 0) (map Own course.steps) course.answers → EachHasOnePlace (kept_after config new course)
