-- Runs of a registry with three queues, each named for what happened in it. Uid 1 has uid 2 as its dead-letter queue, and uid 2 has uid 3; a message leaves after one receive. Times are in milliseconds.
use Rattle.std.specs.Prelude.{ℕ, List, [], ◌∷◌, ◌++◌, map, filter, Some, None}
use Rattle.std.specs.List.{flat_map}
use Rattle.message.specs.declared.id.MessageId.{MessageId}
use Rattle.message.specs.Content.{ContentText}
use Rattle.queue_config.specs.Config.{Configuration}
use Rattle.queue_config.specs.Limits.{default_limits}
use Rattle.queue_config.specs.Settings.{QueueSettings, default_settings}
use Rattle.queue_core.specs.declared.command.Command.TheVariants.{Send, Receive, Delete}
use Rattle.queue_core.specs.Messages.{messages, message_id}
use Rattle.queue_core.specs.States.{is_live}
use Rattle.queue_core.specs.Queue.{QueueHistory}
use Rattle.redrive.specs.declared.steps.HouseStep.{HouseStep}
use Rattle.redrive.specs.declared.steps.HouseStep.TheVariants as steps
use Rattle.redrive.specs.History.{AllQueues}
use Rattle.redrive.specs.HouseSteps.{HouseAnswer}
use Rattle.redrive.specs.HistorySteps.{HistoryStep, Own, Settle, answer_in_history, after_history_step, after_history_steps}
use Rattle.redrive.specs.Places.{first_history}

-- what is answered where no memory is wanting
abbrev pub answers_to : AllQueues → List HistoryStep → List HouseAnswer
answers_to all [] = []
answers_to all (step ∷ steps) = answer_in_history all step ∷ answers_to (after_history_step all step (answer_in_history all step)) steps

-- a message where it is live: the queue's uid, its number there, and its id
pub record Standing : Type 0 where
  pub uid : ℕ
  pub number : ℕ
  pub id : MessageId

abbrev pub standing_in : QueueHistory → List Standing
standing_in q = map (λ m. record { uid = q.uid; number = m.number; id = message_id q.uid m }) (filter (λ m. is_live q.lines q.clock m) (messages q.lines))

abbrev pub all_standing : AllQueues → List Standing
all_standing all = flat_map standing_in all.house.queues

-- ---- the queues

abbrev pub with_target : List ℕ → ℕ → QueueSettings
with_target name uid = record default_settings { redrive_policy = Some (record { name = name; target = uid; max_receive_count = 1 }) }

abbrev pub name_a : List ℕ
name_a = 97 ∷ []

abbrev pub name_b : List ℕ
name_b = 98 ∷ []

abbrev pub name_c : List ℕ
name_c = 99 ∷ []

abbrev pub three_queues : Configuration
three_queues = record {
  limits = default_limits;
  queues = record { name = name_a; settings = with_target name_b 2 } ∷ record { name = name_b; settings = with_target name_c 3 } ∷ record { name = name_c; settings = default_settings } ∷ [];
  alarms = [];
}

-- what is live after these steps, and after such of the registry
abbrev pub standing_after_all : List HistoryStep → List Standing
standing_after_all steps = all_standing (after_history_steps (first_history three_queues 0) steps (answers_to (first_history three_queues 0) steps))

abbrev pub standing_after : List HouseStep → List Standing
standing_after steps = standing_after_all (map Own steps)

-- ---- steps

abbrev pub letter : ContentText
letter = record { body = 97 ∷ []; attributes = [] }

-- a message is received, and again at once, by which it leaves
abbrev pub received_twice : ℕ → List HouseStep
received_twice uid = steps.Perform 1000 uid (Receive 1 (Some 0)) ∷ steps.Perform 1000 uid (Receive 1 (Some 0)) ∷ []

abbrev pub sent_and_received_twice : List HouseStep
sent_and_received_twice = steps.Perform 1000 1 (Send letter None) ∷ received_twice 1

-- from uid 1 to uid 2, which is not confirmed
abbrev pub handed_over : List HouseStep
handed_over = sent_and_received_twice ++ steps.HandOver 1000 1 ∷ []

-- and from there to uid 3
abbrev pub relayed : List HouseStep
relayed = handed_over ++ received_twice 2 ++ steps.HandOver 1000 2 ∷ []

-- uid 2 is deleted before uid 1 had its transfer confirmed, and uid 1 takes the message back
abbrev pub relayed_and_deleted : List HouseStep
relayed_and_deleted = relayed ++ steps.Delete 1000 2 ∷ steps.HandOver 1000 1 ∷ []

-- the same, where the transfer was confirmed before
abbrev pub confirmed_and_deleted : List HouseStep
confirmed_and_deleted = relayed ++ steps.Confirm 1000 1 ∷ steps.Delete 1000 2 ∷ steps.HandOver 1000 1 ∷ []

-- uid 2 is deleted before uid 1 had its transfer confirmed, which threads confirm still, and the registry does not
abbrev pub confirmed_late : List HistoryStep
confirmed_late = map Own (handed_over ++ steps.Delete 1000 2 ∷ []) ++ Settle 1000 1 ∷ Own (steps.HandOver 1000 1) ∷ []

abbrev pub confirmed_late_by_itself : List HouseStep
confirmed_late_by_itself = handed_over ++ steps.Delete 1000 2 ∷ steps.Confirm 1000 1 ∷ steps.HandOver 1000 1 ∷ []

-- the message is deleted in uid 2, and then uid 2, and uid 1 takes the message back
abbrev pub deleted_with_its_queue : List HouseStep
deleted_with_its_queue =
    handed_over ++ steps.Perform 1000 2 (Receive 1 (Some 0)) ∷ steps.Perform 1000 2 (Delete (record { uid = 2; number = 0; receipt = 1 })) ∷ steps.Delete 1000 2
    ∷ steps.HandOver 1000 1 ∷ []

-- the message that was sent to uid 1, under a number of a queue
abbrev pub stands_at : ℕ → ℕ → Standing
stands_at uid number = record { uid = uid; number = number; id = record { uid = 1; number = 0 } }
