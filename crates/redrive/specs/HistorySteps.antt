-- Steps of everything that a registry ever had: the registry's own, and a confirmation that asks deleted queues too. The registry keeps no journal of those, so
-- that its own Confirm asks open queues alone; threads can confirm what a queue accepted before it was deleted.
use Rattle.std.specs.Prelude.{ℕ, false, if◌then◌else◌, option_and_then, List, [], ◌∷◌, Option, Some, None, Ok}
use Rattle.std.specs.Option.{option_map_or}
use Rattle.message.specs.Fault.{Meets}
use Rattle.queue_core.specs.declared.command.Command.TheVariants as commands
use Rattle.queue_core.specs.declared.reply.Reply.TheVariants as replies
use Rattle.redrive.specs.declared.steps.HouseReply.TheVariants.{Confirmed}
use Rattle.redrive.specs.declared.steps.HouseStep.{HouseStep}
use Rattle.redrive.specs.House.{queue_answer, first_parcel_in}
use Rattle.redrive.specs.History.{AllQueues, was_accepted}
use Rattle.redrive.specs.HouseSteps.{HouseAnswer, as_house_reply, Act, confirm_act, act_of, answer_of_step, all_left, IsAnswerOf}

-- one of the registry, or a confirmation of the first parcel of the queue of a uid
pub data HistoryStep : Type 0 where
  Own : HouseStep → HistoryStep
  Settle : (at source : ℕ) → HistoryStep

-- the number of the first parcel of the queue of a uid, where its target, which is there or was deleted, has accepted it
abbrev pub settled_number : AllQueues → ℕ → Option ℕ
settled_number all source =
    option_and_then (λ p. if was_accepted all p.target p.origin.uid p.origin.number then Some p.origin.number else None) (first_parcel_in all.house source)

-- the answer that is wanted; where the parcel is not accepted, its source is not asked
abbrev pub answer_in_history : AllQueues → HistoryStep → HouseAnswer
answer_in_history all (Own step) = answer_of_step all.house step
answer_in_history all (Settle at source) =
    as_house_reply Confirmed (option_map_or (λ number. queue_answer all.house source at (commands.Settle number)) (settled_number all source) (Ok (replies.Settled false)))

abbrev pub IsHistoryAnswer : AllQueues → HistoryStep → HouseAnswer → Type 0
IsHistoryAnswer all (Own step) answer = IsAnswerOf all.house step answer
IsHistoryAnswer all (Settle at source) answer = Meets answer (answer_in_history all (Settle at source))

-- everything after a step that is answered so
abbrev pub act_in_history : AllQueues → HistoryStep → Act
act_in_history all (Own step) = act_of all.house step
act_in_history all (Settle at source) = confirm_act at source (settled_number all source)

abbrev pub after_history_step : AllQueues → HistoryStep → HouseAnswer → AllQueues
after_history_step all step answer = all_left all (act_in_history all step) answer

-- each answer is that of everything which the answers before it leave
abbrev pub AreHistoryAnswers : AllQueues → List HistoryStep → List HouseAnswer → Type 0
AreHistoryAnswers all [] [] = Unit {0}
AreHistoryAnswers all [] (answer ∷ answers) = ⊥
AreHistoryAnswers all (step ∷ steps) [] = ⊥
AreHistoryAnswers all (step ∷ steps) (answer ∷ answers) = IsHistoryAnswer all step answer × AreHistoryAnswers (after_history_step all step answer) steps answers

-- everything that the answers leave
abbrev pub after_history_steps : AllQueues → List HistoryStep → List HouseAnswer → AllQueues
after_history_steps all [] answers = all
after_history_steps all (step ∷ steps) [] = all
after_history_steps all (step ∷ steps) (answer ∷ answers) = after_history_steps (after_history_step all step answer) steps answers
