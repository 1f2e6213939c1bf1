-- The queue registry over a list of steps: queues created and deleted, commands for one queue, and time that passes for all.
use Rattle.std.specs.Prelude.{◌≡◌, ℕ, ◌==◌, Bool, true, false, if◌then◌else◌, IfSome, is_some, option_and_then, List, [], ◌∷◌, map, slice_get, Option, Some, None, Result, Ok, Err}
use Rattle.std.specs.Option.{option_map, option_map_or}
use Rattle.message.specs.Content.{content_size}
use Rattle.message.specs.declared.fault.Fault.{Fault}
use Rattle.message.specs.declared.fault.Fault.TheVariants.{QueueDoesNotExist}
use Rattle.message.specs.Fault.{is_out_of_memory, Meets}
use Rattle.queue_config.specs.Settings.{QueueSettings, default_settings, settings_with}
use Rattle.queue_core.specs.declared.command.Command.{Command}
use Rattle.queue_core.specs.declared.command.Command.TheVariants as commands
use Rattle.queue_core.specs.declared.parcel.Parcel.{Parcel}
use Rattle.queue_core.specs.declared.reply.Reply.{Reply}
use Rattle.queue_core.specs.declared.reply.Reply.TheVariants as replies
use Rattle.queue_core.specs.States.{gauges_of}
use Rattle.queue_core.specs.Metrics.{current_flows, row_of, alarm_state_in}
use Rattle.queue_core.specs.Queue.{QueueHistory, at_moment, rebased_where, outcome_at, after_answer, offered_candidates, offers_of}
use Rattle.redrive.specs.declared.moved.Moved.{Moved}
use Rattle.redrive.specs.declared.moved.Moved.TheVariants as moved
use Rattle.redrive.specs.declared.steps.HouseReply.{HouseReply}
use Rattle.redrive.specs.declared.steps.HouseReply.TheVariants.{Created, Deleted, Performed, HandedOver, Confirmed, Advanced}
use Rattle.redrive.specs.declared.steps.HouseStep.{HouseStep}
use Rattle.redrive.specs.declared.steps.HouseStep.TheVariants as steps
use Rattle.redrive.specs.declared.steps.QueueMetrics.{QueueMetrics}
use Rattle.redrive.specs.House.{House, next_queue, with_queue, queue_named, queue_of_uid, target_uid, opens_queue, created_answer, step_refusal, reply_alone, takes_alone, house_after_command, closed_queue, taken_alone, house_after_delete, first_parcel_in, delivery_of, moved_of, accepted_number, needs_confirmation, house_at_moment}
use Rattle.redrive.specs.History.{AllQueues}

abbrev pub HouseAnswer : Type 0
HouseAnswer = Result HouseReply Fault

abbrev pub as_house_reply : {T : Type 0} → (T → HouseReply) → Result T Fault → HouseAnswer
as_house_reply reply (Ok x) = Ok (reply x)
as_house_reply reply (Err fault) = Err fault

-- ---- what a step does

-- what changes: nothing; the queue of a uid, which performs a command; one queue more, of the next uid; one fewer; or the clock of every queue
pub data HouseChange : Type 0 where
  Nothing : HouseChange
  Performs : (uid : ℕ) (command : Command) → HouseChange
  Opens : (name : List ℕ) (settings : QueueSettings) → HouseChange
  Closes : (uid : ℕ) → HouseChange
  Passes : HouseChange

-- the moment of a step; the uid of the queue that it is for, if it is for one alone; what is answered, and whether that takes memory, where that queue is there and
-- where it is not; and what changes
pub record Act : Type 0 where
  pub at : ℕ
  pub uid : Option ℕ
  pub answer : Option QueueHistory → HouseAnswer
  pub takes_memory : Option QueueHistory → Bool
  pub change : HouseChange

-- what is refused before a queue is asked
abbrev pub refuses : ℕ → ℕ → Fault → Act
refuses at uid fault = record { at = at; uid = Some uid; answer = λ q. Err fault; takes_memory = λ q. false; change = Nothing }

-- what is answered for a queue that has nothing to do
abbrev pub idles : ℕ → ℕ → HouseReply → Act
idles at uid reply = record { at = at; uid = Some uid; answer = λ q. if is_some q then Ok reply else Err QueueDoesNotExist; takes_memory = λ q. false; change = Nothing }

-- the queue of a uid is asked
abbrev pub performs : ℕ → ℕ → Command → (Reply → HouseReply) → Act
performs at uid command reply = record {
  at = at;
  uid = Some uid;
  answer = λ q. as_house_reply reply (reply_alone q at command);
  takes_memory = λ q. takes_alone q at command;
  change = Performs uid command;
}

-- a command, which may be refused before it comes to the queue of a uid
abbrev pub perform_act : ℕ → ℕ → Command → Option Fault → Act
perform_act at uid command (Some fault) = refuses at uid fault
perform_act at uid command None = performs at uid command Performed

-- the first parcel of a source is handed over
abbrev pub hand_over_act : House → ℕ → ℕ → Option Parcel → Act
hand_over_act w at source (Some p) = performs at (delivery_of w source p).uid (delivery_of w source p).command (λ reply. HandedOver (moved_of reply))
hand_over_act w at source None = idles at source (HandedOver moved.None)

-- the first parcel of a source is confirmed, where its number is known
abbrev pub confirm_act : ℕ → ℕ → Option ℕ → Act
confirm_act at source (Some number) = performs at source (commands.Settle number) Confirmed
confirm_act at source None = idles at source (Confirmed (replies.Settled false))

-- A create is for the queue of the name, or for the next uid where no queue has it. A hand-over is for the queue that the parcel goes to, or comes back to, and
-- for its source where no parcel waits
abbrev pub act_of : House → HouseStep → Act
act_of w (steps.Create at name wish) = record {
  at = at;
  uid = Some (option_map_or (λ q. q.uid) (queue_named w name) w.next_uid);
  answer = λ q. as_house_reply Created (created_answer w name wish q);
  takes_memory = λ q. opens_queue w name wish;
  change = if opens_queue w name wish then Opens name (settings_with default_settings wish (target_uid w wish)) else Nothing;
}
act_of w (steps.Delete at uid) = record {
  at = at;
  uid = Some uid;
  answer = λ q. as_house_reply Deleted (taken_alone q at);
  takes_memory = λ q. is_some q;
  change = Closes uid;
}
act_of w (steps.Perform at uid command) = perform_act at uid command (step_refusal w uid command)
act_of w (steps.HandOver at source) = hand_over_act w at source (first_parcel_in w source)
act_of w (steps.Confirm at source) = confirm_act at source (accepted_number w source)
act_of w (steps.Advance at) = record { at = at; uid = None; answer = λ q. Ok Advanced; takes_memory = λ q. false; change = Passes }

-- ---- one step

-- the queue that a step is for
abbrev pub found_for : House → Act → Option QueueHistory
found_for w act = option_and_then (queue_of_uid w) act.uid

abbrev pub answer_of_act : House → Act → HouseAnswer
answer_of_act w act = act.answer (found_for w act)

abbrev pub answer_of_step : House → HouseStep → HouseAnswer
answer_of_step w step = answer_of_act w (act_of w step)

-- whether it needs memory: where it opens a queue, adds to the journal of one or begins it anew, or shares the content of a parcel for its client. To hand a
-- parcel over, memory is needed only where the queue that it goes to adds to its journal or begins it anew
abbrev pub needs_memory : House → HouseStep → Bool
needs_memory w step = (act_of w step).takes_memory (found_for w (act_of w step))

-- the registry that a change leaves where it is answered so
abbrev pub house_changed : House → ℕ → HouseChange → HouseAnswer → House
house_changed w at Nothing answer = w
house_changed w at (Performs uid command) answer = house_after_command w uid at command answer
house_changed w at (Opens name settings) answer = if is_out_of_memory answer then w else with_queue w (next_queue w at name settings [])
house_changed w at (Closes uid) answer = house_after_delete w uid at answer
house_changed w at Passes answer = house_at_moment w at

abbrev pub house_after : House → HouseStep → HouseAnswer → House
house_after w step answer = house_changed w (act_of w step).at (act_of w step).change answer

-- the queues that were deleted, with the one that a change closes
abbrev pub with_closed : House → ℕ → HouseChange → HouseAnswer → List QueueHistory → List QueueHistory
with_closed w at (Closes uid) answer deleted =
    if is_out_of_memory answer then deleted else option_map_or (λ q. closed_queue q at ∷ deleted) (queue_of_uid w uid) deleted
with_closed w at change answer deleted = deleted

-- everything after a change, an act, and a step
abbrev pub all_changed : AllQueues → ℕ → HouseChange → HouseAnswer → AllQueues
all_changed all at change answer =
    record { house = house_changed all.house at change answer; deleted = with_closed all.house at change answer all.deleted }

abbrev pub all_left : AllQueues → Act → HouseAnswer → AllQueues
all_left all act answer = all_changed all act.at act.change answer

abbrev pub all_after : AllQueues → HouseStep → HouseAnswer → AllQueues
all_after all step answer = all_left all (act_of all.house step) answer

-- ---- a list of steps

-- the answer is that of the registry; only a step that needs memory may find none
pub record IsAnswerOf (w : House) (step : HouseStep) (answer : HouseAnswer) : Type 0 where
  pub meets : Meets answer (answer_of_step w step)
  pub exact : needs_memory w step ≡ false → answer ≡ answer_of_step w step

-- each answer is that of the registry which the answers before it leave
abbrev pub AreHouseAnswers : House → List HouseStep → List HouseAnswer → Type 0
AreHouseAnswers w [] [] = Unit {0}
AreHouseAnswers w [] (answer ∷ answers) = ⊥
AreHouseAnswers w (step ∷ steps) [] = ⊥
AreHouseAnswers w (step ∷ steps) (answer ∷ answers) = IsAnswerOf w step answer × AreHouseAnswers (house_after w step answer) steps answers

-- the registry that the answers leave
abbrev pub house_after_all : House → List HouseStep → List HouseAnswer → House
house_after_all w [] answers = w
house_after_all w (step ∷ steps) [] = w
house_after_all w (step ∷ steps) (answer ∷ answers) = house_after_all (house_after w step answer) steps answers

-- some answers of the registry to these steps leave the new house
pub record AreStepsTo (old : House) (steps : List HouseStep) (new : House) : Type 0 where
  pub answers : List HouseAnswer
  pub answered : AreHouseAnswers old steps answers
  pub left : new ≡ house_after_all old steps answers

-- the steps of a move whose hand-over is answered so
abbrev pub steps_of_move : ℕ → ℕ → Result Moved Fault → List HouseStep
steps_of_move source at handed_over = steps.HandOver at source ∷ (if needs_confirmation handed_over then steps.Confirm at source ∷ [] else [])

-- everything that the answers leave
abbrev pub history_after : AllQueues → List HouseStep → List HouseAnswer → AllQueues
history_after all [] answers = all
history_after all (step ∷ steps) [] = all
history_after all (step ∷ steps) (answer ∷ answers) = history_after (all_after all step answer) steps answers

-- ---- one queue of many

-- what a change leaves of the queue of a uid, if there is one: it sees its own opening, the commands that are for it, its deletion, and time, and nothing else
abbrev pub queue_changed : House → ℕ → Option QueueHistory → ℕ → HouseChange → HouseAnswer → Option QueueHistory
queue_changed w uid q at Nothing answer = q
queue_changed w uid q at (Performs own command) answer = if own == uid then option_map (λ q. after_answer q at command answer) q else q
queue_changed w uid q at (Opens name settings) answer =
    if is_out_of_memory answer then q else if w.next_uid == uid then Some (next_queue w at name settings []) else q
queue_changed w uid q at (Closes own) answer = if own == uid then (if is_out_of_memory answer then option_map (λ q. at_moment q at) q else None) else q
queue_changed w uid q at Passes answer = option_map (λ q. at_moment q at) q

abbrev pub queue_after : House → ℕ → Option QueueHistory → HouseStep → HouseAnswer → Option QueueHistory
queue_after w uid q step answer = queue_changed w uid q (act_of w step).at (act_of w step).change answer

-- what the queue of a uid answers by itself to a step that is for it, or for all: to a create of its name, its deletion, its commands, a parcel that comes to it or
-- comes back, its confirmations, and, as a source, that no parcel waits or that it is not there
abbrev pub answer_alone : House → ℕ → Option QueueHistory → HouseStep → Option HouseAnswer
answer_alone w uid q step = if option_map_or (λ own. own == uid) (act_of w step).uid true then Some ((act_of w step).answer q) else None

-- the queue of a uid answers all that is for it, and becomes what the commands for it leave, as if no other queue were there
abbrev pub IsAsIfAlone : House → ℕ → Option QueueHistory → List HouseStep → List HouseAnswer → Option QueueHistory → Type 0
IsAsIfAlone w uid q [] answers new = new ≡ q
IsAsIfAlone w uid q (step ∷ steps) [] new = new ≡ q
IsAsIfAlone w uid q (step ∷ steps) (answer ∷ answers) new =
    IfSome (answer_alone w uid q step) (λ wanted. Meets answer wanted) × IsAsIfAlone (house_after w step answer) uid (queue_after w uid q step answer) steps answers new

-- ---- what is told of the queues is recomputed from their journals

-- a look tells the counts and the age, and a receive offers the first messages of the order, that the journal gives: with a checkpoint for its first entry,
-- where one came first
abbrev pub IsTold : QueueHistory → Command → Reply → Type 0
IsTold q commands.Look (replies.Looked look) = look.gauges ≡ gauges_of q.lines q.clock
IsTold q (commands.Receive maximum timeout) (replies.Received offers) = offers ≡ offers_of q (offered_candidates q maximum)
IsTold q _ _ = Unit {0}

abbrev pub IsToldIn : House → ℕ → HouseChange → HouseAnswer → Type 0
IsToldIn w at (Performs uid command) (Ok (Performed reply)) = IfSome (queue_of_uid w uid) (λ q. IsTold (rebased_where (outcome_at q at command).rebases (at_moment q at)) command reply)
IsToldIn w at change answer = Unit {0}

abbrev pub IsToldBy : House → HouseStep → HouseAnswer → Type 0
IsToldBy w step answer = IsToldIn w (act_of w step).at (act_of w step).change answer

abbrev pub AreTold : House → List HouseStep → List HouseAnswer → Type 0
AreTold w [] answers = Unit {0}
AreTold w (step ∷ steps) [] = Unit {0}
AreTold w (step ∷ steps) (answer ∷ answers) = IsToldBy w step answer × AreTold (house_after w step answer) steps answers

-- what the journal of a queue gives at its clock: the counts and the age, the current minute, the row of a minute, and the state of the alarm at a place
abbrev pub metrics_of : ℕ → ℕ → QueueHistory → QueueMetrics
metrics_of minute alarm q = record {
  uid = q.uid;
  gauges = gauges_of q.lines q.clock;
  current = current_flows content_size q.lines q.clock;
  row = row_of content_size q.lines q.clock minute;
  alarm = option_map (λ rule. alarm_state_in content_size q.lines q.clock rule) (slice_get q.rules alarm);
}

-- the main theorem of the registry: each look, each receive, and at the end the counts, the age, each row and each alarm of every queue are what the journal of the queue gives
pub record AreRecomputed (old new : House) (steps : List HouseStep) (answers : List HouseAnswer) (minute alarm : ℕ) (metrics : List QueueMetrics) : Type 0 where
  pub told : AreTold old steps answers
  pub measured : metrics ≡ map (λ q. metrics_of minute alarm q) new.queues
