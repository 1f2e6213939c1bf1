-- What lines ask is done by steps of the registry.
use Rattle.std.proofs.Common.{◌≡◌, ℕ, zero, suc, ◌+◌, ◌<◌, ◌≤◌, Bool, true, false, not, cond, ◌&&◌, List, [], ◌∷◌, ◌++◌, length, get_or, take, Option, Some, None, Result, Ok, Err, refl, sym, ap, subst, ◌∙◌, arith}
use Rattle.std.specs.Prelude.{map, option_and_then}
use Rattle.std.specs.Option.{option_map_or}
use Rattle.std.proofs.lemmas.Bool.{true≢false}
use Rattle.std.proofs.lemmas.List.{take_all, get_or_default}
use Rattle.message.specs.declared.fault.Fault.{Fault}
use Rattle.message.specs.declared.fault.Fault.TheVariants.{QueueDoesNotExist, UnsupportedOperation, InvalidAttributeValue}
use Rattle.message.specs.Fault.{is_out_of_memory}
use Rattle.queue_config.specs.Config.{Configuration, AreConfigured, rules_of}
use Rattle.queue_config.specs.declared.config.ConfiguredQueue.{ConfiguredQueue}
use Rattle.queue_config.specs.Settings.{RequestedAttributes}
use Rattle.queue_core.specs.declared.command.Command.{Command}
use Rattle.queue_core.specs.declared.command.Command.TheVariants as commands
use Rattle.queue_core.specs.declared.parcel.Parcel.{Parcel}
use Rattle.queue_core.specs.Queue.{QueueHistory, at_moment}
use Rattle.redrive.specs.declared.steps.HouseReply.TheVariants.{Advanced}
use Rattle.redrive.specs.declared.steps.HouseStep.{HouseStep}
use Rattle.redrive.specs.declared.steps.HouseStep.TheVariants as steps
use Rattle.redrive.specs.House.{House, with_queue, next_queue, new_house, new_queue, queue_named, queue_of_uid, found_uid, target_uid, has_queue, has_no_place, opens_queue, create_answer, house_after_create, is_internal, may_set, step_refusal, step_answer, house_after_command, house_after_step, taken_alone, take_answer, delete_answer, house_after_delete, without_queue, with_queue_changed, first_parcel_in, delivery_of, arrive_answer, accepted_number, confirm_answer, needs_confirmation, house_at_moment, move_answer, IsRegistry}
use Rattle.redrive.specs.private.Halves as halves
use Rattle.redrive.specs.private.ByPlace.{closes_queue}
use Rattle.redrive.specs.private.Cost.{IsDone}
use Rattle.redrive.specs.History.{AllQueues}
use Rattle.redrive.specs.HistorySteps.{Own}
use Rattle.redrive.specs.Places.{IsSpared, NoRelayDeleted}
use Rattle.redrive.specs.WholeSteps.{whole_after_step}
use Rattle.redrive.specs.HouseSteps.{HouseAnswer, act_of, house_after, house_after_all}
use Rattle.redrive.proofs.AnswerLemmas.{meets-itself, performed-done, confirmed-done, accepted-there, handed-done, created-done, deleted-done}
use Rattle.redrive.proofs.OpeningLemmas.{opened-more, next_name-new, next_name-place}
use Rattle.redrive.proofs.RegistryLemmas.{IsRegistry-empty, IsRegistry-with_queue, IsRegistry-after_step, IsRegistry-at_moment, IsRegistry-without, IsRegistry-moved}
use Rattle.redrive.proofs.RunLemmas.{AreAnswered, AreHouseAnswers-run, AreTold-run}
use Rattle.request_plan.specs.declared.plan.Step.{Step}
use Rattle.request_plan.specs.declared.plan.Step.TheVariants as plan
use Rattle.request_plan.specs.declared.task.Task.{Task}
use Rattle.request_plan.specs.declared.task.Task.TheVariants as tasks
use Rattle.request_plan.specs.Task.{task_of}
use Rattle.sqs_replay.specs.declared.answer.Asked.{Asked}
use Rattle.sqs_replay.specs.declared.answer.Asked.TheVariants.{Client, Tick, Statistics, Rows, Alarms}
use Rattle.sqs_replay.specs.declared.answer.Timed.{Timed}
use Rattle.sqs_replay.specs.Answers.{texts, state_after}
use Rattle.sqs_replay.specs.Moves.{house_between, confirmed_house, house_after_move, goes_on, some_moves, message_count_in, all_moves}
use Rattle.sqs_replay.specs.Served.{AnswerAndHouse, unchanged, step_served, played, most_commands, task_served, named_sheet_served, asked_of, queue_of_asked, asked_served, line_served, text_of_line, house_of_line}
use Rattle.sqs_replay.specs.Steps.{AskNoDeletion, LineCourse, DeleteNone, IsOutputOf, asks_deletion, deletes, deletes_queue, is_deletion}

-- ---- steps one after another, each taken in a registry

-- may is whether a queue may be deleted among them
pub record Walk (may : Bool) (old new : House) : Type 0 where
  pub steps : List HouseStep
  pub answers : List HouseAnswer
  pub answered : AreAnswered old steps answers
  pub left : new ≡ house_after_all old steps answers
  pub registry : IsRegistry new
  pub quiet : may ≡ false → DeleteNone steps

both-answered : (a b : House) (first more : List HouseStep) (answers others : List HouseAnswer) → AreAnswered a first answers → b ≡ house_after_all a first answers → AreAnswered b more others
    → AreAnswered a (first ++ more) (answers ++ others)
both-answered a b [] more [] others h is k = subst (λ (w : House). AreAnswered w more others) is k
both-answered a b [] more (x ∷ xs) others h is k = absurd h
both-answered a b (s ∷ ss) more [] others h is k = absurd h
both-answered a b (s ∷ ss) more (x ∷ xs) others h is k = (h.0, (h.1.0, both-answered (house_after a s x) b ss more xs others h.1.1 is k))

both-left : (a b : House) (first more : List HouseStep) (answers others : List HouseAnswer) → AreAnswered a first answers → b ≡ house_after_all a first answers
    → house_after_all b more others ≡ house_after_all a (first ++ more) (answers ++ others)
both-left a b [] more [] others h is = ap (λ (w : House). house_after_all w more others) is
both-left a b [] more (x ∷ xs) others h is = absurd h
both-left a b (s ∷ ss) more [] others h is = absurd h
both-left a b (s ∷ ss) more (x ∷ xs) others h is = both-left (house_after a s x) b ss more xs others h.1.1 is

both-quiet : (first more : List HouseStep) → DeleteNone first → DeleteNone more → DeleteNone (first ++ more)
both-quiet [] more h k = k
both-quiet (s ∷ ss) more h k = (h.0, both-quiet ss more h.1 k)

refused-none : (a b c : Bool) (f g h : Fault) → cond a (cond b (Some f) (cond c None (Some g))) (Some h) ≡ None → b ≡ false
refused-none false b c f g h e = absurd cc
refused-none true true c f g h e = absurd cc
refused-none true false c f g h e = refl

stays-open : (command : Command) → is_internal command ≡ false → closes_queue command ≡ false
stays-open commands.Close e = absurd cc
stays-open command e = refl

opened-where : (may : Bool) (o : Option QueueHistory) (full : Bool) → (may && option_map_or (λ q. false) o (not full)) ≡ true → (o ≡ None) × (full ≡ false)
opened-where true None false e = (refl, refl)
opened-where true None true e = absurd cc
opened-where true (Some q) full e = absurd cc
opened-where false o full e = absurd cc

module _ (may : Bool) where
  stays : (w : House) → IsRegistry w → Walk may w w
  stays w h = record { steps = []; answers = []; answered = tt; left = refl; registry = h; quiet = λ none. tt }

  one : (old new : House) (step : HouseStep) (answer : HouseAnswer) → (may ≡ false → is_deletion step ≡ false) → IsRegistry old → IsDone old (act_of old step) answer new 0 0
      → IsRegistry new → Walk may old new
  one old new step answer keeps h done after = record {
    steps = step ∷ [];
    answers = answer ∷ [];
    answered = (h, (record { meets = done.meets; exact = done.exact }, tt));
    left = done.left;
    registry = after;
    quiet = λ none. (keeps none, tt);
  }

  join : (a b c : House) → Walk may a b → Walk may b c → Walk may a c
  join a b c p q = record {
    steps = p.steps ++ q.steps;
    answers = p.answers ++ q.answers;
    answered = both-answered a b p.steps q.steps p.answers q.answers p.answered p.left q.answered;
    left = q.left ∙ both-left a b p.steps q.steps p.answers q.answers p.answered p.left;
    registry = q.registry;
    quiet = λ none. both-quiet p.steps q.steps (p.quiet none) (q.quiet none);
  }

  -- ---- a command

  module _ (w : House) (uid at : ℕ) (command : Command) (h : IsRegistry w) where
    abbrev commanded : House
    commanded = house_after_step w uid at command (step_answer w uid at command)

    commanded-by : (refused : Option Fault) → step_refusal w uid command ≡ refused → IsRegistry (option_map_or (λ fault. w) refused (house_after_command w uid at command (step_answer w uid at command)))
    commanded-by (Some fault) e = h
    commanded-by None e =
        IsRegistry-after_step w uid at command (step_answer w uid at command)
        (stays-open command (refused-none (has_queue w uid) (is_internal command) (may_set w uid command) UnsupportedOperation InvalidAttributeValue QueueDoesNotExist e)) h

    command-walk : Walk may w commanded
    command-walk =
        one w commanded (steps.Perform at uid command) _ (λ none. refl) h
        (performed-done w commanded at uid command (step_answer w uid at command) 0 0 (meets-itself (step_answer w uid at command)) (λ none. refl) refl (omega arith))
        (commanded-by (step_refusal w uid command) refl)

  -- ---- creating, deleting, time

  module _ (w : House) (at : ℕ) (h : IsRegistry w) where
    created-by : (name : List ℕ) (wish : RequestedAttributes) (failed opens : Bool) → opens_queue w name wish ≡ opens
        → IsRegistry (cond failed w (cond opens (with_queue w (new_queue w at name wish)) w))
    created-by name wish true opens e = h
    created-by name wish false false e = h
    created-by name wish false true e =
        let where_ = opened-where _ (queue_named w name) (has_no_place w) e in
        IsRegistry-with_queue w (new_queue w at name wish) h where_.0 refl refl refl where_.1

    create-walk : (name : List ℕ) (wish : RequestedAttributes) → Walk may w (house_after_create w at name wish (create_answer w name wish))
    create-walk name wish =
        one w _ (steps.Create at name wish) _ (λ none. refl) h
        (created-done w name h (house_after_create w at name wish (create_answer w name wish)) at wish (create_answer w name wish) 0 0
        (meets-itself (create_answer w name wish)) (λ none. refl) refl refl)
        (created-by name wish (is_out_of_memory (create_answer w name wish)) (opens_queue w name wish) refl)

    deleted-left : (uid : ℕ) (o : Option QueueHistory) (gone less : House)
        → cond (is_out_of_memory {T = Unit {0}} (option_map_or (λ q. Ok tt) o (Err QueueDoesNotExist))) gone less ≡ cond (is_out_of_memory (taken_alone o at)) gone less
    deleted-left uid None gone less = refl
    deleted-left uid (Some q) gone less = refl

    deleted-by : (uid : ℕ) (failed : Bool) → IsRegistry (cond failed (with_queue_changed w uid (λ q. at_moment q at)) (without_queue w uid))
    deleted-by uid true = IsRegistry-moved w uid at h
    deleted-by uid false = IsRegistry-without w uid h

    delete-walk : (uid : ℕ) → (may ≡ false → ⊥) → Walk may w (house_after_delete w uid at (delete_answer w uid))
    delete-walk uid allowed =
        one w _ (steps.Delete at uid) _ (λ none. absurd (allowed none)) h
        (deleted-done w (house_after_delete w uid at (delete_answer w uid)) at uid (take_answer w uid at) 0 0 (meets-itself (take_answer w uid at))
        (λ none. ap (λ (o : Option QueueHistory). taken_alone o at) none)
        (deleted-left uid (queue_of_uid w uid) (with_queue_changed w uid (λ q. at_moment q at)) (without_queue w uid)) (omega arith))
        (deleted-by uid (is_out_of_memory (delete_answer w uid)))

    time-walk : Walk may w (house_at_moment w at)
    time-walk =
        one w (house_at_moment w at) (steps.Advance at) (Ok Advanced) (λ none. refl) h
        (record { meets = meets-itself (Ok Advanced); exact = λ none. refl; left = refl; cost = omega arith }) (IsRegistry-at_moment w at h)

  -- ---- moves

  module _ (w : House) (source at : ℕ) (h : IsRegistry w) where
    delivered-open : (there : Bool) (p : Parcel) → closes_queue (cond there (commands.Arrive p) (commands.Orphan p.target)) ≡ false
    delivered-open true p = refl
    delivered-open false p = refl

    delivery-open : (there : Bool) (p : Parcel) → has_queue w p.target ≡ there → closes_queue (delivery_of w source p).command ≡ false
    delivery-open true p e = rw e refl
    delivery-open false p e = rw e refl

    handed-by : (o : Option Parcel) → IsRegistry (option_map_or (λ p. house_after_command w (delivery_of w source p).uid at (delivery_of w source p).command (arrive_answer w source at)) o w)
    handed-by None = h
    handed-by (Some p) =
        IsRegistry-after_step w (delivery_of w source p).uid at (delivery_of w source p).command (arrive_answer w source at) (delivery-open (has_queue w p.target) p refl) h

    hand-walk : Walk may w (house_between w source at)
    hand-walk =
        one w (house_between w source at) (steps.HandOver at source) _ (λ none. refl) h
        (handed-done w (house_between w source at) at source 0 0 (arrive_answer w source at) (meets-itself (arrive_answer w source at)) (λ none. refl) refl (omega arith))
        (handed-by (first_parcel_in w source))

    confirmed-left : (number : Option ℕ) → ((n : ℕ) → number ≡ Some n → has_queue w source ≡ true)
        → option_map_or (λ n. house_after_command w source at (commands.Settle n) (confirm_answer w source at)) number w
        ≡ option_map_or (λ n. house_after_command w source at (commands.Settle n) (halves.confirmed w source at)) number w
    confirmed-left None there = refl
    confirmed-left (Some n) there =
        ap (λ (b : Bool). house_after_command w source at (commands.Settle n) (cond b (confirm_answer w source at) (Err QueueDoesNotExist))) (sym (there n refl))

    confirmed-by : (number : Option ℕ) → IsRegistry (option_map_or (λ n. house_after_command w source at (commands.Settle n) (confirm_answer w source at)) number w)
    confirmed-by None = h
    confirmed-by (Some n) = IsRegistry-after_step w source at (commands.Settle n) (confirm_answer w source at) refl h

    confirm-walk : Walk may w (confirmed_house w source at)
    confirm-walk =
        one w (confirmed_house w source at) (steps.Confirm at source) _ (λ none. refl) h
        (confirmed-done w (confirmed_house w source at) at source 0 0 (halves.confirmed w source at) (meets-itself (halves.confirmed w source at)) (λ none. refl)
        (confirmed-left (accepted_number w source) (accepted-there w (confirmed_house w source at) at source 0 0)) (omega arith))
        (confirmed-by (accepted_number w source))

  move-walk : (w : House) (source at : ℕ) → IsRegistry w → Walk may w (house_after_move w source at)
  move-walk w source at h = move-by (needs_confirmation (arrive_answer w source at)) where
    move-by : (b : Bool) → Walk may w (cond b (confirmed_house (house_between w source at) source at) (house_between w source at))
    move-by true =
        let handed : Walk may w (house_between w source at) = hand-walk w source at h in
        join w (house_between w source at) (confirmed_house (house_between w source at) source at) handed (confirm-walk (house_between w source at) source at handed.registry)
    move-by false = hand-walk w source at h

  some-walk : (n : ℕ) (w : House) (source at : ℕ) → IsRegistry w → Walk may w (some_moves n w source at)
  some-walk zero w source at h = stays w h
  some-walk (suc n) w source at h =
      let moved : Walk may w (house_after_move w source at) = move-walk w source at h in
      go (goes_on (move_answer w source at)) moved (some-walk n (house_after_move w source at) source at moved.registry)
    where
      go : (b : Bool) → Walk may w (house_after_move w source at) → Walk may (house_after_move w source at) (some_moves n (house_after_move w source at) source at)
          → Walk may w (cond b (some_moves n (house_after_move w source at) source at) (house_after_move w source at))
      go true moved more = join w (house_after_move w source at) (some_moves n (house_after_move w source at) source at) moved more
      go false moved more = moved

  moves-walk : (w : House) (at : ℕ) (o : Option ℕ) → IsRegistry w → Walk may w (option_map_or (λ uid. all_moves w uid at) o w)
  moves-walk w at None h = stays w h
  moves-walk w at (Some uid) h = some-walk (message_count_in w uid) w uid at h

  -- ---- a line

  played-walk : (n : ℕ) (w : House) (uid at : ℕ) (step : Step) → IsRegistry w → Walk may w (played n w uid at step).house
  played-walk zero w uid at (plan.Answer answer) h = stays w h
  played-walk zero w uid at (plan.Ask command seconds purpose) h = stays w h
  played-walk (suc n) w uid at (plan.Answer answer) h = stays w h
  played-walk (suc n) w uid at (plan.Ask command seconds purpose) h =
      let asked : Walk may w (step_served w uid at command purpose).house = command-walk w uid at command h in
      join w (step_served w uid at command purpose).house _ asked
      (played-walk n (step_served w uid at command purpose).house uid at (step_served w uid at command purpose).answer asked.registry)

  in-queue-walk : {T : Type 0} (w : House) (serve : ℕ → AnswerAndHouse (Result T Fault)) (o : Option ℕ) → IsRegistry w → ((uid : ℕ) → Walk may w (serve uid).house)
      → Walk may w (option_map_or serve o (unchanged w (Err QueueDoesNotExist))).house
  in-queue-walk w serve None h go = stays w h
  in-queue-walk w serve (Some uid) h go = go uid

  task-walk : (w : House) (at : ℕ) (task : Task) → (may ≡ false → deletes task ≡ false) → IsRegistry w → Walk may w (task_served w at task).house
  task-walk w at (tasks.Create name wish) keeps h = create-walk w at h name wish
  task-walk w at (tasks.Delete queue) keeps h = in-queue-walk w _ (found_uid w queue) h (λ uid. delete-walk w at h uid (λ none. true≢false (keeps none)))
  task-walk w at (tasks.Set queue wish) keeps h = in-queue-walk w _ (found_uid w queue) h (λ uid. command-walk w uid at (commands.Set wish (target_uid w wish)) h)
  task-walk w at (tasks.Url name) keeps h = in-queue-walk w _ (found_uid w name) h (λ uid. stays w h)
  task-walk w at (tasks.Urls prefix) keeps h = stays w h
  task-walk w at (tasks.Sources queue) keeps h = in-queue-walk w _ (found_uid w queue) h (λ uid. stays w h)
  task-walk w at (tasks.Ask queue step) keeps h = in-queue-walk w _ (found_uid w queue) h (λ uid. played-walk (most_commands step) w uid at step h)

  look-walk : (w : House) (at : ℕ) (queue : List ℕ) → IsRegistry w → Walk may w (named_sheet_served w at queue).house
  look-walk w at queue h = in-queue-walk w _ (found_uid w queue) h (λ uid. command-walk w uid at commands.Look h)

  asked-walk : (w : House) (at : ℕ) (asked : Asked) → (may ≡ false → deletes_queue asked ≡ false) → IsRegistry w → Walk may w (asked_served w at asked).house
  asked-walk w at (Client request) keeps h = task-walk w at (task_of request) keeps h
  asked-walk w at Tick keeps h = time-walk w at h
  asked-walk w at (Statistics None) keeps h = time-walk w at h
  asked-walk w at (Statistics (Some queue)) keeps h = look-walk w at queue h
  asked-walk w at (Rows queue) keeps h = look-walk w at queue h
  asked-walk w at (Alarms queue) keeps h = look-walk w at queue h

  line-by : (w : House) (timed : Result Timed Fault) → (may ≡ false → asks_deletion timed ≡ false) → IsRegistry w → Walk may w (line_served w timed).house
  line-by w (Err fault) keeps h = stays w h
  line-by w (Ok timed) keeps h =
      let asked : Walk may w (asked_served w timed.at timed.asked).house = asked-walk w timed.at timed.asked keeps h in
      join w (asked_served w timed.at timed.asked).house _ asked
      (moves-walk (asked_served w timed.at timed.asked).house timed.at
      (option_and_then (λ name. found_uid (asked_served w timed.at timed.asked).house name) (queue_of_asked timed.asked)) asked.registry)

  pub line-walk : (w : House) (line : List ℕ) → (may ≡ false → asks_deletion (asked_of line) ≡ false) → IsRegistry w → Walk may w (house_of_line w line)
  line-walk w line keeps h = line-by w (asked_of line) keeps h

  lines-walk : (w : House) (lines : List (List ℕ)) → (may ≡ false → AskNoDeletion lines) → IsRegistry w → Walk may w (state_after house_of_line w lines)
  lines-walk w [] keeps h = stays w h
  lines-walk w (line ∷ lines) keeps h =
      let here : Walk may w (house_of_line w line) = line-walk w line (λ none. (keeps none).0) h in
      join w (house_of_line w line) (state_after house_of_line (house_of_line w line) lines) here (lines-walk (house_of_line w line) lines (λ none. (keeps none).1) here.registry)

-- ---- what a walk is a proof of

abbrev pub course : (may : Bool) (old new : House) → Walk may old new → LineCourse old new
course may old new p = record {
  steps = p.steps;
  answers = p.answers;
  answered = AreHouseAnswers-run old p.steps p.answers p.answered;
  told = AreTold-run old p.steps p.answers p.answered;
  left = p.left;
}

output-by : (first now : House) (lines : List (List ℕ)) → Walk true first now → IsOutputOf first now lines (texts text_of_line house_of_line now lines)
output-by first now [] p = (course true first now p, refl)
output-by first now (line ∷ lines) p = (
  course true first now p,
  (
    texts text_of_line house_of_line (house_of_line now line) lines,
    (refl, output-by first (house_of_line now line) lines (join true first now (house_of_line now line) p (line-walk true now line (λ none. absurd (true≢false none)) p.registry))),
  ),
)

-- ---- the registry that a configuration gives

one-greater : (i : ℕ) → i + 1 ≡ suc i
one-greater i = omega arith

module _ (config : Configuration) (are : AreConfigured config.queues) where
  abbrev of_first : ℕ → House
  of_first i = new_house (record { limits = config.limits; queues = take i config.queues; alarms = config.alarms }) 0

  one-more : (i : ℕ) (d : ConfiguredQueue) → i < length config.queues → IsRegistry (of_first i) → IsRegistry (of_first (i + 1))
  one-more i d inside h =
      let q : ConfiguredQueue = get_or config.queues i d in
      let here : q ≡ get_or config.queues i q = get_or_default config.queues i d q inside in
      subst (λ (w : House). IsRegistry w) (opened-more config.limits config.alarms 0 config.queues i q (of_first i) refl inside here)
      (IsRegistry-with_queue (of_first i) (next_queue (of_first i) 0 q.name q.settings (rules_of config.alarms (of_first i).next_uid)) h
      (next_name-new (of_first i) config.limits config.alarms 0 config.queues i q refl inside here are) refl refl refl
      (next_name-place (of_first i) config.limits config.alarms 0 config.queues i refl inside are))

  up_to : (i : ℕ) → i ≤ length config.queues → IsRegistry (of_first i)
  up_to zero l = IsRegistry-empty config.limits
  up_to (suc i) l = more config.queues refl (up_to i (omega arith)) where
    more : (qs : List ConfiguredQueue) → qs ≡ config.queues → IsRegistry (of_first i) → IsRegistry (of_first (suc i))
    more [] e before = absurd (none-inside (length config.queues) (sym (ap (λ (qs : List ConfiguredQueue). length qs) e)) l) where
      none-inside : (n : ℕ) → n ≡ 0 → suc i ≤ n → ⊥
      none-inside n e l = absurd (omega arith)
    more (q ∷ qs) e before = subst (λ (n : ℕ). IsRegistry (of_first n)) (one-greater i) (one-more i q (omega arith) before)

  pub configured-registry : IsRegistry (new_house config 0)
  configured-registry =
      subst (λ (qs : List ConfiguredQueue). IsRegistry (new_house (record { limits = config.limits; queues = qs; alarms = config.alarms }) 0))
      (take_all (length config.queues) config.queues (omega arith)) (up_to (length config.queues) (omega arith))

pub configured-walk : (may : Bool) (config : Configuration) (lines : List (List ℕ)) → (may ≡ false → AskNoDeletion lines) → AreConfigured config.queues
    → Walk may (new_house config 0) (state_after house_of_line (new_house config 0) lines)
configured-walk may config lines keeps are = lines-walk may (new_house config 0) lines keeps (configured-registry config are)

pub configured-output : (config : Configuration) (lines : List (List ℕ)) → AreConfigured config.queues
    → IsOutputOf (new_house config 0) (new_house config 0) lines (texts text_of_line house_of_line (new_house config 0) lines)
configured-output config lines are = output-by (new_house config 0) (new_house config 0) lines (stays true (new_house config 0) (configured-registry config are))

-- ---- where no queue is deleted

spared-step : (all : AllQueues) (step : HouseStep) (answer : HouseAnswer) → is_deletion step ≡ false → IsSpared all (Own step) answer
spared-step all (steps.Create at name wish) answer none = tt
spared-step all (steps.Delete at uid) answer none = absurd (true≢false none)
spared-step all (steps.Perform at uid command) answer none = tt
spared-step all (steps.HandOver at source) answer none = tt
spared-step all (steps.Confirm at source) answer none = tt
spared-step all (steps.Advance at) answer none = tt

pub spared : (all : AllQueues) (steps : List HouseStep) (answers : List HouseAnswer) → DeleteNone steps → NoRelayDeleted all (map Own steps) answers
spared all [] answers none = tt
spared all (step ∷ steps) [] none = tt
spared all (step ∷ steps) (answer ∷ answers) none = (spared-step all step answer none.0, spared (whole_after_step all (Own step) answer) steps answers none.1)
