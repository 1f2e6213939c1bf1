-- What a step leaves that a queue refuses, in a run of the registry.
use Rattle.std.proofs.Common.{◌≡◌, ℕ, Bool, true, false, not, cond, max, nat_eq, List, [], ◌∷◌, ◌++◌, length, Option, Some, None, Result, Ok, Err, MatchBool, refl, sym, ap, subst, ◌∙◌, arith}
use Rattle.std.specs.Prelude.{⊤}
use Rattle.std.specs.List.{All}
use Rattle.std.specs.Option.{option_map, option_map_or}
use Rattle.std.proofs.lemmas.Bool.{eq-eqb, eqb-true, false≢true, ne_eqb}
use Rattle.std.proofs.lemmas.List.Elements.{All-push, All-map, All-filter, All-weaker}
use Rattle.queue_config.specs.Settings.{QueueSettings}
use Rattle.message.specs.declared.fault.Fault.{Fault}
use Rattle.message.specs.declared.fault.Fault.TheVariants.{QueueDoesNotExist, InvalidAttributeValue, UnsupportedOperation}
use Rattle.message.specs.Fault.{is_out_of_memory}
use Rattle.queue_core.specs.declared.command.Command.{Command}
use Rattle.queue_core.specs.declared.reply.Reply.{Reply}
use Rattle.queue_core.specs.Queue.{QueueHistory, at_moment, reached, rebased_where, outcome_at, with_optional_event, after_answer}
use Rattle.queue_core.specs.Legal.{IsLegal}
use Rattle.queue_core.specs.Refusals.{is_own_refusal}
use Rattle.queue_core.proofs.OwnRefusalLemmas.{own-answered, own-entry, no-entry, lasts}
use Rattle.queue_core.proofs.BehindLemmas.{others_in_place}
use Rattle.queue_core.proofs.SoundLemmas.{IsSound, sound_later, sound_opened}
use Rattle.queue_core.proofs.LegalSoundLemmas.{sound_legal}
use Rattle.queue_core.proofs.WholeLemmas.{sound_after}
use Rattle.redrive.specs.declared.steps.HouseReply.{HouseReply}
use Rattle.redrive.specs.declared.steps.HouseReply.TheVariants.{Performed}
use Rattle.redrive.specs.declared.steps.HouseStep.{HouseStep}
use Rattle.redrive.specs.declared.steps.HouseStep.TheVariants.{Perform}
use Rattle.redrive.specs.Refused.{IsRefusedBy}
use Rattle.redrive.specs.House.{House, queue_of_uid, has_queue, is_internal, may_set, step_refusal, queue_answer, house_after_command, with_queue, next_queue, with_queue_changed, without_queue}
use Rattle.redrive.specs.HouseSteps.{HouseAnswer, as_house_reply, HouseChange, Nothing, Performs, Opens, Closes, Passes, Act, act_of, perform_act, answer_of_act, house_changed, house_after, IsAnswerOf, AreHouseAnswers, house_after_all}
use Rattle.redrive.proofs.KeyedLemmas.{find-holds}
use Rattle.redrive.proofs.RegistryLemmas.{after_answer-uid, changed-queue}
use Rattle.redrive.proofs.transfers.Commands.{reached-lines, acting}
use Rattle.redrive.proofs.transfers.Journals.{Lines}
use Rattle.redrive.proofs.WaitingLemmas.{left-own}

-- ---- one step

-- what refuses a command before it comes to a queue is none of a queue's own refusals
before-other : (there internal may : Bool) (fault : Fault)
    → cond there (cond internal (Some UnsupportedOperation) (cond may None (Some InvalidAttributeValue))) (Some QueueDoesNotExist) ≡ Some fault → is_own_refusal fault ≡ false
before-other false internal may fault h = let same : QueueDoesNotExist ≡ fault = cc in ap is_own_refusal (sym same)
before-other true true may fault h = let same : UnsupportedOperation ≡ fault = cc in ap is_own_refusal (sym same)
before-other true false true fault h = absurd cc
before-other true false false fault h = let same : InvalidAttributeValue ≡ fault = cc in ap is_own_refusal (sym same)

performed-refused : (fault : Fault) (r : Result Reply Fault) → ◌≡◌ {A = HouseAnswer} (Err fault) (as_house_reply Performed r) → r ≡ Err fault
performed-refused fault (Ok reply) h = absurd cc
performed-refused fault (Err other) h = let same : fault ≡ other = cc in ap (λ (f : Fault). Err f) (sym same)

absent-refused : (fault : Fault) → ◌≡◌ {A = Result Reply Fault} (Err QueueDoesNotExist) (Err fault) → is_own_refusal fault ≡ false
absent-refused fault h = let same : QueueDoesNotExist ≡ fault = cc in ap is_own_refusal (sym same)

module _ (w : House) (at uid : ℕ) (command : Command) (fault : Fault) where
  abbrev answer : HouseAnswer
  answer = Err fault

  abbrev left : QueueHistory → QueueHistory
  left q = after_answer q at command answer

  abbrev acted : Option Fault → Act
  acted refused = perform_act at uid command refused

  abbrev new : Option Fault → House
  new refused = house_changed w (acted refused).at (acted refused).change answer

  -- a queue's own refusal
  module _ (own : is_own_refusal fault ≡ true) where
    by_queue : (o : Option QueueHistory) → queue_of_uid w uid ≡ o → option_map_or (λ q. (outcome_at q at command).reply) o (Err QueueDoesNotExist) ≡ Err fault
        → IsRefusedBy w uid at command fault (house_after_command w uid at command answer)
    by_queue None is h = absurd (false≢true (sym (absent-refused fault h) ∙ own))
    by_queue (Some q) is h = record {
      queue = acting q at command;
      there = ap (λ (o : Option QueueHistory). option_map (λ q. rebased_where (outcome_at q at command).rebases (reached q at command)) o) is;
      entry = left-own w uid at command answer q is ∙ ap (λ (r : QueueHistory). Some r) (own-entry HouseReply q at command fault h own);
      lasts = lasts (acting q at command) fault;
      others = λ other differs. changed-queue w uid other left false (λ q. after_answer-uid at command answer q) (ne_eqb uid other (λ e. differs (sym e)));
    }

    by_refusal : (o : Option Fault) → step_refusal w uid command ≡ o → answer ≡ answer_of_act w (acted o) → IsRefusedBy w uid at command fault (new o)
    by_refusal (Some first) is h =
        let same : first ≡ fault = cc in
        absurd (false≢true (sym (before-other (has_queue w uid) (is_internal command) (may_set w uid command) fault (is ∙ ap (λ (f : Fault). Some f) same)) ∙ own))
    by_refusal None is h = by_queue (queue_of_uid w uid) refl (performed-refused fault (queue_answer w uid at command) h)

    step-refused : IsAnswerOf w (Perform at uid command) answer → IsRefusedBy w uid at command fault (house_after w (Perform at uid command) answer)
    step-refused h =
        by_refusal (step_refusal w uid command) refl
        (subst (λ (b : Bool). MatchBool b ⊤ (answer ≡ answer_of_act w (acted (step_refusal w uid command)))) (own-answered HouseReply fault own) h.meets)

  -- any other
  module _ (other : is_own_refusal fault ≡ false) (sound : (q : QueueHistory) → queue_of_uid w uid ≡ Some q → IsSound q.lines q.clock) where
    lines-left : (q : QueueHistory) (b : Bool) → IsSound q.lines q.clock → is_out_of_memory answer ≡ b → MatchBool b ⊤ ((outcome_at q at command).reply ≡ Err fault) → (left q).lines ≡ q.lines
    lines-left q true is e h =
        ap (λ (b : Bool). let r : QueueHistory = cond b (reached q at command) (with_optional_event (acting q at command) (outcome_at q at command).event) in r.lines) e ∙ reached-lines q at command
    lines-left q false is e h =
        ap (λ (r : QueueHistory). r.lines) (no-entry HouseReply q at command fault h other)
        ∙ ap (λ (b : Bool). let r : QueueHistory = rebased_where b (reached q at command) in r.lines) (others_in_place q at command fault is h other)
        ∙ reached-lines q at command

    lines-there : (o : Option QueueHistory) (b : Bool) → queue_of_uid w uid ≡ o → is_out_of_memory answer ≡ b → MatchBool b ⊤ (option_map_or (λ q. (outcome_at q at command).reply) o (Err QueueDoesNotExist) ≡ Err fault)
        → option_map (λ q. q.lines) (option_map left o) ≡ option_map (λ q. q.lines) o
    lines-there None b is e h = refl
    lines-there (Some q) b is e h = ap (λ (ls : Lines). Some ls) (lines-left q b (sound q is) e h)

    abbrev lines_of : House → ℕ → Option Lines
    lines_of v u = option_map (λ q. q.lines) (queue_of_uid v u)

    lines-by : (u : ℕ) (b : Bool) → nat_eq uid u ≡ b → option_map (λ q. q.lines) (option_map left (queue_of_uid w uid)) ≡ lines_of w uid → lines_of (house_after_command w uid at command answer) u ≡ lines_of w u
    lines-by u false e h = ap (λ (o : Option QueueHistory). option_map (λ q. q.lines) o) (changed-queue w uid u left false (λ q. after_answer-uid at command answer q) e)
    lines-by u true e h =
        subst (λ (v : ℕ). lines_of (house_after_command w uid at command answer) v ≡ lines_of w v) (eqb-true uid u e)
        (ap (λ (o : Option QueueHistory). option_map (λ q. q.lines) o) (changed-queue w uid uid left true (λ q. after_answer-uid at command answer q) (itself uid)) ∙ h)
      where
        itself : (n : ℕ) → nat_eq n n ≡ true
        itself n = eq-eqb n n refl

    said : (b : Bool) → MatchBool b ⊤ (answer ≡ as_house_reply Performed (queue_answer w uid at command)) → MatchBool b ⊤ (queue_answer w uid at command ≡ Err fault)
    said true h = tt
    said false h = performed-refused fault (queue_answer w uid at command) h

    lines-after : (u : ℕ) (o : Option Fault) → MatchBool (is_out_of_memory answer) ⊤ (answer ≡ answer_of_act w (acted o)) → lines_of (new o) u ≡ lines_of w u
    lines-after u (Some first) h = refl
    lines-after u None h = lines-by u (nat_eq uid u) refl (lines-there (queue_of_uid w uid) (is_out_of_memory answer) refl refl (said (is_out_of_memory answer) h))

    step-unrecorded : IsAnswerOf w (Perform at uid command) answer → (u : ℕ) → lines_of (house_after w (Perform at uid command) answer) u ≡ lines_of w u
    step-unrecorded h u = lines-after u (step_refusal w uid command) h.meets

-- ---- every journal stays one that a queue can have

abbrev pub AreSound : House → Type 0
AreSound w = All (λ q. IsSound q.lines q.clock) w.queues

changed-sound : (w : House) (uid : ℕ) (f : QueueHistory → QueueHistory) → ((q : QueueHistory) → IsSound q.lines q.clock → IsSound (f q).lines (f q).clock) → AreSound w → AreSound (with_queue_changed w uid f)
changed-sound w uid f each h =
    All-map (λ q. IsSound q.lines q.clock) (λ q. cond (nat_eq q.uid uid) (f q) q) w.queues
    (All-weaker (λ q. IsSound q.lines q.clock) (λ q. let r : QueueHistory = cond (nat_eq q.uid uid) (f q) q in IsSound r.lines r.clock) (λ q k. by_test q k (nat_eq q.uid uid)) w.queues h)
  where
    by_test : (q : QueueHistory) → IsSound q.lines q.clock → (b : Bool) → let r : QueueHistory = cond b (f q) q in IsSound r.lines r.clock
    by_test q k true = each q k
    by_test q k false = k

moved-sound : (q : QueueHistory) (at : ℕ) → IsSound q.lines q.clock → IsSound (at_moment q at).lines (at_moment q at).clock
moved-sound q at k = sound_later q.lines q.clock (max q.clock at) (omega arith) k

opened-sound : (w : House) (at : ℕ) (name : List ℕ) (settings : QueueSettings) (failed : Bool) → AreSound w → AreSound (cond failed w (with_queue w (next_queue w at name settings [])))
opened-sound w at name settings true h = h
opened-sound w at name settings false h = All-push (λ q. IsSound q.lines q.clock) w.queues (next_queue w at name settings []) h (sound_opened w.next_uid at settings)

closed-sound : (w : House) (uid at : ℕ) (failed : Bool) → AreSound w → AreSound (cond failed (with_queue_changed w uid (λ q. at_moment q at)) (without_queue w uid))
closed-sound w uid at true h = changed-sound w uid (λ q. at_moment q at) (λ q k. moved-sound q at k) h
closed-sound w uid at false h = All-filter (λ q. not (nat_eq q.uid uid)) (λ q. IsSound q.lines q.clock) w.queues h

change-sound : (w : House) (at : ℕ) (change : HouseChange) (r : HouseAnswer) → AreSound w → AreSound (house_changed w at change r)
change-sound w at Nothing r h = h
change-sound w at (Performs uid command) r h = changed-sound w uid (λ q. after_answer q at command r) (λ q k. sound_after q at command r k) h
change-sound w at (Opens name settings) r h = opened-sound w at name settings (is_out_of_memory r) h
change-sound w at (Closes uid) r h = closed-sound w uid at (is_out_of_memory r) h
change-sound w at Passes r h =
    All-map (λ q. IsSound q.lines q.clock) (λ q. at_moment q at) w.queues (All-weaker (λ q. IsSound q.lines q.clock) (λ q. IsSound (at_moment q at).lines (at_moment q at).clock) (λ q k. moved-sound q at k) w.queues h)

run-sound : (w : House) (steps : List HouseStep) (answers : List HouseAnswer) → AreSound w → AreSound (house_after_all w steps answers)
run-sound w [] answers h = h
run-sound w (step ∷ steps) [] h = h
run-sound w (step ∷ steps) (answer ∷ answers) h = run-sound (house_after w step answer) steps answers (change-sound w (act_of w step).at (act_of w step).change answer h)

found-sound : (w : House) (uid : ℕ) → AreSound w → (q : QueueHistory) → queue_of_uid w uid ≡ Some q → IsSound q.lines q.clock
found-sound w uid h q here = find-holds (λ q. nat_eq q.uid uid) (λ q. IsSound q.lines q.clock) w.queues q h here

pub legal-sound : (w : House) → All (λ q. IsLegal q) w.queues → AreSound w
legal-sound w h = All-weaker (λ q. IsLegal q) (λ q. IsSound q.lines q.clock) (λ q k. sound_legal q k) w.queues h

-- ---- a step of a run

answered-at : (w : House) (steps : List HouseStep) (answers : List HouseAnswer) (step : HouseStep) (answer : HouseAnswer) (later : List HouseStep) (rest : List HouseAnswer) → length steps ≡ length answers
    → AreHouseAnswers w (steps ++ step ∷ later) (answers ++ answer ∷ rest) → IsAnswerOf (house_after_all w steps answers) step answer
answered-at w [] [] step answer later rest e h = h.0
answered-at w [] (a ∷ answers) step answer later rest e h = absurd (omega arith)
answered-at w (s ∷ steps) [] step answer later rest e h = absurd (omega arith)
answered-at w (s ∷ steps) (a ∷ answers) step answer later rest e h = answered-at (house_after w s a) steps answers step answer later rest (omega arith) h.1

module _ (w : House) (steps later : List HouseStep) (answers rest : List HouseAnswer) (at uid : ℕ) (command : Command) (fault : Fault) (counted : length steps ≡ length answers)
    (answered : AreHouseAnswers w (steps ++ Perform at uid command ∷ later) (answers ++ Err fault ∷ rest)) where
  abbrev before : House
  before = house_after_all w steps answers

  pub run-refused : is_own_refusal fault ≡ true → IsRefusedBy before uid at command fault (house_after before (Perform at uid command) (Err fault))
  run-refused own = step-refused before at uid command fault own (answered-at w steps answers (Perform at uid command) (Err fault) later rest counted answered)

  pub run-unrecorded : is_own_refusal fault ≡ false → AreSound w
      → (other : ℕ) → option_map (λ q. q.lines) (queue_of_uid (house_after before (Perform at uid command) (Err fault)) other) ≡ option_map (λ q. q.lines) (queue_of_uid before other)
  run-unrecorded none sound other = step-unrecorded before at uid command fault none (found-sound before uid (run-sound w steps answers sound)) (answered-at w steps answers (Perform at uid command) (Err fault) later rest counted answered) other
