-- A run of steps in the registry: one step on, at its end, and what holds of all of it.
use Rattle.std.proofs.Common.{◌≡◌, ℕ, ◌+◌, ◌<◌, ◌≤◌, length, List, [], ◌∷◌, ◌++◌, get_or, map, take, drop, Option, refl, sym, ap, subst, ◌∙◌, append_assoc, arith}
use Rattle.std.proofs.lemmas.List.{append-nil, drop_all, map_more}
use Rattle.queue_core.specs.Queue.{QueueHistory}
use Rattle.redrive.specs.declared.steps.HouseStep.{HouseStep}
use Rattle.redrive.specs.declared.steps.QueueMetrics.{QueueMetrics}
use Rattle.redrive.specs.House.{House, queue_of_uid, IsRegistry}
use Rattle.redrive.specs.History.{AllQueues, IsWholeHistory}
use Rattle.redrive.specs.Cost.{ticks_of_step, ticks_of_steps}
use Rattle.redrive.specs.private.Cost.{IsDone}
use Rattle.redrive.specs.HouseSteps.{HouseAnswer, act_of, IsAnswerOf, house_after, all_after, AreHouseAnswers, house_after_all, history_after, queue_after, IsAsIfAlone, AreTold, metrics_of}
use Rattle.redrive.proofs.StepLemmas.{queue_after-house}
use Rattle.redrive.proofs.AloneLemmas.{answered_alone}
use Rattle.redrive.proofs.HistoryLemmas.{IsWholeHistory-after}
use Rattle.redrive.proofs.ToldLemmas.{IsToldBy-house}

-- each step is taken in a registry, and answered by it
abbrev pub AreAnswered : House → List HouseStep → List HouseAnswer → Type 0
AreAnswered w [] [] = Unit {0}
AreAnswered w [] (answer ∷ answers) = ⊥
AreAnswered w (step ∷ steps) [] = ⊥
AreAnswered w (step ∷ steps) (answer ∷ answers) = IsRegistry w × (IsAnswerOf w step answer × AreAnswered (house_after w step answer) steps answers)

-- answers so far, in front of answers to the steps that are left, in the house as it is now, are answers to all steps; and what was spent, with what the
-- steps that are left may cost, is at most what all steps may cost
pub record Continues (begun : ℕ) (first : House) (steps : List HouseStep) (answers : List HouseAnswer) (spent : ℕ) (now : House) (left : List HouseStep) : Type 0 where
  pub answered : (rest : List HouseAnswer) → AreAnswered now left rest → AreAnswered first steps (answers ++ rest)
  pub state : (rest : List HouseAnswer) → house_after_all first steps (answers ++ rest) ≡ house_after_all now left rest
  pub within : (rest : List HouseAnswer) → spent + ticks_of_steps now left rest ≤ begun + ticks_of_steps first steps (answers ++ rest)

pub Continues-step : (begun : ℕ) (first : House) (steps : List HouseStep) (answers : List HouseAnswer) (spent spent' : ℕ) (now : House) (left rest : List HouseStep) (step : HouseStep) (answer : HouseAnswer) (next : House)
    → Continues begun first steps answers spent now left → left ≡ step ∷ rest → IsRegistry now → IsDone now (act_of now step) answer next spent spent'
    → Continues begun first steps (answers ++ answer ∷ []) spent' next rest
Continues-step begun first steps answers spent spent' now left rest step answer next h is registry done = record {
  answered = λ others p.
      rw append_assoc
      (h.answered (answer ∷ others) (rw is (registry, (record { meets = done.meets; exact = done.exact }, subst (λ (w : House). AreAnswered w rest others) done.left p))));
  state = λ others.
      rw append_assoc (h.state (answer ∷ others) ∙ rw (is, done.left) refl);
  within = λ others.
      let here : ticks_of_steps now left (answer ∷ others) ≡ ticks_of_step now step answer + ticks_of_steps next rest others =
      ap (λ (xs : List HouseStep). ticks_of_steps now xs (answer ∷ others)) is ∙ ap (λ (w : House). ticks_of_step now step answer + ticks_of_steps w rest others) (sym done.left) in
      rw append_assoc
      (paid begun spent spent' (ticks_of_step now step answer) (ticks_of_steps now left (answer ∷ others)) (ticks_of_steps next rest others) (ticks_of_steps first steps (answers ++ answer ∷ others))
      (h.within (answer ∷ others)) here done.cost);
}
  where
    paid : (begun spent spent' one left rest all : ℕ) → spent + left ≤ begun + all → left ≡ one + rest → spent' ≤ spent + one → spent' + rest ≤ begun + all
    paid begun spent spent' one left rest all was here cost = omega arith

-- at the end
pub record IsRun (begun : ℕ) (first : House) (steps : List HouseStep) (answers : List HouseAnswer) (spent : ℕ) (now : House) : Type 0 where
  pub answered : AreAnswered first steps answers
  pub state : now ≡ house_after_all first steps answers
  pub within : spent ≤ begun + ticks_of_steps first steps answers

pub Continues-end : (begun : ℕ) (first : House) (steps : List HouseStep) (answers : List HouseAnswer) (spent : ℕ) (now : House) (i : ℕ) → length steps ≤ i
    → Continues begun first steps answers spent now (drop i steps) → IsRun begun first steps answers spent now
Continues-end begun first steps answers spent now i past c =
    let h : Continues begun first steps answers spent now [] = subst (λ (left : List HouseStep). Continues begun first steps answers spent now left) (drop_all i steps past) c in
    record {
      answered = subst (λ (all : List HouseAnswer). AreAnswered first steps all) (append-nil answers) (h.answered [] tt);
      state = sym (ap (λ (all : List HouseAnswer). house_after_all first steps all) (sym (append-nil answers)) ∙ h.state []);
      within = subst (λ (all : List HouseAnswer). spent ≤ begun + ticks_of_steps first steps all) (append-nil answers) (least spent (begun + ticks_of_steps first steps (answers ++ [])) (h.within []));
    }
  where
    least : (spent all : ℕ) → spent + 0 ≤ all → spent ≤ all
    least spent all h = omega arith

-- ---- what holds of the whole run

pub AreHouseAnswers-run : (w : House) (steps : List HouseStep) (answers : List HouseAnswer) → AreAnswered w steps answers → AreHouseAnswers w steps answers
AreHouseAnswers-run w [] [] h = tt
AreHouseAnswers-run w [] (answer ∷ answers) h = h
AreHouseAnswers-run w (step ∷ steps) [] h = h
AreHouseAnswers-run w (step ∷ steps) (answer ∷ answers) h = (h.1.0, AreHouseAnswers-run (house_after w step answer) steps answers h.1.1)

alone-next : (w : House) (uid : ℕ) (q next : Option QueueHistory) (steps : List HouseStep) (answers : List HouseAnswer) (new : Option QueueHistory)
    → next ≡ q → IsAsIfAlone w uid next steps answers new → IsAsIfAlone w uid q steps answers new
alone-next w uid q next steps answers new same h = rw (← same) h

pub IsAsIfAlone-run : (w : House) (steps : List HouseStep) (answers : List HouseAnswer) (uid : ℕ) → AreAnswered w steps answers
    → IsAsIfAlone w uid (queue_of_uid w uid) steps answers (queue_of_uid (house_after_all w steps answers) uid)
IsAsIfAlone-run w [] [] uid h = refl
IsAsIfAlone-run w [] (answer ∷ answers) uid h = absurd h
IsAsIfAlone-run w (step ∷ steps) [] uid h = absurd h
IsAsIfAlone-run w (step ∷ steps) (answer ∷ answers) uid h = (
  answered_alone w uid answer step h.1.0.meets,
  alone-next (house_after w step answer) uid (queue_after w uid (queue_of_uid w uid) step answer) (queue_of_uid (house_after w step answer) uid) steps answers
      (queue_of_uid (house_after_all w (step ∷ steps) (answer ∷ answers)) uid)
      (queue_after-house w uid step answer h.0) (IsAsIfAlone-run (house_after w step answer) steps answers uid h.1.1),
)

pub IsWholeHistory-run : (all : AllQueues) (steps : List HouseStep) (answers : List HouseAnswer) → AreAnswered all.house steps answers → IsWholeHistory all
    → IsWholeHistory (history_after all steps answers)
IsWholeHistory-run all [] answers h whole = whole
IsWholeHistory-run all (step ∷ steps) [] h whole = whole
IsWholeHistory-run all (step ∷ steps) (answer ∷ answers) h whole =
    IsWholeHistory-run (all_after all step answer) steps answers h.1.1 (IsWholeHistory-after all step answer h.0 whole)

pub AreTold-run : (w : House) (steps : List HouseStep) (answers : List HouseAnswer) → AreAnswered w steps answers → AreTold w steps answers
AreTold-run w [] answers h = tt
AreTold-run w (step ∷ steps) [] h = tt
AreTold-run w (step ∷ steps) (answer ∷ answers) h = (IsToldBy-house w step answer h.1.0.meets, AreTold-run (house_after w step answer) steps answers h.1.1)

-- ---- the queues counted, one more

pub measured-more : (minute alarm : ℕ) (qs : List QueueHistory) (i : ℕ) (q : QueueHistory) (before after : List QueueMetrics) (told : QueueMetrics) → i < length qs → q ≡ get_or qs i q
    → before ≡ map (λ q. metrics_of minute alarm q) (take i qs) → told ≡ metrics_of minute alarm q → after ≡ before ++ told ∷ []
    → after ≡ map (λ q. metrics_of minute alarm q) (take (i + 1) qs)
measured-more minute alarm qs i q before after told l here same own is =
    is ∙ ap (λ (done : List QueueMetrics). done ++ told ∷ []) same
    ∙ ap (λ (m : QueueMetrics). map (λ q. metrics_of minute alarm q) (take i qs) ++ m ∷ []) (own ∙ ap (λ (q : QueueHistory). metrics_of minute alarm q) here)
    ∙ sym (map_more (λ q. metrics_of minute alarm q) qs i q l)
