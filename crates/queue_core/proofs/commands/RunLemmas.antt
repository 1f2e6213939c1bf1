-- A run of commands, one step on and at its end.
use Rattle.std.proofs.Common.{◌≡◌, ℕ, ◌+◌, ◌≤◌, length, List, [], ◌∷◌, ◌++◌, drop, Result, refl, sym, ap, subst, ◌∙◌, append_assoc, arith}
use Rattle.std.proofs.lemmas.List.{append-nil, drop_all}
use Rattle.message.specs.declared.fault.Fault.{Fault}
use Rattle.queue_core.specs.declared.command.TimedCommand.{TimedCommand}
use Rattle.queue_core.specs.declared.reply.Reply.{Reply}
use Rattle.queue_core.specs.Queue.{QueueHistory, Outcome, outcome_at, after_answer}
use Rattle.queue_core.specs.Run.{EachAnswered, after_all}
use Rattle.queue_core.specs.Cost.{most_ticks, most_ticks_of_all}

-- what answers the steps that are left in the queue as it is now answers, behind the answers so far, all steps
pub record Continues (R : QueueHistory → Outcome → Result Reply Fault → Type 0) (first : QueueHistory) (steps : List TimedCommand) (answers : List (Result Reply Fault)) (now : QueueHistory) (left : List TimedCommand) : Type 0 where
  pub answered : (rest : List (Result Reply Fault)) → EachAnswered R now left rest → EachAnswered R first steps (answers ++ rest)
  pub state : (rest : List (Result Reply Fault)) → after_all first steps (answers ++ rest) ≡ after_all now left rest

module _ (R : QueueHistory → Outcome → Result Reply Fault → Type 0) where
  pub Continues-step : (first : QueueHistory) (steps : List TimedCommand) (answers : List (Result Reply Fault)) (now : QueueHistory) (left rest : List TimedCommand) (step : TimedCommand) (answer : Result Reply Fault) (next : QueueHistory)
      → Continues R first steps answers now left → left ≡ step ∷ rest → R now (outcome_at now step.at step.command) answer → next ≡ after_answer now step.at step.command answer
      → Continues R first steps (answers ++ answer ∷ []) next rest
  Continues-step first steps answers now left rest step answer next h is meets after = record {
    answered = λ others p.
        rw append_assoc (h.answered (answer ∷ others) (rw is (meets, subst (λ (q : QueueHistory). EachAnswered R q rest others) after p)));
    state = λ others.
        rw append_assoc (h.state (answer ∷ others) ∙ rw (is, after) refl);
  }

  pub Continues-end : (first : QueueHistory) (steps : List TimedCommand) (answers : List (Result Reply Fault)) (now : QueueHistory) (i : ℕ) → length steps ≤ i
      → Continues R first steps answers now (drop i steps) → EachAnswered R first steps answers × (now ≡ after_all first steps answers)
  Continues-end first steps answers now i past c =
      let h : Continues R first steps answers now [] = subst (λ (left : List TimedCommand). Continues R first steps answers now left) (drop_all i steps past) c in (
        subst (λ (all : List (Result Reply Fault)). EachAnswered R first steps all) (append-nil answers) (h.answered [] tt),
        sym (ap (λ (all : List (Result Reply Fault)). after_all first steps all) (sym (append-nil answers)) ∙ h.state []),
      )

-- what the steps that are left may cost in the queue as it is now, and what was spent, all steps may cost
pub record Pays (begun : ℕ) (first : QueueHistory) (steps : List TimedCommand) (answers : List (Result Reply Fault)) (spent : ℕ) (now : QueueHistory) (left : List TimedCommand) : Type 0 where
  pub within : (rest : List (Result Reply Fault)) → spent + most_ticks_of_all now left rest ≤ begun + most_ticks_of_all first steps (answers ++ rest)

pub pays_step : (begun : ℕ) (first : QueueHistory) (steps : List TimedCommand) (answers : List (Result Reply Fault)) (spent spent' : ℕ) (now : QueueHistory) (left rest : List TimedCommand) (step : TimedCommand) (answer : Result Reply Fault)
    (next : QueueHistory) → Pays begun first steps answers spent now left → left ≡ step ∷ rest → spent' ≤ spent + most_ticks now next → next ≡ after_answer now step.at step.command answer
    → Pays begun first steps (answers ++ answer ∷ []) spent' next rest
pays_step begun first steps answers spent spent' now left rest step answer next h is cost after = record {
  within = λ others.
      let was = h.within (answer ∷ others) in
      let all : answers ++ answer ∷ others ≡ (answers ++ answer ∷ []) ++ others = sym (append_assoc answers (answer ∷ []) others) in
      let same : most_ticks_of_all first steps (answers ++ answer ∷ others) ≡ most_ticks_of_all first steps ((answers ++ answer ∷ []) ++ others) = ap (λ (xs : List (Result Reply Fault)). most_ticks_of_all first steps xs) all in
      let here : most_ticks_of_all now left (answer ∷ others) ≡ most_ticks now next + most_ticks_of_all next rest others =
      ap (λ (xs : List TimedCommand). most_ticks_of_all now xs (answer ∷ others)) is ∙ ap (λ (q : QueueHistory). most_ticks now q + most_ticks_of_all q rest others) (sym after) in
      omega (arith, was, same, here, cost);
}

pub pays_end : (begun : ℕ) (first : QueueHistory) (steps : List TimedCommand) (answers : List (Result Reply Fault)) (spent : ℕ) (now : QueueHistory) (i : ℕ) → length steps ≤ i
    → Pays begun first steps answers spent now (drop i steps) → spent ≤ begun + most_ticks_of_all first steps answers
pays_end begun first steps answers spent now i past h =
    let was = h.within [] in
    let none : most_ticks_of_all now (drop i steps) [] ≡ 0 = ap (λ (xs : List TimedCommand). most_ticks_of_all now xs []) (drop_all i steps past) in
    let all : most_ticks_of_all first steps (answers ++ []) ≡ most_ticks_of_all first steps answers = ap (λ (xs : List (Result Reply Fault)). most_ticks_of_all first steps xs) (append-nil answers) in
    omega (arith, was, none, all)
