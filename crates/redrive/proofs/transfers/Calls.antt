-- What the calls that move dead letters leave is what steps leave.
use Rattle.std.proofs.Common.{◌≡◌, ℕ, Bool, true, false, cond, [], ◌∷◌, Result, Ok, refl, sym, ap, subst, ◌∙◌, arith}
use Rattle.std.proofs.lemmas.Bool.{false≢true}
use Rattle.message.specs.declared.fault.Fault.{Fault}
use Rattle.message.specs.Fault.{Meets}
use Rattle.redrive.specs.declared.moved.Moved.{Moved}
use Rattle.redrive.specs.declared.steps.HouseStep.{HouseStep}
use Rattle.redrive.specs.declared.steps.HouseStep.TheVariants.{HandOver, Confirm}
use Rattle.redrive.specs.House.{House, has_queue, arrive_answer, needs_confirmation, IsHandedOver, IsConfirmed, IsMoved}
use Rattle.redrive.specs.private.Cost.{IsDone}
use Rattle.redrive.specs.HouseSteps.{HouseAnswer, act_of, house_after, IsAnswerOf, AreStepsTo, steps_of_move}
use Rattle.redrive.proofs.AnswerLemmas.{accepted-there, confirmed-done, handed-done}

-- an answer of the registry to a step leaves the new house
record IsStepTo (old : House) (step : HouseStep) (new : House) : Type 0 where
  answer : HouseAnswer
  answered : IsAnswerOf old step answer
  left : new ≡ house_after old step answer

one : (old new : House) (step : HouseStep) → IsStepTo old step new → AreStepsTo old (step ∷ []) new
one old new step s = record { answers = s.answer ∷ []; answered = (s.answered, tt); left = s.left }

two : (old between new : House) (first second : HouseStep) → IsStepTo old first between → IsStepTo between second new → AreStepsTo old (first ∷ second ∷ []) new
two old between new first second s t =
    let u : IsStepTo (house_after old first s.answer) second new = subst (λ (w : House). IsStepTo w second new) s.left t in
    record { answers = s.answer ∷ u.answer ∷ []; answered = (s.answered, (u.answered, tt)); left = u.left }

-- what an act leaves
act-step : (old : House) (step : HouseStep) (answer : HouseAnswer) (new : House) → IsDone old (act_of old step) answer new 0 0 → IsStepTo old step new
act-step old step answer new d = record { answer = answer; answered = record { meets = d.meets; exact = d.exact }; left = d.left }

-- ---- a hand-over

module _ (old new : House) (source at : ℕ) (answer : Result Moved Fault) where
  handed : Meets answer (arrive_answer old source at) → IsHandedOver old source at answer new → IsStepTo old (HandOver at source) new
  handed meets h = act-step old (HandOver at source) _ new (handed-done old new at source 0 0 answer meets h.exact h.left (omega arith))

  pub arrival-steps : Meets answer (arrive_answer old source at) → IsHandedOver old source at answer new → AreStepsTo old (HandOver at source ∷ []) new
  arrival-steps meets h = one old new (HandOver at source) (handed meets h)

-- ---- a confirmation

confirmed : (old between new : House) (source at : ℕ) (half answer : Result Moved Fault) → IsConfirmed old between source at half answer new → IsStepTo between (Confirm at source) new
confirmed old between new source at half answer c =
    let there : has_queue between source ≡ true = accepted-there between new at source 0 0 c.number c.accepted in
    act-step between (Confirm at source) _ new
    (confirmed-done between new at source 0 0 c.confirmed (rw there c.meets) (λ none. rw there (c.exact none)) c.left (omega arith))

-- ---- a move

module _ (old new : House) (source at : ℕ) (answer : Result Moved Fault) (m : IsMoved old source at answer new) where
  both : (b : Bool) → needs_confirmation m.handed_over ≡ b → AreStepsTo old (HandOver at source ∷ cond b (Confirm at source ∷ []) []) new
  both true e =
      two old m.between new (HandOver at source) (Confirm at source) (handed old m.between source at m.handed_over m.meets m.first_half)
      (confirmed old m.between new source at m.handed_over answer (m.second_half e))
  both false e =
      one old new (HandOver at source)
      (subst (λ (w : House). IsStepTo old (HandOver at source) w) (sym (m.no_second_half e).1) (handed old m.between source at m.handed_over m.meets m.first_half))

  pub move-steps : AreStepsTo old (steps_of_move source at m.handed_over) new
  move-steps = both (needs_confirmation m.handed_over) refl
