-- What a queue answers by itself is what the registry answers.
use Rattle.std.proofs.Common.{◌≡◌, ℕ, Bool, true, false, cond, Option, Some, None, refl, sym, subst, eqb-true}
use Rattle.std.specs.Prelude.{nat_eq, IfSome, option_and_then}
use Rattle.std.specs.Option.{option_map_or}
use Rattle.message.specs.declared.fault.Fault.{Fault}
use Rattle.message.specs.Fault.{Meets}
use Rattle.queue_core.specs.declared.command.Command.{Command}
use Rattle.queue_core.specs.declared.parcel.Parcel.{Parcel}
use Rattle.redrive.specs.declared.steps.HouseStep.{HouseStep}
use Rattle.redrive.specs.declared.steps.HouseStep.TheVariants as steps
use Rattle.redrive.specs.House.{House, queue_of_uid, step_refusal, first_parcel_in, delivery_of, accepted_number}
use Rattle.redrive.specs.HouseSteps.{HouseAnswer, Act, perform_act, hand_over_act, confirm_act, act_of, answer_of_act, answer_of_step, answer_alone}

when-own : (b : Bool) (x : HouseAnswer) (P : HouseAnswer → Type 0) → (b ≡ true → P x) → IfSome (cond b (Some x) None) P
when-own true x P h = h refl
when-own false x P h = tt

module _ (w : House) (uid : ℕ) (answer : HouseAnswer) where
  -- an act for the queue of one uid
  act-alone : (act : Act) (own : ℕ) → act.uid ≡ Some own → Meets answer (answer_of_act w act)
      → IfSome (cond (option_map_or (λ own. nat_eq own uid) act.uid true) (Some (act.answer (queue_of_uid w uid))) None) (λ wanted. Meets answer wanted)
  act-alone act own is meets =
      subst (λ (o : Option ℕ). IfSome (cond (option_map_or (λ own. nat_eq own uid) o true) (Some (act.answer (queue_of_uid w uid))) None) (λ wanted. Meets answer wanted)) (sym is)
      (when-own (nat_eq own uid) (act.answer (queue_of_uid w uid)) (λ wanted. Meets answer wanted)
      (λ same. subst (λ (u : ℕ). Meets answer (act.answer (queue_of_uid w u))) (eqb-true own uid same)
      (subst (λ (o : Option ℕ). Meets answer (act.answer (option_and_then (queue_of_uid w) o))) is meets)))

  performs-uid : (at own : ℕ) (command : Command) (o : Option Fault) → (perform_act at own command o).uid ≡ Some own
  performs-uid at own command None = refl
  performs-uid at own command (Some fault) = refl

  hands-uid : (at source : ℕ) (o : Option Parcel) → (hand_over_act w at source o).uid ≡ Some (option_map_or (λ p. (delivery_of w source p).uid) o source)
  hands-uid at source None = refl
  hands-uid at source (Some p) = refl

  confirms-uid : (at source : ℕ) (o : Option ℕ) → (confirm_act at source o).uid ≡ Some source
  confirms-uid at source None = refl
  confirms-uid at source (Some n) = refl

  pub answered_alone : (step : HouseStep) → Meets answer (answer_of_step w step) → IfSome (answer_alone w uid (queue_of_uid w uid) step) (λ wanted. Meets answer wanted)
  answered_alone (steps.Create at name wish) meets = act-alone (act_of w (steps.Create at name wish)) _ refl meets
  answered_alone (steps.Delete at own) meets = act-alone (act_of w (steps.Delete at own)) own refl meets
  answered_alone (steps.Perform at own command) meets = act-alone (act_of w (steps.Perform at own command)) own (performs-uid at own command (step_refusal w own command)) meets
  answered_alone (steps.HandOver at source) meets = act-alone (act_of w (steps.HandOver at source)) _ (hands-uid at source (first_parcel_in w source)) meets
  answered_alone (steps.Confirm at source) meets = act-alone (act_of w (steps.Confirm at source)) source (confirms-uid at source (accepted_number w source)) meets
  answered_alone (steps.Advance at) meets = meets
