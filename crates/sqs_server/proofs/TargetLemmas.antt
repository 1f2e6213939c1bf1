-- The dead-letter queue that is asked for.
use Rattle.std.proofs.Common.{◌≡◌, ℕ, Bool, true, false, MatchBool, List, Option, Some, Err, refl, subst, sym}
use Rattle.std.specs.Str.{bytes_eq}
use Rattle.message.specs.declared.fault.Fault.TheVariants.{InvalidAttributeValue}
use Rattle.sqs_server.specs.Stages.{IsTarget}

first : {A : Type 0} (B : Type 0) (b : Bool) → b ≡ true → A → MatchBool b A B
first B true is a = a
first B false is a = absurd cc

-- the queue itself is none
pub own_target : (own name : List ℕ) (asked : Option (Option (List ℕ))) → asked ≡ Some (Some name) → bytes_eq name own ≡ true
    → IsTarget own asked (Err InvalidAttributeValue)
own_target own name asked is same =
    subst (λ (a : Option (Option (List ℕ))). IsTarget own a (Err InvalidAttributeValue)) (sym is) (first _ (bytes_eq name own) same refl)
