use Rattle.std.proofs.Common.{◌≡◌, Bool, [], ◌∷◌, Option, ap, ◌∙◌, arith}
use Rattle.std.specs.Option.{option_to_list}
use Rattle.alarm.specs.KeptAlarm.{breaches_of}
use Rattle.alarm.proofs.KeptLemmas.{breaches-kept}
use Rattle.alarm.proofs.kept_alarm.Alarm.minute_closed.Goals as goal

pub overflow_sub-self : goal.overflow_sub-self
overflow_sub-self c =
    let counted = c.self.invariant.1 in
    let one : c.breaches_of.result ≡ breaches_of (c.satisfies-is_breach.result ∷ []) = c.breaches_of.ensures in
    let gone = c.breaches_of-2.ensures ∙ ap (λ (o : Option Bool). breaches_of (option_to_list o)) c.push_back-before.ensures.value in
    let kept = breaches-kept c.self.inside.judged.capacity c.self.inside.judged.items c.satisfies-is_breach.result (omega (arith, c.capacity-minutes.ensures.within)) in
    omega arith

pub invariant_of-self : goal.invariant_of-self
invariant_of-self c =
    let counted = c.self.invariant.1 in
    let one : c.breaches_of.result ≡ breaches_of (c.satisfies-is_breach.result ∷ []) = c.breaches_of.ensures in
    let gone = c.breaches_of-2.ensures ∙ ap (λ (o : Option Bool). breaches_of (option_to_list o)) c.push_back-before.ensures.value in
    let kept = breaches-kept c.self.inside.judged.capacity c.self.inside.judged.items c.satisfies-is_breach.result (omega (arith, c.capacity-minutes.ensures.within)) in
    let items = ap (λ b. breaches_of b.items) c.push_back-before.ensures.items in
    (ap (λ b. b.capacity) c.push_back-before.ensures.items ∙ c.self.invariant.0, omega arith)
