use Rattle.std.proofs.Common.{◌≡◌, ◌∙◌, Ok, IfOk, IfSome, refl, subst, sym}
use Rattle.queue_actor.proofs.MovingLemmas.{has_arrived}
use Rattle.queue_actor.proofs.parcels.hand_over.Goals as goal

pub returns-in-Ok-clause-accepted : goal.returns-in-Ok-clause-accepted
returns-in-Ok-clause-accepted g c =
    let queue = c.in-Ok-Some.queue in
    let uid : queue.uid ≡ c.args.parcel.target =
    subst (λ known. IfSome known (λ q. q.uid ≡ c.args.parcel.target)) c.in-Ok-Some.field-0-is
    (subst (λ found. IfOk found (λ known. IfSome known (λ q. q.uid ≡ c.args.parcel.target))) c.in-Ok-Some.is c.requires.uid) in
    has_arrived c.args.at c.args.parcel c.ask-answer.result queue.pass (queue.opened ∙ uid) c.ask-answer.ensures.call c.ask-answer.ensures.known
    (Ok c.in-Ok.field-0) (sym c.reply.ensures ∙ c.in-Ok.is) refl
