use Rattle.std.proofs.Common.{refl, sym, ◌∙◌}
use Rattle.queue_actor.proofs.ServingLemmas.{nothing_left}
use Rattle.queue_actor.proofs.ScriptLemmas.{where_none}
use Rattle.actor_script.proofs.fakes.ScriptInboxNumberedU64AnswerNoPress.next.Goals as goal

pub returns-clause-none : goal.returns-clause-none
returns-clause-none g c =
    where_none _ c.pop_front.result c.pop_front.ensures.cases (λ empty.
    let before = nothing_left _ (sym c.args.self.now.mails.ok.0 ∙ empty.0) in
    let after = nothing_left _ (sym c.pop_front.new.self.ok.0 ∙ empty.1) in
    (before, after ∙ sym before, refl, refl))
