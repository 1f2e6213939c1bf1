use Rattle.std.proofs.Common.{subst, ap, ◌∙◌}
use Rattle.desk.specs.Views.{IsLastState}
use Rattle.desk.proofs.PassLemmas.{last_state}
use Rattle.desk.proofs.desk.Desk.close.Goals as goal

pub returns-clause-ok : goal.returns-clause-ok
returns-clause-ok g c =
    subst (λ pass. IsLastState pass c.into_state.result) c.pass.view_is
    (last_state _ c.pass.inside.seat.me.0 c.draw.new.seat.me.0 c.wait.new.seat.me.0 c.in-Some.ticket _ (ap (λ m. m.0) (c.in-Some.ensures.some.1)) c.wait.ensures.seen (c.into_state.ensures ∙ c.take-held.ensures.queue))
