use Rattle.std.proofs.Common.{Ok, refl, sym, ap, ◌∙◌}
use Rattle.std.proofs.lemmas.Result.{err_from_is_err_and}
use Rattle.queue_core.proofs.LegalSoundLemmas.{sound_legal}
use Rattle.redrive.specs.House.{needs_confirmation}
use Rattle.redrive.proofs.MovingLemmas.{IsMoved-confirmed, CostsMove-confirmed, CostsMove-unconfirmed}
use Rattle.redrive.proofs.house.House.move_one.Goals as goal

pub returns-in_err-confirm_one-clause-state : goal.returns-in_err-confirm_one-clause-state
returns-in_err-confirm_one-clause-state c =
    let p = err_from_is_err_and c.from_residual-in_err-confirm_one.result c.from_residual-in_err-confirm_one.ensures.1 in
    IsMoved-confirmed c.args.self.now c.arrive_one.new.self c.confirm_one.new.self c.args.source c.args.at (λ s there. sound_legal s (c.arrive_one.ensures.legal s there)) c.arrive_one.result
    c.arrive_one.ensures.answer c.arrive_one.ensures.state c.in_ok-moved.moved c.from_residual-in_err-confirm_one.result c.confirm_one.result c.in_ok-moved.was (sym c.needs_confirmation.ensures ∙ c.if-not-needs_confirmation.false) c.confirm_one.ensures.answer c.confirm_one.ensures.exact
    (rw (c.in_err-confirm_one.was, p.1, p.2) refl) c.confirm_one.ensures.state

pub returns-clause-state : goal.returns-clause-state
returns-clause-state c =
    IsMoved-confirmed c.args.self.now c.arrive_one.new.self c.confirm_one.new.self c.args.source c.args.at (λ s there. sound_legal s (c.arrive_one.ensures.legal s there)) c.arrive_one.result
    c.arrive_one.ensures.answer c.arrive_one.ensures.state c.in_ok-moved.moved _ c.confirm_one.result c.in_ok-moved.was (sym c.needs_confirmation.ensures ∙ c.if-not-needs_confirmation.false) c.confirm_one.ensures.answer c.confirm_one.ensures.exact
    (rw c.in_ok-confirm_one.was refl) c.confirm_one.ensures.state

pub returns-in_err-moved-clause-cost : goal.returns-in_err-moved-clause-cost
returns-in_err-moved-clause-cost c =
    let p = err_from_is_err_and c.from_residual.result c.from_residual.ensures.1 in
    CostsMove-unconfirmed c.args.self.now c.arrive_one.new.self c.args.source c.args.at c.arrive_one.result c.from_residual.result c.arrive_one.ensures.answer c.arrive_one.ensures.state
    (rw c.in_err-moved.was refl) (rw (c.in_err-moved.was, p.1, p.2) refl) c.args.ticks.now c.arrive_one.new.ticks c.arrive_one.ensures.cost

pub returns-then-not-needs_confirmation-clause-cost : goal.returns-then-not-needs_confirmation-clause-cost
returns-then-not-needs_confirmation-clause-cost c =
    CostsMove-unconfirmed c.args.self.now c.arrive_one.new.self c.args.source c.args.at c.arrive_one.result (Ok c.in_ok-moved.moved) c.arrive_one.ensures.answer c.arrive_one.ensures.state
    (ap needs_confirmation c.in_ok-moved.was ∙ (sym c.needs_confirmation.ensures ∙ c.if-not-needs_confirmation.true)) (sym c.in_ok-moved.was) c.args.ticks.now c.arrive_one.new.ticks c.arrive_one.ensures.cost

pub returns-in_err-confirm_one-clause-cost : goal.returns-in_err-confirm_one-clause-cost
returns-in_err-confirm_one-clause-cost c =
    let p = err_from_is_err_and c.from_residual-in_err-confirm_one.result c.from_residual-in_err-confirm_one.ensures.1 in
    CostsMove-confirmed c.args.self.now c.arrive_one.new.self c.confirm_one.new.self c.args.source c.args.at (λ s there. sound_legal s (c.arrive_one.ensures.legal s there)) c.arrive_one.result
    c.arrive_one.ensures.answer c.arrive_one.ensures.state c.in_ok-moved.moved c.from_residual-in_err-confirm_one.result c.confirm_one.result c.in_ok-moved.was (sym c.needs_confirmation.ensures ∙ c.if-not-needs_confirmation.false) c.confirm_one.ensures.answer c.confirm_one.ensures.exact
    (rw (c.in_err-confirm_one.was, p.1, p.2) refl) c.confirm_one.ensures.state c.args.ticks.now c.arrive_one.new.ticks c.confirm_one.new.ticks c.arrive_one.ensures.cost c.confirm_one.ensures.cost

pub returns-clause-cost : goal.returns-clause-cost
returns-clause-cost c =
    CostsMove-confirmed c.args.self.now c.arrive_one.new.self c.confirm_one.new.self c.args.source c.args.at (λ s there. sound_legal s (c.arrive_one.ensures.legal s there)) c.arrive_one.result
    c.arrive_one.ensures.answer c.arrive_one.ensures.state c.in_ok-moved.moved (Ok c.in_ok-moved.moved) c.confirm_one.result c.in_ok-moved.was (sym c.needs_confirmation.ensures ∙ c.if-not-needs_confirmation.false) c.confirm_one.ensures.answer c.confirm_one.ensures.exact
    (rw c.in_ok-confirm_one.was refl) c.confirm_one.ensures.state c.args.ticks.now c.arrive_one.new.ticks c.confirm_one.new.ticks c.arrive_one.ensures.cost c.confirm_one.ensures.cost
