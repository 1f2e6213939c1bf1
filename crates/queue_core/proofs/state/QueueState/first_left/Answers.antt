use Rattle.std.proofs.Common.{refl, arith}
use Rattle.queue_core.proofs.indexed.QuestionLemmas.{front_is, index_of, legal_of, sound_of, left_for}
use Rattle.queue_core.proofs.state.QueueState.first_left.Goals as goal

pub returns-clause-first : goal.returns-clause-first
returns-clause-first c =
    left_for c.args.self.now c.self.inside.index (index_of _ _ c.self.inside.index c.self.view_is c.self.invariant.2) (sound_of _ _ c.self.view_is c.self.invariant.0.legal)
    c.in_ok-number.field-0.now c.in-Left.target c.in-Left.ran_out c.in_ok-target.field-0
    (front_is c.self.inside.index.leaving.items c.in_ok-number.field-0.now
    (let more = c.in_ok-number.ensures.variant.0 refl in let ok = c.self.inside.index.leaving.ok in omega (arith, more, ok))
    c.in_ok-number.ensures.lookup)
    c.in_ok-target.ensures c.in-Left.is

pub returns-clause-legal : goal.returns-clause-legal
returns-clause-legal c = legal_of _ _ c.self.view_is c.self.invariant.0.legal

pub returns-in_err-number-clause-legal : goal.returns-in_err-number-clause-legal
returns-in_err-number-clause-legal c = legal_of _ _ c.self.view_is c.self.invariant.0.legal

pub returns-in_err-target-clause-legal : goal.returns-in_err-target-clause-legal
returns-in_err-target-clause-legal c = legal_of _ _ c.self.view_is c.self.invariant.0.legal
