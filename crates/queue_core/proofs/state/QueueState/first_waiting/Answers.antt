use Rattle.std.proofs.Common.{Option, ap}
use Rattle.std.specs.Prelude.{option_map}
use Rattle.queue_core.specs.declared.parcel.Parcel.{Parcel}
use Rattle.queue_core.proofs.indexed.QuestionLemmas.{index_of, legal_of, sound_of, parcel_is, parcel_kept, ends_in}
use Rattle.queue_core.proofs.state.QueueState.first_waiting.Goals as goal

pub unreachable-requires : goal.unreachable-requires
unreachable-requires c =
    parcel_kept c.args.self.now c.self.inside.index (index_of _ _ c.self.inside.index c.self.view_is c.self.invariant.2) (sound_of _ _ c.self.view_is c.self.invariant.0.legal)
    c.in_ok-number.number c.in_ok-number.target c.in_ok-number.ensures.first c.in-None.ensures.value

pub returns-clause-first : goal.returns-clause-first
returns-clause-first c =
    ap (λ (o : Option Parcel). option_map ends_in o)
    (parcel_is c.args.self.now c.self.inside.index (index_of _ _ c.self.inside.index c.self.view_is c.self.invariant.2) (sound_of _ _ c.self.view_is c.self.invariant.0.legal)
    c.in_ok-number.number c.in_ok-number.target c.origin_of.result c.in-Some.kept.now c.in_ok-number.ensures.first c.in-Some.ensures.value c.origin_of.ensures)

pub returns-clause-legal : goal.returns-clause-legal
returns-clause-legal c = legal_of _ _ c.self.view_is c.self.invariant.0.legal

pub returns-in_err-number-clause-legal : goal.returns-in_err-number-clause-legal
returns-in_err-number-clause-legal c = c.first_left.ensures.legal
