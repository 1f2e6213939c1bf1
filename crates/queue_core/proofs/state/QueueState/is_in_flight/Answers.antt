use Rattle.std.proofs.Common.{◌∙◌}
use Rattle.queue_core.proofs.indexed.QuestionLemmas.{index_of, in_flight_at}
use Rattle.queue_core.proofs.state.QueueState.is_in_flight.Goals as goal

pub returns : goal.returns
returns c =
    c.is_in_flight.ensures
    ∙ in_flight_at c.args.self.now c.self.inside.index (index_of _ _ c.self.inside.index c.self.view_is c.self.invariant.2) c.args.number c.slot_of.result c.slot_of.ensures
