use Rattle.queue_core.proofs.indexed.QuestionLemmas.{index_of, in_flight_counted}
use Rattle.queue_core.proofs.state.QueueState.in_flight_count.Goals as goal

pub returns : goal.returns
returns c = in_flight_counted c.args.self.now c.self.inside.index (index_of _ _ c.self.inside.index c.self.view_is c.self.invariant.2)
