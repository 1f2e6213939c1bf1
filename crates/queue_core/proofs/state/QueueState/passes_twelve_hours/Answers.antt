use Rattle.std.proofs.Common.{ap, ◌∙◌}
use Rattle.queue_core.specs.Queue.{QueueHistory}
use Rattle.queue_core.proofs.indexed.QuestionLemmas.{index_of, in_flight_kept, twelve_hours}
use Rattle.queue_core.proofs.state.QueueState.passes_twelve_hours.Goals as goal

pub returns : goal.returns
returns c =
    twelve_hours c.args.self.now c.self.inside.index (index_of _ _ c.self.inside.index c.self.view_is c.self.invariant.2) c.args.number c.args.timeout c.from.result c.milliseconds-last.result c.milliseconds.result
    c.in-Some.kept.now c.in-Some.ensures.value c.milliseconds-last.ensures.value
    (c.milliseconds.ensures.value ∙ ap (λ (q : QueueHistory). q.clock) c.self.view_is)
    c.from.ensures

pub unreachable-requires : goal.unreachable-requires
unreachable-requires c =
    in_flight_kept c.args.self.now c.self.inside.index (index_of _ _ c.self.inside.index c.self.view_is c.self.invariant.2) c.args.number c.requires c.in-None.ensures.value
