use Rattle.std.proofs.Common.{◌∙◌}
use Rattle.queue_core.proofs.indexed.QuestionLemmas.{index_of, here_at}
use Rattle.queue_core.proofs.state.QueueState.is_live.Goals as goal

pub returns : goal.returns
returns c =
    c.is_here.ensures ∙ here_at c.args.self.now c.self.inside.index (index_of _ _ c.self.inside.index c.self.view_is c.self.invariant.2) c.args.number c.slot_of.result c.slot_of.ensures
