use Rattle.std.proofs.Common.{◌∙◌}
use Rattle.queue_core.proofs.indexed.QuestionLemmas.{index_of, left_for_counted}
use Rattle.queue_core.proofs.state.QueueState.waiting_count.Goals as goal

pub returns : goal.returns
returns c =
    c.left_for.ensures ∙ left_for_counted c.args.self.now c.self.inside.index (index_of _ _ c.self.inside.index c.self.view_is c.self.invariant.2) c.args.target
