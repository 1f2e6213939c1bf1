use Rattle.std.proofs.Common.{◌∙◌}
use Rattle.queue_core.proofs.indexed.QuestionLemmas.{sound_of}
use Rattle.queue_core.proofs.minutes.WatchLemmas.{watch_of, row-told}
use Rattle.queue_core.proofs.state.QueueState.row.Goals as goal

pub returns : goal.returns
returns c =
    c.row.ensures
    ∙ row-told c.args.self.now.lines c.args.self.now.clock c.args.self.now.rules c.self.inside.watch (watch_of _ _ c.self.inside.watch c.self.view_is c.self.invariant.4)
    (sound_of _ _ c.self.view_is c.self.invariant.0.legal).early c.args.minute
