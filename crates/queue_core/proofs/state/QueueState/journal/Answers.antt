use Rattle.std.proofs.Common.{◌≡◌, arith, length, ap}
use Rattle.queue_core.specs.Queue.{QueueHistory}
use Rattle.queue_core.proofs.AloneLemmas.{length-weight}
use Rattle.queue_core.proofs.state.QueueState.journal.Goals as goal

pub returns-clause-within : goal.returns-clause-within
returns-clause-within c =
    let lines : length c.self.inside.journal.lines ≡ length c.args.self.now.lines = ap (λ (q : QueueHistory). length q.lines) c.self.view_is in
    let limit = ap (λ s. s.limits.max_lines) c.self-inside.view_is in
    omega (arith, lines, limit, length-weight c.self.inside.journal.lines, c.self.invariant.0.within, c.self-inside.invariant.most_lines)
