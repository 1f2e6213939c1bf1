use Rattle.std.proofs.Common.{◌≡◌, ap, arith}
use Rattle.journal.specs.Weight.{weight_of}
use Rattle.queue_core.specs.Queue.{QueueHistory}
use Rattle.queue_core.proofs.state.QueueState.weight.Goals as goal

pub returns : goal.returns
returns c =
    let weight : weight_of c.self.inside.journal.lines ≡ weight_of c.args.self.now.lines = ap (λ (q : QueueHistory). weight_of q.lines) c.self.view_is in
    let same = ap (λ s. weight_of s.journal.lines) c.self-inside.view_is in
    let limit = ap (λ s. s.limits.max_lines) c.self-inside.view_is in
    omega (arith, c.weight-lines.ensures, same, weight, limit, c.self.invariant.0.within, c.self-inside.invariant.most_lines)
