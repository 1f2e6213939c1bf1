use Rattle.std.proofs.Common.{ap}
use Rattle.journal.specs.Journal.{Lines}
use Rattle.queue_core.specs.Queue.{QueueHistory}
use Rattle.queue_core.proofs.commands.LegalLemmas.{kept-spare}
use Rattle.queue_core.proofs.state.QueueState.reserve.Goals as goal

pub invariant_of-self : goal.invariant_of-self
invariant_of-self c =
    let lines = ap (λ (j : Lines). j.lines) c.reserve.ensures.lines in
    let limit = ap (λ (j : Lines). j.limit) c.reserve.ensures.lines in
    let q : QueueHistory = record { uid = c.self.inside.uid; name = c.self.inside.name; limits = c.self.inside.limits; rules = c.self.inside.rules.items; clock = c.self.inside.clock; lines = c.self.inside.journal.lines; spare = c.self.inside.journal.spare } in
    rw (lines, limit) (kept-spare q c.self.inside.journal.limit c.reserve.new.self.spare c.self.invariant.0, c.self.invariant.1, c.self.invariant.2, c.self.invariant.3, c.self.invariant.4)
