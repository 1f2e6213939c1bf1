use Rattle.std.proofs.Common.{nat_eq, position, ap, ◌∙◌}
use Rattle.queue_core.specs.Queue.{QueueHistory}
use Rattle.redrive.specs.House.{House}
use Rattle.redrive.proofs.KeyedLemmas.{placed-by}
use Rattle.redrive.proofs.house.House.place_of.Goals as goal

pub returns-clause-place : goal.returns-clause-place
returns-clause-place c =
    c.place_of.ensures ∙ placed-by (λ (q : QueueHistory). q.uid) (λ u. nat_eq u c.args.uid) c.self.inside.keys.uids c.self.inside.queues.queues c.self.invariant.uids
    ∙ ap (λ (w : House). position (λ q. nat_eq q.uid c.args.uid) w.queues) c.self.view_is
