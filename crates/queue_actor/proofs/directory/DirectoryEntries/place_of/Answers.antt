use Rattle.std.proofs.Common.{nat_eq, ◌∙◌}
use Rattle.redrive.proofs.KeyedLemmas.{placed-by}
use Rattle.queue_actor.proofs.directory.DirectoryEntries.place_of.Goals as goal

pub returns : goal.returns
returns g c =
    c.place_of.ensures ∙ placed-by (λ q. q.uid) (λ u. nat_eq u c.args.uid) c.args.self.now.keys.uids c.args.self.now.served.items c.args.self.now.uids
