use Rattle.std.proofs.Common.{nat_eq, position, ap, ◌∙◌}
use Rattle.redrive.specs.declared.catalog.Registered.{Registered}
use Rattle.redrive.specs.Catalog.{NameDirectory}
use Rattle.redrive.proofs.KeyedLemmas.{placed-by}
use Rattle.redrive.proofs.catalog.Catalog.place_of.Goals as goal

pub returns : goal.returns
returns c =
    c.place_of.ensures ∙ placed-by (λ (q : Registered). q.uid) (λ u. nat_eq u c.args.uid) c.self.inside.keys.uids c.self.inside.queues.items c.self.invariant.uids
    ∙ ap (λ (d : NameDirectory). position (λ q. nat_eq q.uid c.args.uid) d.queues) c.self.view_is
