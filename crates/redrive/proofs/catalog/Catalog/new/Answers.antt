use Rattle.redrive.proofs.CatalogLemmas.{IsKept-empty}
use Rattle.redrive.proofs.catalog.Catalog.new.Goals as goal

pub invariant_of-result : goal.invariant_of-result
invariant_of-result c = rw c.new.ensures.items (IsKept-empty c.new-2.result c.new-2.ensures.uids c.new-2.ensures.names)
