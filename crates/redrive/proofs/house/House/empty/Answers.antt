use Rattle.redrive.proofs.RegistryLemmas.{IsKept-empty}
use Rattle.redrive.proofs.house.House.empty.Goals as goal

pub invariant_of-result : goal.invariant_of-result
invariant_of-result c = rw c.new.ensures (IsKept-empty c.args.limits c.new-2.result c.new-2.ensures.uids c.new-2.ensures.names)
