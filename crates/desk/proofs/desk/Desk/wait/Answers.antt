use Rattle.std.proofs.Common.{rules}
use Rattle.desk.proofs.Keeping.{waits}
use Rattle.desk.proofs.desk.Desk.wait.Goals as goal

pub load-ended-requires : goal.load-ended-requires
load-ended-requires g c = let still = c.loop.invariant.1 in (search rules, search rules, waits _ _ _ _ _ still.stage still.empty)
