use Rattle.std.proofs.Common.{rules}
use Rattle.desk.proofs.Keeping.{begins, counts}
use Rattle.desk.proofs.desk.Desk.begin.Goals as goal

pub load-drawn-requires : goal.load-drawn-requires
load-drawn-requires g c = (search rules, search rules, counts _ _ _ _ c.requires.idle)

pub compare_exchange-found-requires : goal.compare_exchange-found-requires
compare_exchange-found-requires g c = (search rules, search rules, begins _ _ _ _ _ (search rules) (search rules) (search rules) (search rules))
