use Rattle.std.proofs.Common.{rules}
use Rattle.desk.proofs.Keeping.{draws, counts}
use Rattle.desk.proofs.desk.Desk.draw.Goals as goal

pub load-next-requires : goal.load-next-requires
load-next-requires g c = (search rules, search rules, counts _ _ _ _ c.requires.idle)

pub compare_exchange-found-requires : goal.compare_exchange-found-requires
compare_exchange-found-requires g c = (search rules, search rules, draws _ _ _ _ _ (search rules) (search rules))
