use Rattle.std.proofs.Common.{rules}
use Rattle.desk.proofs.Keeping.{looks}
use Rattle.desk.proofs.desk.Desk.look.Goals as goal

pub load-requires : goal.load-requires
load-requires g c = (search rules, search rules, looks _ _ _ _ c.requires.idle)
