use Rattle.std.proofs.Common.{rules}
use Rattle.desk.proofs.Keeping.{splits, enters}
use Rattle.desk.proofs.desk.Desk.pass.Goals as goal

pub split_seat-seat-requires : goal.split_seat-seat-requires
split_seat-seat-requires g c = (search rules, search rules, splits _ _ _ (search rules))

pub load-requires : goal.load-requires
load-requires g c = (search rules, search rules, enters _ _ _ _ (search rules))
