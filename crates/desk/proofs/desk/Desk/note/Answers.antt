use Rattle.std.proofs.Common.{rules}
use Rattle.desk.proofs.Keeping.{splits}
use Rattle.desk.proofs.desk.Desk.note.Goals as goal

pub split_seat-requires : goal.split_seat-requires
split_seat-requires g c = (search rules, search rules, splits _ _ _ (search rules))
