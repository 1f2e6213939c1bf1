use Rattle.std.proofs.Common.{rules, Some}
use Rattle.desk.proofs.desk.Desk.take.Goals as goal

pub exchange-requires : goal.exchange-requires
exchange-requires g c = (search rules, (Some c.requires.turn.1.2.0, search rules))
