use Rattle.std.proofs.Common.{refl}
use Rattle.board.proofs.Placing.{sees}
use Rattle.board.proofs.reader.Reader.look.Goals as goal

pub enter_as-requires : goal.enter_as-requires
enter_as-requires c x = sees _ _ x x refl
