use Rattle.std.proofs.Common.{arith}
use Rattle.statistics_api.proofs.routes.cut.Goals as goal

pub returns : goal.returns
returns c = c.split_once.ensures.byte (omega arith) (λ w o h. h)
