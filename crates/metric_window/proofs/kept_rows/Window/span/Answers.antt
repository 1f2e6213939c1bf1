use Rattle.std.proofs.Common.{arith}
use Rattle.metric_window.proofs.KeptLemmas.{last-within}
use Rattle.metric_window.proofs.kept_rows.Window.span.Goals as goal

pub overflow_sub-first : goal.overflow_sub-first
overflow_sub-first c = omega (arith, last-within c.self.inside.minute c.self.inside.rows.items c.self.invariant.1)
