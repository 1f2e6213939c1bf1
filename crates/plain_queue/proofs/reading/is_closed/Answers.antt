use Rattle.std.proofs.Common.{sym, ◌∙◌}
use Rattle.queue_core.specs.Messages.{closes}
use Rattle.plain_queue.proofs.EntryLemmas.{any-here, any-later}
use Rattle.plain_queue.proofs.reading.is_closed.Goals as goal

pub returns-then-closes : goal.returns-then-closes
returns-then-closes c =
    sym (any-here c.args.lines.now c.loop-place.place c.line_at.result.now c.line_at.ensures (λ e. closes e.event) (sym c.closes.ensures ∙ c.if-closes.true)) ∙ c.loop-place.invariant

pub loop-place-preserved : goal.loop-place-preserved
loop-place-preserved c =
    sym (any-later c.args.lines.now c.loop-place.place c.line_at.result.now c.line_at.ensures (λ e. closes e.event) (sym c.closes.ensures ∙ c.if-closes.false)) ∙ c.loop-place.invariant
