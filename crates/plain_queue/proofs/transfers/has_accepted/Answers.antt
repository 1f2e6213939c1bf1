use Rattle.std.proofs.Common.{sym, ◌∙◌}
use Rattle.queue_core.specs.Messages.{accepts}
use Rattle.plain_queue.proofs.EntryLemmas.{any-here, any-later}
use Rattle.plain_queue.proofs.transfers.has_accepted.Goals as goal

pub returns-then-accepts : goal.returns-then-accepts
returns-then-accepts c =
    sym (any-here c.args.lines.now c.loop-place.place c.line_at.result.now c.line_at.ensures (λ e. accepts c.args.uid c.args.number e.event) (sym c.accepts.ensures ∙ c.if-accepts.true)) ∙ c.loop-place.invariant

pub loop-place-preserved : goal.loop-place-preserved
loop-place-preserved c =
    sym (any-later c.args.lines.now c.loop-place.place c.line_at.result.now c.line_at.ensures (λ e. accepts c.args.uid c.args.number e.event) (sym c.accepts.ensures ∙ c.if-accepts.false)) ∙ c.loop-place.invariant
