use Rattle.std.proofs.Common.{sym, ◌∙◌}
use Rattle.queue_core.specs.Messages.{ends_transfer}
use Rattle.plain_queue.proofs.EntryLemmas.{any-here, any-later}
use Rattle.plain_queue.proofs.transfers.is_ended_from.Goals as goal

pub returns-then-ends_transfer : goal.returns-then-ends_transfer
returns-then-ends_transfer c =
    sym (any-here c.args.lines.now c.loop-place.place c.line_at.result.now c.line_at.ensures (λ later. ends_transfer c.args.transfer later.event) (sym c.ends_transfer.ensures ∙ c.if-ends_transfer.true)) ∙ c.loop-place.invariant

pub loop-place-preserved : goal.loop-place-preserved
loop-place-preserved c =
    sym (any-later c.args.lines.now c.loop-place.place c.line_at.result.now c.line_at.ensures (λ later. ends_transfer c.args.transfer later.event) (sym c.ends_transfer.ensures ∙ c.if-ends_transfer.false)) ∙ c.loop-place.invariant
