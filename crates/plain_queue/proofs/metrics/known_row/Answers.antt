use Rattle.std.proofs.Common.{Some, None, sym, ◌∙◌}
use Rattle.plain_queue.proofs.EntryLemmas.{row-entry}
use Rattle.plain_queue.proofs.metrics.known_row.Goals as goal

pub returns-in-Some : goal.returns-in-Some
returns-in-Some c =
    sym (row-entry c.args.lines.now c.loop-place.place c.line_at.result.now c.line_at.ensures c.args.minute (Some c.in-Some.row) (sym c.in-Some.is ∙ c.row_known_by.ensures))
    ∙ c.loop-place.invariant

pub loop-place-preserved : goal.loop-place-preserved
loop-place-preserved c =
    sym (row-entry c.args.lines.now c.loop-place.place c.line_at.result.now c.line_at.ensures c.args.minute None (sym c.in_default.is ∙ c.row_known_by.ensures))
    ∙ c.loop-place.invariant
