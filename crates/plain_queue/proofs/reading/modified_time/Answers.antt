use Rattle.std.proofs.Common.{sym, ◌∙◌}
use Rattle.plain_queue.proofs.EntryLemmas.{modified_from-entry}
use Rattle.plain_queue.proofs.reading.modified_time.Goals as goal

pub loop-place-preserved : goal.loop-place-preserved
loop-place-preserved c =
    rw c.modified_by-time.ensures (sym (modified_from-entry c.args.lines.now c.loop-place.place c.line_at.result.now c.line_at.ensures c.loop-place.time) ∙ c.loop-place.invariant)
