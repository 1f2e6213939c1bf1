use Rattle.std.proofs.Common.{sym, ◌∙◌}
use Rattle.plain_queue.proofs.EntryLemmas.{last_receive_from-entry}
use Rattle.plain_queue.proofs.reading.last_receive_time.Goals as goal

pub loop-place-preserved : goal.loop-place-preserved
loop-place-preserved c =
    rw c.last_receive_by-time.ensures (sym (last_receive_from-entry c.args.lines.now c.loop-place.place c.line_at.result.now c.line_at.ensures c.args.number c.loop-place.time) ∙ c.loop-place.invariant)
