use Rattle.std.proofs.Common.{sym, ◌∙◌}
use Rattle.plain_queue.proofs.EntryLemmas.{settings_from-entry}
use Rattle.plain_queue.proofs.reading.settings_of.Goals as goal

pub loop-place-preserved : goal.loop-place-preserved
loop-place-preserved c =
    rw c.settings_after-settings.ensures (sym (settings_from-entry c.args.lines.now c.loop-place.place c.line_at.result.now c.line_at.ensures c.loop-place.settings) ∙ c.loop-place.invariant)
