use Rattle.std.proofs.Common.{ℕ, List, ap, ◌∙◌}
use Rattle.message.specs.Content.{ContentText}
use Rattle.journal.specs.declared.entry.Entry.{Entry}
use Rattle.queue_core.specs.States.{gauges_of}
use Rattle.queue_core.specs.Metrics.{entries_until}
use Rattle.plain_queue.proofs.metrics.minute_gauges.Goals as goal

pub returns : goal.returns
returns c from ordered =
    c.gauges_of.ensures
    ∙ ap (λ (lines : List (Entry ContentText)). gauges_of lines c.millisecond_before-last.result) (c.before-2.ensures from c.args.clock ordered)
    ∙ ap (λ (clock : ℕ). gauges_of (entries_until c.args.lines.now c.args.minute) clock) c.millisecond_before-last.ensures
