use Rattle.std.proofs.Common.{ℕ, ◌+◌, Option, drop, sym, ap, ◌∙◌}
use Rattle.std.specs.Prelude.{unwrap_or}
use Rattle.queue_core.specs.Messages.{created_time}
use Rattle.plain_queue.proofs.EntryLemmas.{created_time-entry}
use Rattle.plain_queue.proofs.reading.created_time.Goals as goal

pub returns-in-Some : goal.returns-in-Some
returns-in-Some c =
    let later = created_time (drop (c.loop-place.place + 1) c.args.lines.now) in
    ap (λ (o : Option ℕ). unwrap_or o later) (sym c.in-Some.is)
    ∙ c.created_by.ensures later
    ∙ sym (created_time-entry c.args.lines.now c.loop-place.place c.line_at.result.now c.line_at.ensures)
    ∙ c.loop-place.invariant

pub loop-place-preserved : goal.loop-place-preserved
loop-place-preserved c =
    let later = created_time (drop (c.loop-place.place + 1) c.args.lines.now) in
    ap (λ (o : Option ℕ). unwrap_or o later) (sym c.in_default.is)
    ∙ c.created_by.ensures later
    ∙ sym (created_time-entry c.args.lines.now c.loop-place.place c.line_at.result.now c.line_at.ensures)
    ∙ c.loop-place.invariant
