use Rattle.std.proofs.Common.{ℕ, ◌+◌, Option, drop, sym, ap, ◌∙◌}
use Rattle.queue_core.specs.Messages.{first_of_both, first_receive_time}
use Rattle.plain_queue.proofs.EntryLemmas.{first_receive-entry}
use Rattle.plain_queue.proofs.reading.first_receive_time.Goals as goal

pub returns-in-Some : goal.returns-in-Some
returns-in-Some c =
    let later = first_receive_time (drop (c.loop-place.place + 1) c.args.lines.now) c.args.number in
    ap (λ (o : Option ℕ). first_of_both o later) (sym c.in-Some.is ∙ c.first_receive_in.ensures)
    ∙ sym (first_receive-entry c.args.lines.now c.loop-place.place c.line_at.result.now c.line_at.ensures c.args.number)
    ∙ c.loop-place.invariant

pub loop-place-preserved : goal.loop-place-preserved
loop-place-preserved c =
    let later = first_receive_time (drop (c.loop-place.place + 1) c.args.lines.now) c.args.number in
    ap (λ (o : Option ℕ). first_of_both o later) (sym c.in_default.is ∙ c.first_receive_in.ensures)
    ∙ sym (first_receive-entry c.args.lines.now c.loop-place.place c.line_at.result.now c.line_at.ensures c.args.number)
    ∙ c.loop-place.invariant
