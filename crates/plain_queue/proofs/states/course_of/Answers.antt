use Rattle.std.proofs.Common.{sym, ◌∙◌}
use Rattle.plain_queue.proofs.ScanLemmas.{course_from-entry}
use Rattle.plain_queue.proofs.states.course_of.Goals as goal

pub loop-place-preserved : goal.loop-place-preserved
loop-place-preserved c =
    rw c.course_after-course.ensures (sym (course_from-entry c.args.lines.now c.loop-place.place c.line_at.result.now c.line_at.ensures c.args.message.now.number c.loop-place.course) ∙ c.loop-place.invariant)
