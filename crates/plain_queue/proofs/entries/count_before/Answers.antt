use Rattle.std.proofs.Common.{refl, sym, ◌∙◌, arith}
use Rattle.plain_queue.proofs.BeforeLemmas.{filter-ordered, filter-first, filter-all}
use Rattle.plain_queue.proofs.entries.count_before.Goals as goal

pub loop-place-init : goal.loop-place-init
loop-place-init c = refl

pub returns-then-end-milliseconds-clause-before : goal.returns-then-end-milliseconds-clause-before
returns-then-end-milliseconds-clause-before c from clock ordered =
    sym (filter-ordered from clock c.args.end c.loop-place.place c.args.lines.now c.line_at.result.now ordered c.line_at.ensures (rw (sym c.milliseconds.ensures.value) c.if-end-milliseconds.true) ∙ c.loop-place.invariant)

pub loop-place-preserved : goal.loop-place-preserved
loop-place-preserved c =
    filter-first c.args.end c.loop-place.place c.args.lines.now c.line_at.result.now c.line_at.ensures (rw (sym c.len-place-end.ensures) c.loop-place-test.true) (omega (arith, c.milliseconds.ensures.value, c.if-end-milliseconds.false)) c.loop-place.invariant

pub returns-clause-before : goal.returns-clause-before
returns-clause-before c from clock ordered =
    filter-all c.args.end c.loop-place.place c.len.result c.args.lines.now (omega (arith, c.loop-place-test.false, c.len-place-end.ensures)) c.len.ensures c.loop-place.invariant
