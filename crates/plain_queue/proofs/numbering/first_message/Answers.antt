use Rattle.std.proofs.Common.{sym, ◌∙◌, arith}
use Rattle.plain_queue.proofs.NumberingLemmas.{found, found_at, missed_at, none_left}
use Rattle.plain_queue.proofs.numbering.first_message.Goals as goal

pub returns-in-Some-clause-first : goal.returns-in-Some-clause-first
returns-in-Some-clause-first c =
    found c.args.lines.now c.loop-place.place c.args.number c.loop-place.before c.line_at.result.now c.line_at.ensures c.loop-place.invariant c.in-Some.message (sym c.message_of.ensures ∙ c.in-Some.is)

pub returns-in-Some-clause-place : goal.returns-in-Some-clause-place
returns-in-Some-clause-place c =
    found_at c.args.lines.now c.loop-place.place c.args.number c.loop-place.before c.line_at.result.now c.line_at.ensures c.loop-place.invariant c.in-Some.message (sym c.message_of.ensures ∙ c.in-Some.is)

pub loop-place-preserved : goal.loop-place-preserved
loop-place-preserved c =
    missed_at c.args.lines.now c.loop-place.place c.args.number c.loop-place.before c.line_at.result.now c.line_at.ensures c.loop-place.invariant (sym c.message_of.ensures ∙ c.in_default.is)

pub returns-clause-none : goal.returns-clause-none
returns-clause-none c = none_left c.args.lines.now c.loop-place.place c.args.number c.loop-place.before c.loop-place.invariant (omega (arith, c.loop-place-test.false, c.len-place-end.ensures))
