use Rattle.std.proofs.Common.{sym, ◌∙◌}
use Rattle.plain_queue.proofs.TransferLemmas.{first-here, first-later}
use Rattle.plain_queue.proofs.transfers.first_transfer.Goals as goal

pub returns-in-Some : goal.returns-in-Some
returns-in-Some c =
    sym (first-here c.args.lines.now c.loop-place.place c.line_at.result.now c.line_at.ensures c.in-Some.transfer (cc)) ∙ c.loop-place.invariant

pub loop-place-preserved : goal.loop-place-preserved
loop-place-preserved c =
    sym (first-later c.args.lines.now c.loop-place.place c.line_at.result.now c.line_at.ensures (cc)) ∙ c.loop-place.invariant
