use Rattle.std.proofs.Common.{List, ap, arith}
use Rattle.std.specs.Prelude.{sum_by}
use Rattle.std.proofs.lemmas.List.{drop_all}
use Rattle.message.specs.Content.{ContentText}
use Rattle.journal.specs.declared.entry.Entry.{Entry}
use Rattle.queue_core.specs.Messages.{receives_in}
use Rattle.plain_queue.proofs.EntryLemmas.{receives-entry}
use Rattle.plain_queue.proofs.states.receive_count.Goals as goal

pub loop-place-preserved : goal.loop-place-preserved
loop-place-preserved c = (
  omega (arith, c.loop-place.invariant.0, c.loop-place.invariant.1, receives-entry c.args.lines.now c.loop-place.place c.line_at.result.now c.line_at.ensures c.args.number),
  omega arith,
)

pub returns : goal.returns
returns c =
    let none = ap (λ (es : List (Entry ContentText)). sum_by (λ e. receives_in c.args.number e.event) es)
    (drop_all c.loop-place.place c.args.lines.now (omega (arith, c.loop-place-test.false, c.len-place-end.ensures))) in
    omega (arith, none, c.loop-place.invariant.0, c.loop-place.invariant.1)
