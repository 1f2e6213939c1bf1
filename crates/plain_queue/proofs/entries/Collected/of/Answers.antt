use Rattle.std.proofs.Common.{List, ap, ◌∙◌, arith}
use Rattle.std.proofs.lemmas.List.{take_all}
use Rattle.message.specs.Content.{ContentText}
use Rattle.journal.specs.declared.entry.Entry.{Entry}
use Rattle.queue_core.specs.Messages.{message_count}
use Rattle.plain_queue.proofs.EntryLemmas.{read_more}
use Rattle.plain_queue.proofs.NumberingLemmas.{count-more}
use Rattle.plain_queue.proofs.entries.Collected.of.Goals as goal

pub loop-place-preserved : goal.loop-place-preserved
loop-place-preserved c =
    let more = count-more c.args.journal.now.lines c.loop-place.place c.read_line-line.result.now c.read_line-line.ensures in (
      rw c.in_ok-push.ensures.items
          (read_more (λ line. line.now) c.loop-place.lines.items c.args.journal.now.lines c.loop-place.place c.read_line-line.result (omega arith) c.read_line-line.ensures c.loop-place.invariant.0),
      (omega (arith, more, c.in_ok-begun.ensures.ok, c.births.ensures, c.loop-place.invariant.1.0), omega (arith, c.in_ok-begun.ensures.fits)),
    )

pub returns-clause-lines : goal.returns-clause-lines
returns-clause-lines c = c.loop-place.invariant.0 ∙ take_all c.loop-place.place c.args.journal.now.lines (omega arith)

pub invariant_of-result : goal.invariant_of-result
invariant_of-result c =
    let same = ap (λ (es : List (Entry ContentText)). message_count es) c.loop-place.invariant.0 in
    omega (arith, same, c.loop-place.invariant.1.0, c.loop-place.invariant.1.1)
