use Rattle.std.proofs.Common.{List, map, ap, arith}
use Rattle.message.specs.Content.{ContentText}
use Rattle.journal.specs.declared.entry.Entry.{Entry}
use Rattle.queue_core.specs.Messages.{message_count}
use Rattle.plain_queue.proofs.NumberingLemmas.{count-take}
use Rattle.plain_queue.proofs.entries.FirstEntries.are_numbered.Goals as goal

pub returns : goal.returns
returns c =
    omega (
      arith,
      c.self.invariant.1,
      count-take (map (λ line. line.now) c.self.inside.lines.now) c.self.inside.count,
      ap (λ (es : List (Entry ContentText)). message_count es) c.self.view_is,
    )
