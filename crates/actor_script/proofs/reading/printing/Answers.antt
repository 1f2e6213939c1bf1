-- The one reader of the board began with the sheet, which is that of the queue.
use Rattle.std.proofs.Common.{sym, ap, ◌∙◌}
use Rattle.board.proofs.OnlyReader.{taken_is}
use Rattle.board.specs.Queue.{sheet_of}
use Rattle.board.specs.Shown.{Reader}
use Rattle.actor_script.proofs.reading.printing.Goals as goal

pub new-requires-2-clause-told : goal.new-requires-2-clause-told
new-requires-2-clause-told g c =
    ap (λ (r : Reader). r.given) (taken_is _ c.in-Some.reader c.pop.new.self.items (sym c.in_ok-publisher.ensures.readers ∙ c.in-Some.ensures.items)) ∙ c.in_ok-sheet.ensures.ok ∙ ap sheet_of (sym c.of-opened.ensures)
