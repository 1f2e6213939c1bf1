-- The one reader that is taken out is the one that was made.
use Rattle.std.proofs.Common.{ap, sym, ◌∙◌}
use Rattle.board.specs.Shown.{Reader}
use Rattle.board.proofs.OnlyReader.{taken_is}
use Rattle.sqs_server.proofs.queues.open_board.Goals as goal

pub returns-in-Some-clause-book : goal.returns-in-Some-clause-book
returns-in-Some-clause-book g c =
    ap (λ (r : Reader). r.book) (taken_is _ c.in-Some.reader c.pop.new.self.items (sym c.in_ok-printer.ensures.readers ∙ c.in-Some.ensures.items))

pub returns-in-Some-clause-given : goal.returns-in-Some-clause-given
returns-in-Some-clause-given g c =
    ap (λ (r : Reader). r.given) (taken_is _ c.in-Some.reader c.pop.new.self.items (sym c.in_ok-printer.ensures.readers ∙ c.in-Some.ensures.items))
    ∙ c.in_ok-sheet.ensures.ok
