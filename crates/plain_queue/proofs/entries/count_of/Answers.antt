use Rattle.std.proofs.Common.{sym}
use Rattle.std.proofs.lemmas.List.{length-map}
use Rattle.plain_queue.proofs.entries.count_of.Goals as goal

pub returns : goal.returns
returns c = sym (length-map c.args.lines.now (λ line. line.now))
