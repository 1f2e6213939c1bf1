use Rattle.std.proofs.Common.{sym}
use Rattle.aws_json.proofs.EntryLemmas.{item_count-items_view}
use Rattle.aws_json.proofs.entries.item_count.Goals as goal

pub returns : goal.returns
returns c = sym (item_count-items_view c.args.items.now)
