use Rattle.std.proofs.Common.{◌≡◌, drop}
use Rattle.serde_json.specs.View.{items_view}
use Rattle.aws_json.specs.Entries.{are_entries}
use Rattle.aws_json.proofs.entries.are_entries.Given as goal

abbrev pub invariant-loop-item : goal.invariant-loop-item
invariant-loop-item l = are_entries l.kind (items_view (drop l.item-index l.items)) ≡ are_entries l.kind (items_view l.items)
