use Rattle.std.proofs.Common.{◌≡◌, drop}
use Rattle.serde_json.specs.View.{items_view}
use Rattle.aws_json.specs.Entries.{entries_of}
use Rattle.aws_json.proofs.EntryLemmas.{after_entries}
use Rattle.aws_json.proofs.entries.entries_of.Given as goal

abbrev pub invariant-loop-item : goal.invariant-loop-item
invariant-loop-item l = after_entries l.entries (entries_of l.kind (items_view (drop l.item-index l.items))) ≡ entries_of l.kind (items_view l.items)
