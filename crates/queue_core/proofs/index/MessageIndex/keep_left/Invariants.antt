use Rattle.std.proofs.Common.{◌≡◌, ◌++◌, take}
use Rattle.std.specs.List.{filter_map}
use Rattle.queue_core.specs.private.Keeping.{kept_in}
use Rattle.queue_core.proofs.index.MessageIndex.keep_left.Given as goal

abbrev pub invariant-loop-place : goal.invariant-loop-place
invariant-loop-place l = record {
  so_far : l.kept.items ≡ l.initial.kept.items ++ filter_map (kept_in l.retention l.clock l.self) (take l.place l.self.leaving.items);
}
