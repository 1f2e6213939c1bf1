use Rattle.std.proofs.Common.{◌≡◌, ◌++◌}
use Rattle.std.specs.List.{filter_map, range_with_len}
use Rattle.queue_core.specs.private.Keeping.{present_in}
use Rattle.queue_core.proofs.index.MessageIndex.keep_present.Given as goal

abbrev pub invariant-loop-place : goal.invariant-loop-place
invariant-loop-place l = record {
  so_far : l.kept.items ≡ l.initial.kept.items ++ filter_map (present_in l.retention l.clock l.self) (range_with_len 0 l.place);
}
