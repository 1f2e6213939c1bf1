use Rattle.std.proofs.Common.{◌≡◌, take}
use Rattle.redrive.specs.Catalog.{names_with}
use Rattle.redrive.proofs.catalog.Catalog.names_with.Given as goal

abbrev pub invariant-loop-queue : goal.invariant-loop-queue
invariant-loop-queue l = l.names.items ≡ names_with (record l.self { queues = take l.queue-index l.queue-items }) l.prefix
