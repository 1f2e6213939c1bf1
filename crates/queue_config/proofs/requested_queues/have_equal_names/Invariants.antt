use Rattle.std.proofs.Common.{◌≡◌, drop}
use Rattle.queue_config.specs.ConfigText.{have_equal_names}
use Rattle.queue_config.proofs.requested_queues.have_equal_names.Given as goal

abbrev pub invariant-loop-place : goal.invariant-loop-place
invariant-loop-place l = have_equal_names (drop l.place l.queues) ≡ have_equal_names l.queues
