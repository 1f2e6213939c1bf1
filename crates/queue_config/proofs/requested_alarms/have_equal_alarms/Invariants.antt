use Rattle.std.proofs.Common.{◌≡◌, drop}
use Rattle.queue_config.specs.AlarmText.{have_equal_alarms}
use Rattle.queue_config.proofs.requested_alarms.have_equal_alarms.Given as goal

abbrev pub invariant-loop-place : goal.invariant-loop-place
invariant-loop-place l = have_equal_alarms (drop l.place l.alarms) ≡ have_equal_alarms l.alarms
