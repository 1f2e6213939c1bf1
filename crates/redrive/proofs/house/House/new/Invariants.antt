use Rattle.std.proofs.Common.{◌≡◌, take}
use Rattle.redrive.specs.House.{new_house}
use Rattle.redrive.proofs.house.House.new.Given as goal

abbrev pub invariant-loop-queue : goal.invariant-loop-queue
invariant-loop-queue l = l.house ≡ new_house (record { limits = l.config.limits; queues = take l.queue-index l.config.queues; alarms = l.config.alarms }) l.at
