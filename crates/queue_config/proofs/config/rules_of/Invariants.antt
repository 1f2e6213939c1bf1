use Rattle.std.proofs.Common.{◌≡◌, take}
use Rattle.queue_config.specs.Config.{rules_of}
use Rattle.queue_config.proofs.config.rules_of.Given as goal

abbrev pub invariant-loop-alarm : goal.invariant-loop-alarm
invariant-loop-alarm l = l.rules.items ≡ rules_of (take l.alarm-index l.alarms) l.uid
