use Rattle.std.proofs.Common.{◌≡◌, ◌≤◌, map, take}
use Rattle.std.specs.List.{All}
use Rattle.metric_window.specs.Window.{longest_window}
use Rattle.alarm.specs.KeptAlarm.{new_alarm}
use Rattle.queue_core.proofs.watch.open_alarms.Given as goal

abbrev pub invariant-loop-rule : goal.invariant-loop-rule
invariant-loop-rule l = record {
  alarms : l.alarms.items ≡ map new_alarm (take l.rule-index l.rules);
  allowed : All (λ rule. rule.minutes ≤ longest_window) (take l.rule-index l.rules);
}
