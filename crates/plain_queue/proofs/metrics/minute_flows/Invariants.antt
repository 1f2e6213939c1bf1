use Rattle.std.proofs.Common.{◌≡◌, take}
use Rattle.message.specs.Content.{content_size}
use Rattle.metric_window.specs.Flows.{minute_flows}
use Rattle.plain_queue.proofs.metrics.minute_flows.Given as goal

abbrev pub invariant-loop-place : goal.invariant-loop-place
invariant-loop-place l = l.flows ≡ minute_flows content_size (take l.place l.lines) l.minute
