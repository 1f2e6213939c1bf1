use Rattle.std.proofs.Common.{◌≡◌, ◌+◌, ◌≤◌, min, drop}
use Rattle.std.specs.Prelude.{sum_by}
use Rattle.metric_window.specs.Flows.{greatest}
use Rattle.queue_core.specs.Messages.{receives_in, receive_count}
use Rattle.plain_queue.proofs.states.receive_count.Given as goal

abbrev pub invariant-loop-place : goal.invariant-loop-place
invariant-loop-place l = (min (l.count + sum_by (λ e. receives_in l.number e.event) (drop l.place l.lines)) greatest ≡ receive_count l.lines l.number) × (l.count ≤ greatest)
