use Rattle.std.proofs.Common.{◌≡◌, ℕ, ◌≤◌, List}
use Rattle.metric_window.specs.declared.row.Row.{Row}
use Rattle.queue_core.specs.Messages.{settings_of}
use Rattle.queue_core.specs.Queue.{QueueHistory}
use Rattle.queue_core.specs.Legal.{IsLegal}
use Rattle.queue_core.specs.private.Records.{HasIndices}
use Rattle.queue_core.specs.private.Watched.{IsPassing}
use Rattle.queue_core.specs.private.Spending.{Costs}
use Rattle.queue_core.proofs.passing.go_on.Given as goal

abbrev pub invariant-loop : goal.invariant-loop
invariant-loop l = record {
  indices : HasIndices l.index;
  minute : l.watch.window.minute ≡ l.counter;
  within : l.counter ≤ l.end;
  passing : (q : QueueHistory) (first : ℕ) (before : List Row) → IsLegal q → l.retention ≡ (settings_of q.lines).retention_seconds
      → IsPassing q first before l.fn.index l.fn.watch → IsPassing q first before l.index l.watch;
  cost : Costs 0 0 l.fn.ticks l.fn.index l.ticks l.index;
}
