-- The statistics of a queue, as contracts see them.
use Rattle.std.specs.Prelude.{ℕ, List}
use Rattle.alarm.specs.declared.state.AlarmState.{AlarmState}
use Rattle.metric_window.specs.declared.flows.Flows.{Flows}
use Rattle.metric_window.specs.declared.gauges.Gauges.{Gauges}
use Rattle.metric_window.specs.declared.row.Row.{Row}

pub record Sheet : Type 0 where
  pub name : List ℕ  -- the queue's
  pub lines : ℕ  -- how much its journal weighs: 1 for each entry, and for a checkpoint 1 more for each message that it keeps
  pub clock : ℕ  -- the time in milliseconds that all this speaks of
  pub gauges : Gauges  -- what stands in the queue at that time
  pub current : Flows  -- what has happened so far in that time's minute
  pub rows : List Row  -- oldest first
  pub alarms : List (List ℕ × AlarmState)  -- each by its name, in the order of the configuration
