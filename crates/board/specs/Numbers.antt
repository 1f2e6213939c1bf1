-- The numbers of a printed turn, without its marks.
use Rattle.std.specs.Prelude.{ℕ, List, Option, None}
use Rattle.std.specs.Option.{option_map}
use Rattle.std.specs.List.{last_or}
use Rattle.alarm.specs.declared.state.AlarmState.{AlarmState}
use Rattle.metric_window.specs.declared.flows.Flows.{Flows}
use Rattle.metric_window.specs.declared.gauges.Gauges.{Gauges}
use Rattle.metric_window.specs.declared.row.Row.{Row}
use Rattle.desk.specs.Printed.{TurnReport}

pub record Figures : Type 0 where
  pub clock : ℕ
  pub lines : ℕ
  pub gauges : Gauges
  pub current : Flows
  pub rows : List Row
  pub states : List AlarmState  -- of the alarms, in the order of their rules

abbrev pub figures_of : TurnReport → Figures
figures_of t = record { clock = t.clock; lines = t.lines; gauges = t.gauges; current = t.current; rows = t.rows; states = t.alarms }

-- those of the last turn, if any was printed
abbrev pub last_figures : List TurnReport → Option Figures
last_figures turns = option_map figures_of (last_or None turns)
