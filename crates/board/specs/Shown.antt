-- What a reader is shown.
use Rattle.std.specs.Prelude.{ℕ, List, map, unwrap_or}
use Rattle.std.specs.Option.{option_map}
use Rattle.std.specs.List.{zip}
use Rattle.alarm.specs.declared.state.AlarmState.{AlarmState}
use Rattle.logbook.specs.Pages.{Book}
use Rattle.desk.specs.Printed.{TurnReport}
use Rattle.board.specs.Sheet.{Sheet}
use Rattle.board.specs.Numbers.{Figures, last_figures}

-- the alarms' names, each beside its state, in order, as far as both go
abbrev pub with_states : List (List ℕ × AlarmState) → List AlarmState → List (List ℕ × AlarmState)
with_states alarms states = zip (map (λ alarm. alarm.0) alarms) states

-- a sheet with other numbers: its name and its alarms' names stay
abbrev pub with_figures : Sheet → Figures → Sheet
with_figures given f = record {
  name = given.name;
  lines = f.lines;
  clock = f.clock;
  gauges = f.gauges;
  current = f.current;
  rows = f.rows;
  alarms = with_states given.alarms f.states;
}

-- the sheet after these turns: the numbers are those of the last one, and while none was printed the sheet is the one that was given
abbrev pub sheet_after : Sheet → List TurnReport → Sheet
sheet_after given turns = unwrap_or (option_map (λ f. with_figures given f) (last_figures turns)) given

-- what a reader knows: the sheet that the board began with, the book of the board, and the turns that this reader has seen or learnt of
pub record Reader : Type 0 where
  pub given : Sheet
  pub book : Book
  pub turns : List TurnReport
