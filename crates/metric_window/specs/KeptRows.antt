-- Rows that are kept: those of the last minutes that are over, oldest first, and what has happened so far in the one that is not (this project's own).
use Rattle.std.specs.Prelude.{◌≡◌, ℕ, ◌+◌, nat_lt, List, [], ◌∷◌, ◌++◌, length, Option, ◌==◌, if◌then◌else◌}
use Rattle.std.specs.List.{find}
pub use Rattle.circular_buffer.specs.Buffer.{keep_last}
use Rattle.metric_window.specs.declared.flows.Flows.{Flows}
use Rattle.metric_window.specs.declared.gauges.Gauges.{Gauges}
use Rattle.metric_window.specs.declared.row.Row.{Row}
use Rattle.metric_window.specs.Flows.{no_flows, greatest}
use Rattle.metric_window.specs.Window.{longest_window}

pub record KeptRows : Type 0 where
  pub rows : List Row
  pub minute : ℕ
  pub current : Flows

-- a minute in which nothing has happened, and no rows
abbrev pub opened_at : ℕ → KeptRows
opened_at minute = record { rows = []; minute = minute; current = no_flows }

-- the row of the minute that is not over, if this is what stands there at its end
abbrev pub current_row : KeptRows → Gauges → Row
current_row kept gauges = record { minute = kept.minute; flows = kept.current; gauges = gauges }

-- one minute on: its row is the last one, and no more are kept than may be shown. No minute follows the greatest number
abbrev pub with_closed : KeptRows → Gauges → KeptRows
with_closed kept gauges =
    if nat_lt kept.minute greatest
    then record {
      rows = keep_last longest_window (kept.rows ++ current_row kept gauges ∷ []);
      minute = kept.minute + 1;
      current = no_flows;
    }
    else kept

-- the row of a minute, where one of these is
abbrev pub row_in : List Row → ℕ → Option Row
row_in rows minute = find (λ row. row.minute == minute) rows

-- the minutes of the rows follow one another, and the last of them is the one before this
abbrev pub AreLast : ℕ → List Row → Type 0
AreLast end [] = Unit
AreLast end (row ∷ rows) = (row.minute + length (row ∷ rows) ≡ end) × AreLast end rows
