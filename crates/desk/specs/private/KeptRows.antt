-- The rows of a queue's window, kept while one minute lasts.
use Rattle.std.specs.Prelude.{◌≡◌, ℕ, ◌≤◌, List}
use Rattle.message.specs.Content.{content_size}
use Rattle.metric_window.specs.declared.row.Row.{Row}
use Rattle.metric_window.specs.Window.{window_end}
use Rattle.queue_core.specs.Metrics.{window_rows}
use Rattle.queue_core.specs.Queue.{QueueHistory}

-- rows, and the minute in which they are shown
pub record RowsOfMinute : Type 0 where
  pub minute : ℕ
  pub rows : List Row

-- the minute is not a later one than the clock's, and as long as it lasts the rows are the queue's
pub record AreRowsOf (k : RowsOfMinute) (q : QueueHistory) : Type 0 where
  pub not_later : k.minute ≤ window_end q.clock
  pub rows : k.minute ≡ window_end q.clock → k.rows ≡ window_rows content_size q.lines q.clock
