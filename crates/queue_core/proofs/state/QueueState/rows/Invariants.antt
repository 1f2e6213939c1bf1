use Rattle.std.proofs.Common.{◌≡◌, ◌-◌, ◌≤◌}
use Rattle.message.specs.Content.{content_size}
use Rattle.metric_window.specs.Window.{window_end}
use Rattle.queue_core.proofs.minutes.RowLemmas.{first_minute, rows_until}
use Rattle.queue_core.proofs.state.QueueState.rows.Given as goal

abbrev pub invariant-loop-minute : goal.invariant-loop-minute
invariant-loop-minute l = record {
  from : first_minute content_size l.self.lines l.self.clock ≤ l.minute;
  within : l.minute - first_minute content_size l.self.lines l.self.clock ≤ window_end l.self.clock - first_minute content_size l.self.lines l.self.clock;
  rows : l.rows.items ≡ rows_until content_size l.self.lines l.self.clock l.minute;
}
