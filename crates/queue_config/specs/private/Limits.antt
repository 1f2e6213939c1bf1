-- The ranges of the limits.
use Rattle.std.specs.Prelude.{ℕ, ◌≤◌}
use Rattle.queue_config.specs.Limits.{max_lines_row, in_flight_row}

pub record AreLimits (max_lines in_flight : ℕ) : Type 0 where
  pub least_lines : max_lines_row.least ≤ max_lines
  pub most_lines : max_lines ≤ max_lines_row.most
  pub least_in_flight : in_flight_row.least ≤ in_flight
  pub most_in_flight : in_flight ≤ in_flight_row.most
