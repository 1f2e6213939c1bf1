-- The limits of a queue, one row each. The 120,000 messages are the Amazon SQS quota for standard queues; the rest is this project's own.
use Rattle.std.specs.Prelude.{ℕ, List, codes}

-- the key in a configuration, the range, and what the limit is where nothing is said
pub record LimitRow : Type 0 where
  pub key : List ℕ
  pub least : ℕ
  pub most : ℕ
  pub default : ℕ

-- how many entries a journal may have
abbrev pub max_lines_row : LimitRow
max_lines_row = record { key = codes "max_lines"; least = 1; most = 16777216; default = 1000000 }

-- how many messages of a queue may be in flight
abbrev pub in_flight_row : LimitRow
in_flight_row = record { key = codes "in_flight"; least = 1; most = 120000; default = 120000 }

pub record QueueLimits : Type 0 where
  pub max_lines : ℕ
  pub in_flight : ℕ

abbrev pub default_limits : QueueLimits
default_limits = record { max_lines = max_lines_row.default; in_flight = in_flight_row.default }
