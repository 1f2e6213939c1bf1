-- The minutes that rows are shown of: those that are over, at most so many, and none before the queue was there (this project's own choice).
use Rattle.std.specs.Prelude.{ℕ, ◌-◌, ◌&&◌, max, nat_le, nat_lt, Bool}
use Rattle.metric_window.specs.Flows.{minute_of}

-- the most rows at a time: three hours
abbrev pub longest_window : ℕ
longest_window = 180

-- the minute that is not over
abbrev pub window_end : ℕ → ℕ
window_end clock = minute_of clock

-- the first minute: that of the creation, or a later one where more are over than may be shown
abbrev pub window_start : ℕ → ℕ → ℕ
window_start created clock = max (minute_of created) (minute_of clock - longest_window)

abbrev pub is_in_window : ℕ → ℕ → ℕ → Bool
is_in_window created clock minute = nat_le (window_start created clock) minute && nat_lt minute (window_end clock)
