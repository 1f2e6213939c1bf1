-- The ranges of what commands carry (Amazon SQS API Reference: SendMessage, ReceiveMessage, ChangeMessageVisibility).
use Rattle.std.specs.Prelude.{ℕ, ◌≤◌, ◌&&◌, Option, Some, None, nat_le, if◌then◌else◌}

-- the greatest values, in seconds and in messages

abbrev pub longest_delay : ℕ
longest_delay = 900

abbrev pub longest_timeout : ℕ
longest_timeout = 43200

abbrev pub most_offers : ℕ
most_offers = 10

abbrev pub IsDelay : ℕ → Type 0
IsDelay seconds = seconds ≤ longest_delay

abbrev pub IsTimeout : ℕ → Type 0
IsTimeout seconds = seconds ≤ longest_timeout

abbrev pub IsMaximum : ℕ → Type 0
IsMaximum messages = (1 ≤ messages) × (messages ≤ most_offers)

-- the number, where it is from a least to a greatest
abbrev pub number_in : ℕ → ℕ → ℕ → Option ℕ
number_in least most n = if nat_le least n && nat_le n most then Some n else None

-- the delay of so many seconds
abbrev pub delay_of : ℕ → Option ℕ
delay_of seconds = number_in 0 longest_delay seconds

-- the visibility timeout of so many seconds
abbrev pub timeout_of : ℕ → Option ℕ
timeout_of seconds = number_in 0 longest_timeout seconds

-- so many messages at most
abbrev pub maximum_of : ℕ → Option ℕ
maximum_of messages = number_in 1 most_offers messages
