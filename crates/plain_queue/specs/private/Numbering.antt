-- Where one stands who goes over the messages of entries, line by line.
use Rattle.std.specs.Prelude.{◌≡◌, ℕ, ◌+◌, ◌≤◌, List, length, take, slice_get}
use Rattle.std.specs.Option.{option_map_or}
use Rattle.message.specs.Content.{ContentText}
use Rattle.journal.specs.declared.entry.Entry.{Entry}
use Rattle.queue_core.specs.Messages.{message_count}
use Rattle.queue_core.specs.private.Tally.{births}

-- how many messages begin with the entry at a place, 0 where there is none
abbrev pub births_at : List (Entry ContentText) → ℕ → ℕ
births_at lines place = option_map_or (λ e. births e.event) (slice_get lines place) 0

-- the next message is behind those of the entries before a place and so many of the entry there
pub record IsAt (lines : List (Entry ContentText)) (place number before : ℕ) : Type 0 where
  pub within : place ≤ length lines
  pub numbered : number ≡ message_count (take place lines) + before
  pub begun : before ≤ births_at lines place
