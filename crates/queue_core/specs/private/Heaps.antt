-- What the indices of due times, first sends and visible messages hold, by the journal. The definitions are this project's own.
use Rattle.std.specs.Prelude.{ℕ, ◌&&◌, not, if◌then◌else◌, List, map, Option, Some, None}
use Rattle.std.specs.Option.{option_map_or}
use Rattle.message.specs.Content.{ContentText}
use Rattle.journal.specs.declared.entry.Entry.{Entry}
use Rattle.queue_core.specs.declared.facts.MessageState.TheVariants.{Visible}
use Rattle.queue_core.specs.Messages.{due_time}
use Rattle.queue_core.specs.States.{is_live, is_in_state, receive_order, message_numbered}

-- when the message of a number is due, where it is live and not visible yet
abbrev pub next_time : List (Entry ContentText) → ℕ → ℕ → Option ℕ
next_time lines clock n =
    option_map_or (λ m. if is_live lines clock m && not (is_in_state Visible lines clock m) then Some (due_time lines m) else None) (message_numbered lines n) None

-- when it was first sent, where it is live
abbrev pub sent_time : List (Entry ContentText) → ℕ → ℕ → Option ℕ
sent_time lines clock n = option_map_or (λ m. if is_live lines clock m then Some m.first_send_time else None) (message_numbered lines n) None

-- the due time and the number of each visible message, in the order in which they are received
abbrev pub visible_pairs : List (Entry ContentText) → ℕ → List (ℕ × ℕ)
visible_pairs lines clock = map (λ c. (c.due, c.message.number)) (receive_order lines clock)
