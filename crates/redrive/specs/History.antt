-- Everything that a registry ever had: the queues that are there, and those that were deleted. The program keeps only the former.
use Rattle.std.specs.Prelude.{◌≡◌, ℕ, ◌<◌, ◌==◌, nat_eq, max, Bool, true, false, List, [], ◌∷◌, ◌++◌, map, Option}
use Rattle.std.specs.List.{find, IsDistinct, All}
use Rattle.std.specs.Option.{option_map, option_map_or, option_or}
use Rattle.message.specs.Content.{ContentText}
use Rattle.journal.specs.declared.entry.Entry.{Entry}
use Rattle.journal.specs.declared.entry.Event.TheVariants.{Closed}
use Rattle.queue_core.specs.Messages.{is_closed, has_accepted}
use Rattle.queue_core.specs.Queue.{QueueHistory}
use Rattle.redrive.specs.House.{House, queue_of_uid}

-- the latest deletion stands first
pub record AllQueues : Type 0 where
  pub house : House
  pub deleted : List QueueHistory

-- the queue of a uid, which is there or was deleted
abbrev pub queue_ever : AllQueues → ℕ → Option QueueHistory
queue_ever all uid = option_or (queue_of_uid all.house uid) (find (λ q. q.uid == uid) all.deleted)

-- the journal of a uid
abbrev pub journal_of : AllQueues → ℕ → Option (List (Entry ContentText))
journal_of all uid = option_map (λ q. q.lines) (queue_ever all uid)

-- whether the queue of a uid, which is there or was deleted, has accepted the transfer of a number from the queue of another uid
abbrev pub was_accepted : AllQueues → ℕ → ℕ → ℕ → Bool
was_accepted all uid source number = option_map_or (λ lines. has_accepted lines source number) (journal_of all uid) false

-- the journal of a queue that is deleted at a moment, or later where its clock is later: its own entries, and the one that closes it
abbrev pub closed_journal : QueueHistory → ℕ → List (Entry ContentText)
closed_journal q at = q.lines ++ record { at = max q.clock at; event = Closed } ∷ []

-- no uid was ever used twice, and every deleted queue was closed
pub record IsWholeHistory (all : AllQueues) : Type 0 where
  pub uids : IsDistinct nat_eq (map (λ q. q.uid) (all.deleted ++ all.house.queues))
  pub used : All (λ q. q.uid < all.house.next_uid) all.deleted
  pub closed : All (λ q. is_closed q.lines ≡ true) all.deleted
