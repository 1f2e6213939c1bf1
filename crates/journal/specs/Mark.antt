-- Entries without their contents: a mark is an entry with the size of its message's content. What stands for a content is a parameter, and a function tells its size in bytes.
use Rattle.std.specs.Prelude.{ℕ}
use Rattle.journal.specs.Base.{mark_base}
use Rattle.journal.specs.declared.entry.Entry.{Entry}
use Rattle.journal.specs.declared.entry.Event.{Event}
use Rattle.journal.specs.declared.entry.Event.TheVariants.{Opened, Sent, Arrived, Received, Changed, Deleted, DeletedAgain, Purged, Set, Settled, Orphaned, Refused, Closed, Base}

-- the same event, with the size in the place of a content
abbrev pub mark_event : {C : Type 0} → (C → ℕ) → Event C → Event ℕ
mark_event size (Opened uid settings) = Opened uid settings
mark_event size (Sent delay content) = Sent delay (size content)
mark_event size (Arrived origin content) = Arrived origin (size content)
mark_event size (Received timeout offered leaving target) = Received timeout offered leaving target
mark_event size (Changed number timeout) = Changed number timeout
mark_event size (Deleted number) = Deleted number
mark_event size DeletedAgain = DeletedAgain
mark_event size Purged = Purged
mark_event size (Set settings) = Set settings
mark_event size (Settled number) = Settled number
mark_event size (Orphaned target) = Orphaned target
mark_event size (Refused fault) = Refused fault
mark_event size Closed = Closed
mark_event size (Base base) = Base (mark_base size base)

-- the mark of an entry: the same time, and the same event but for the content
abbrev pub mark_of : {C : Type 0} → (C → ℕ) → Entry C → Entry ℕ
mark_of size e = record { at = e.at; event = mark_event size e.event }
