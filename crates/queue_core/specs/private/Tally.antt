-- How many messages an event begins, and that a `Tally` is what a summary has.
use Rattle.std.specs.Prelude.{◌≡◌, ℕ, length}
use Rattle.journal.specs.declared.entry.Event.{Event}
use Rattle.queue_core.specs.declared.tally.Tally.{Tally}
use Rattle.queue_core.specs.Messages.{effect_of}
use Rattle.queue_core.specs.Summary.{Summary}

-- how many messages an event begins
abbrev pub births : {C : Type 0} → Event C → ℕ
births event = length (effect_of event).births

-- what is kept is what a summary has of it
pub record Tallies (t : Tally) (s : Summary) : Type 0 where
  pub settings : t.settings ≡ s.settings
  pub created : t.created ≡ s.created
  pub modified : t.modified ≡ s.modified
  pub closed : t.is_closed ≡ s.closed
  pub messages : t.messages ≡ length s.receives
