-- How much of a journal's limit its entries take.
use Rattle.std.specs.Prelude.{ℕ, ◌+◌, List, length, sum_by}
use Rattle.journal.specs.declared.entry.Entry.{Entry}
use Rattle.journal.specs.declared.entry.Event.{Event}
use Rattle.journal.specs.declared.entry.Event.TheVariants.{Base}

-- an entry weighs 1, and a checkpoint 1 more for each message that it keeps
abbrev pub event_weight : {C : Type 0} → Event C → ℕ
event_weight (Base base) = 1 + length base.messages
event_weight event = 1

abbrev pub weight_of : {C : Type 0} → List (Entry C) → ℕ
weight_of lines = sum_by (λ e. event_weight e.event) lines
