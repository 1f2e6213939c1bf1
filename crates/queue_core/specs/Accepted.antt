-- The transfers that a queue has accepted, by its journal.
use Rattle.std.specs.Prelude.{List, flat_map}
use Rattle.journal.specs.declared.entry.Entry.{Entry}
use Rattle.queue_core.specs.Messages.{effect_of}
use Rattle.journal.specs.declared.base.TransferKey.{TransferKey}

-- the transfers that a queue has accepted, in the order in which it accepted them
abbrev pub accepted_keys : {C : Type 0} → List (Entry C) → List TransferKey
accepted_keys lines = flat_map (λ e. (effect_of e.event).accepted) lines
