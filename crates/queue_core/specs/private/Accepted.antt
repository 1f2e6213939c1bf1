-- The set of accepted transfers that is kept beside a journal.
use Rattle.std.specs.Prelude.{◌≡◌, ℕ, ◌&&◌, nat_eq, Bool, List}
use Rattle.indexmap.specs.IndexSet.{contains_by}
use Rattle.queue_core.specs.declared.accepted.Accepted.{Accepted}
use Rattle.journal.specs.declared.base.TransferKey.{TransferKey}

-- the transfer of the message of a number from the queue of a uid is among them
abbrev pub holds : Accepted → ℕ → ℕ → Bool
holds accepted uid number = contains_by (λ key. nat_eq uid key.uid && nat_eq number key.number) accepted.keys

-- these are kept, in their order
abbrev pub AreAccepted : Accepted → List TransferKey → Type 0
AreAccepted accepted keys = accepted.keys.keys ≡ keys
