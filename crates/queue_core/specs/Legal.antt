-- Which journals a queue can have.
use Rattle.std.specs.Prelude.{◌≡◌, ◌⊎◌, ℕ, false, ◌<◌, ◌≤◌, ◌^◌, List, [], ◌∷◌, ◌++◌, Some, IsTrue}
use Rattle.std.specs.Option.{ForSome}
use Rattle.message.specs.Content.{ContentText, is_content}
use Rattle.message.specs.Name.{is_queue_name}
use Rattle.queue_config.specs.Settings.{QueueSettings, AreSettings, settings_with}
use Rattle.journal.specs.declared.entry.Entry.{Entry}
use Rattle.journal.specs.declared.entry.Event.{Event}
use Rattle.journal.specs.declared.entry.Event.TheVariants.{Opened, Base}
use Rattle.queue_core.specs.declared.command.Command.{Command}
use Rattle.queue_core.specs.declared.command.Command.TheVariants.{Send, Receive, Change, Delete, Purge, Set, Close, Arrive, Settle, Orphan, Look, FirstParcel}
use Rattle.queue_core.specs.Messages.{settings_of, is_closed}
use Rattle.queue_core.specs.Rebase.{base_of}
use Rattle.queue_core.specs.Ranges.{IsDelay, IsTimeout, IsMaximum}
use Rattle.queue_core.specs.Queue.{QueueHistory, outcome_of}

-- moments never fall, from a moment on up to the clock
abbrev pub IsOrdered : ℕ → List (Entry ContentText) → ℕ → Type 0
IsOrdered from [] clock = from ≤ clock
IsOrdered from (e ∷ es) clock = (from ≤ e.at) × IsOrdered e.at es clock

-- a command that can be given: its content and the name that it comes with are allowed, its numbers are in range, and so are the settings that it gives the queue
abbrev pub IsAllowedIn : QueueHistory → Command → Type 0
IsAllowedIn q (Send content delay) = IsTrue (is_content content) × ForSome delay (λ seconds. IsDelay seconds)
IsAllowedIn q (Receive maximum timeout) = IsMaximum maximum × ForSome timeout (λ seconds. IsTimeout seconds)
IsAllowedIn q (Change handle timeout) = IsTimeout timeout
IsAllowedIn q (Delete handle) = Unit {0}
IsAllowedIn q Purge = Unit {0}
IsAllowedIn q (Set wish target) = AreSettings (settings_with (settings_of q.lines) wish target)
IsAllowedIn q (Arrive parcel) = IsTrue (is_content parcel.content) × (IsTrue (is_queue_name parcel.origin.name) × (parcel.origin.sent < 2 ^ 62))
IsAllowedIn q (Settle number) = Unit {0}
IsAllowedIn q (Orphan target) = Unit {0}
IsAllowedIn q Close = Unit {0}
IsAllowedIn q Look = Unit {0}
IsAllowedIn q FirstParcel = Unit {0}

-- an event that some such command adds to a queue, where no checkpoint comes before it
pub record IsCausedIn (q : QueueHistory) (event : Event ContentText) : Type 0 where
  pub command : Command
  pub allowed : IsAllowedIn q command
  pub added : (outcome_of q command).event ≡ Some event
  pub in_place : (outcome_of q command).rebases ≡ false

-- each entry is what some command added to the entries before it, at the entry's own moment
abbrev pub AreCaused : QueueHistory → List (Entry ContentText) → List (Entry ContentText) → Type 0
AreCaused q before [] = Unit {0}
AreCaused q before (e ∷ es) = IsCausedIn (record q { clock = e.at; lines = before }) e.event × AreCaused q (before ++ e ∷ []) es

-- a queue is opened with settings in range
pub record IsOpening (uid : ℕ) (event : Event ContentText) : Type 0 where
  pub settings : QueueSettings
  pub allowed : AreSettings settings
  pub opened : event ≡ Opened uid settings

-- a journal begins with the queue's opening, and each later entry comes of a command
abbrev pub BeginsAndFollows : QueueHistory → List (Entry ContentText) → Type 0
BeginsAndFollows q [] = ⊥
BeginsAndFollows q (e ∷ es) = IsOpening q.uid e.event × AreCaused q (e ∷ []) es

-- a journal that is whole, from the queue's opening on
pub record IsWhole (q : QueueHistory) : Type 0 where
  pub ordered : IsOrdered 0 q.lines q.clock
  pub caused : BeginsAndFollows q q.lines

-- an entry is the checkpoint of an open queue with a whole journal, of the same uid, name and in-flight limit, which had come to the entry's moment
pub record IsCheckpoint (uid : ℕ) (name : List ℕ) (in_flight : ℕ) (e : Entry ContentText) : Type 0 where
  pub whole : QueueHistory
  pub is_whole : IsWhole whole
  pub unclosed : is_closed whole.lines ≡ false
  pub same_uid : whole.uid ≡ uid
  pub same_name : whole.name ≡ name
  pub same_in_flight : whole.limits.in_flight ≡ in_flight
  pub clock : whole.clock ≡ e.at
  pub made : e.event ≡ Base (base_of whole.uid whole.lines whole.clock)

-- or it begins with one, and each later entry comes of a command
abbrev pub GoesOn : QueueHistory → List (Entry ContentText) → Type 0
GoesOn q [] = ⊥
GoesOn q (e ∷ es) = IsCheckpoint q.uid q.name q.limits.in_flight e × AreCaused q (e ∷ []) es

pub record IsLegal (q : QueueHistory) : Type 0 where
  pub ordered : IsOrdered 0 q.lines q.clock
  pub caused : BeginsAndFollows q q.lines ⊎ GoesOn q q.lines
