-- A registry as the laws of dead letters see it, and what a step does to it: at most one journal gets one entry more.
use Rattle.std.proofs.Common.{◌≡◌, ℕ, Bool, true, false, List, [], Some, unwrap_or, refl, sym, subst, inl, inr}
use Rattle.std.specs.Prelude.{⊤}
use Rattle.std.specs.List.{Contains}
use Rattle.std.proofs.lemmas.Bool.{cases_eq}
use Rattle.message.specs.Content.{ContentText}
use Rattle.queue_config.specs.Settings.{QueueSettings}
use Rattle.journal.specs.declared.entry.Event.{Event}
use Rattle.journal.specs.declared.entry.Event.TheVariants.{Opened, Arrived, Received, Settled, Orphaned, Closed, Base}
use Rattle.journal.specs.declared.entry.Origin.{Origin}
use Rattle.queue_core.specs.declared.facts.Message.{Message}
use Rattle.queue_core.specs.declared.facts.Status.TheVariants.{Present}
use Rattle.queue_core.specs.Messages.{contains_number, message_id, pending_transfers, has_accepted}
use Rattle.queue_core.specs.States.{message_numbered}
use Rattle.queue_core.proofs.Scans.{StandsAlone}
use Rattle.redrive.specs.House.{has_queue}
use Rattle.redrive.specs.History.{AllQueues, journal_of}
use Rattle.redrive.specs.Places.{status_numbered}
use Rattle.redrive.proofs.transfers.Journals.{Line, Lines, more}

-- which uids are open, and the journal of each uid, which is empty where the uid was never used
pub record View : Type 0 where
  pub is_open : ℕ → Bool
  pub lines : ℕ → Lines

abbrev pub view_of : AllQueues → View
view_of all = record { is_open = λ u. has_queue all.house u; lines = λ u. unwrap_or (journal_of all u) [] }

-- the origin is that of a message of an open queue, which has left for the queue of a uid that has not accepted it
pub record IsArrival (v : View) (u : ℕ) (o : Origin) : Type 0 where
  pub there : v.is_open o.uid ≡ true
  pub message : Message
  pub numbered : message_numbered (v.lines o.uid) o.number ≡ Some message
  pub named : message_id o.uid message ≡ o.id
  pub pending : Contains (pending_transfers (v.lines o.uid)) (record { number = o.number; target = u })
  pub unaccepted : has_accepted (v.lines u) o.uid o.number ≡ false

-- the message of a number has left the queue of a uid for one that has accepted it
pub record IsSettling (v : View) (u n : ℕ) : Type 0 where
  pub target : ℕ
  pub pending : Contains (pending_transfers (v.lines u)) (record { number = n; target = target })
  pub accepted : has_accepted (v.lines target) u n ≡ true

-- the numbers are of messages that are present
abbrev pub ArePresent : Lines → List ℕ → Type 0
ArePresent lines numbers = (n : ℕ) → contains_number n numbers ≡ true → status_numbered lines n ≡ Some Present

-- what an entry says that comes to an open queue
abbrev pub IsStep : View → ℕ → Event ContentText → Type 0
IsStep v u (Opened uid settings) = ⊥
IsStep v u (Arrived origin content) = IsArrival v u origin
IsStep v u (Received timeout offered leaving target) = ArePresent (v.lines u) leaving
IsStep v u (Settled number) = IsSettling v u number
IsStep v u (Orphaned target) = v.is_open target ≡ false
IsStep v u Closed = ⊥
IsStep v u (Base base) = ⊥
IsStep v u event = ⊤

-- it is no checkpoint
pub step_alone : (v : View) (u : ℕ) (event : Event ContentText) → IsStep v u event → StandsAlone event
step_alone v u (Base base) step = absurd step
step_alone v u event step = refl

-- the journal of a uid gets an entry more
pub record Grows (v v' : View) (u : ℕ) (e : Line) : Type 0 where
  pub here : v'.lines u ≡ more (v.lines u) e
  pub others : (w : ℕ) → (w ≡ u → ⊥) → v'.lines w ≡ v.lines w

-- what is so of one uid, and of each other, is so
pub by_uid : (w u : ℕ) (P : ℕ → Type 0) → P u → ((w ≡ u → ⊥) → P w) → P w
by_uid w u P here others = elim (cases_eq w u) [ inl is ↦ subst P (sym is) here | inr differs ↦ others differs ]

-- what an entry more makes of its journal, where each other journal stays
pub by_growth : (v v' : View) (u : ℕ) (e : Line) → Grows v v' u e → (P : Lines → Lines → Type 0) → P (v.lines u) (more (v.lines u) e) → ((ls : Lines) → P ls ls) → (w : ℕ) → P (v.lines w) (v'.lines w)
by_growth v v' u e g P grown same w =
    by_uid w u (λ i. P (v.lines i) (v'.lines i)) (subst (P (v.lines u)) (sym g.here) grown) (λ differs. subst (P (v.lines w)) (sym (g.others w differs)) (same (v.lines w)))

pub record IsOpened (v v' : View) (u : ℕ) (e : Line) : Type 0 where
  pub unused : v.lines u ≡ []
  pub was_shut : v.is_open u ≡ false
  pub settings : QueueSettings
  pub opening : e.event ≡ Opened u settings
  pub others : (w : ℕ) → (w ≡ u → ⊥) → v'.is_open w ≡ v.is_open w

pub record IsClosed (v v' : View) (u : ℕ) (e : Line) : Type 0 where
  pub was_open : v.is_open u ≡ true
  pub is_closed : v'.is_open u ≡ false
  pub closing : e.event ≡ Closed
  pub others : (w : ℕ) → (w ≡ u → ⊥) → v'.is_open w ≡ v.is_open w

-- what is known of a uid that a step closes is said first
pub data Change (ending : ℕ → Type 0) (v v' : View) : Type 0 where
  Stays : ((w : ℕ) → v'.lines w ≡ v.lines w) → ((w : ℕ) → v'.is_open w ≡ v.is_open w) → Change ending v v'
  Steps : (u : ℕ) (e : Line) → Grows v v' u e → ((w : ℕ) → v'.is_open w ≡ v.is_open w) → v.is_open u ≡ true → IsStep v u e.event → Change ending v v'
  Opens : (u : ℕ) (e : Line) → Grows v v' u e → IsOpened v v' u e → Change ending v v'
  Closes : (u : ℕ) (e : Line) → Grows v v' u e → IsClosed v v' u e → ending u → Change ending v v'
