-- What happens at the mailbox of an actor, one thing after another, and the answers among it.
use Rattle.std.specs.Prelude.{◌≡◌, List, [], ◌∷◌}

-- a mail comes; it is found that no mail will come any more; an answer is given to a slot; it is found that nobody waits at a slot any more
pub data MailboxEvent (M S T : Type 0) : Type 0 where
  Brought : M → MailboxEvent M S T
  Over : MailboxEvent M S T
  Gave : S → T → MailboxEvent M S T
  Left : S → MailboxEvent M S T

module _ {M S T : Type 0} where
  -- the mails that came
  abbrev pub brought_in : List (MailboxEvent M S T) → List M
  brought_in [] = []
  brought_in (MailboxEvent.Brought mail ∷ events) = mail ∷ brought_in events
  brought_in (MailboxEvent.Over ∷ events) = brought_in events
  brought_in (MailboxEvent.Gave slot answer ∷ events) = brought_in events
  brought_in (MailboxEvent.Left slot ∷ events) = brought_in events

  -- the answers that were given
  abbrev pub given_in : List (MailboxEvent M S T) → List (S × T)
  given_in [] = []
  given_in (MailboxEvent.Brought mail ∷ events) = given_in events
  given_in (MailboxEvent.Over ∷ events) = given_in events
  given_in (MailboxEvent.Gave slot answer ∷ events) = (slot, answer) ∷ given_in events
  given_in (MailboxEvent.Left slot ∷ events) = given_in events

-- it was found that no mail will come any more
abbrev pub HasOver : {M S T : Type 0} → List (MailboxEvent M S T) → Type 0
HasOver [] = ⊥
HasOver (MailboxEvent.Brought mail ∷ events) = HasOver events
HasOver (MailboxEvent.Over ∷ events) = Unit {0}
HasOver (MailboxEvent.Gave slot answer ∷ events) = HasOver events
HasOver (MailboxEvent.Left slot ∷ events) = HasOver events

-- a mailbox goes through events, each of which is one step of it; one that is looked at stays as it is
module _ {V M S T : Type 0} (brings : V → M → V → Type 0) (is_over : V → V → Type 0) (gives : V → S → T → V → Type 0) (was_left : V → S → Type 0) where
  abbrev pub GoesThrough : V → List (MailboxEvent M S T) → V → Type 0
  GoesThrough before [] after = after ≡ before
  GoesThrough before (MailboxEvent.Brought mail ∷ events) after = (between : V) × brings before mail between × GoesThrough between events after
  GoesThrough before (MailboxEvent.Over ∷ events) after = (between : V) × is_over before between × GoesThrough between events after
  GoesThrough before (MailboxEvent.Gave slot answer ∷ events) after = (between : V) × gives before slot answer between × GoesThrough between events after
  GoesThrough before (MailboxEvent.Left slot ∷ events) after = was_left before slot × GoesThrough before events after
