-- Which answers an actor may give while it serves: those to asks that came and that were not answered yet.
use Rattle.std.specs.Prelude.{◌≡◌, ℕ, true, List, [], ◌∷◌, ◌++◌}
use Rattle.std.specs.List.{All}
use Rattle.queue_actor.specs.declared.mail.Ask.{Ask}
use Rattle.queue_actor.specs.declared.mail.Mail.{Mail}
use Rattle.queue_actor.specs.declared.mail.Mail.TheVariants as mails
use Rattle.queue_actor.specs.Answered.{Answered}
use Rattle.queue_actor.specs.Course.{MailboxEvent, GoesThrough}
use Rattle.queue_actor.specs.Serving.{IsAnswerAt, may_wait}

module _ {P S Told : Type 0} where
  -- asks without the one whose slot this is
  abbrev pub IsWithout : List (Ask P S Told) → S → List (Ask P S Told) → Type 0
  IsWithout asks slot others =
      (front back : List (Ask P S Told)) × (r : Ask P S Told) × (asks ≡ front ++ r ∷ back) × (slot ≡ r.reply) × (others ≡ front ++ back)

  -- the asks that wait once a mail has come
  abbrev pub waiting_with : List (Ask P S Told) → Mail P S Told → List (Ask P S Told)
  waiting_with asks (mails.Ask r) = asks ++ r ∷ []
  waiting_with asks (mails.Tick t) = asks
  waiting_with asks mails.End = asks

  -- the moment of the last mail once a mail has come
  abbrev pub moment_with : ℕ → Mail P S Told → ℕ
  moment_with last (mails.Ask r) = r.moment
  moment_with last (mails.Tick t) = t
  moment_with last mails.End = last

  -- the asks that wait, and the moment of the last mail, behind what happened at a mailbox: an ask that comes waits until an answer goes to its slot, or nobody is
  -- found to wait there; only one that may wait does so when the next mail comes
  abbrev pub WaitsBehind : List (Ask P S Told) → ℕ → List (MailboxEvent (Mail P S Told) S Answered) → List (Ask P S Told) → ℕ → Type 0
  WaitsBehind asks last [] left at = (left ≡ asks) × (at ≡ last)
  WaitsBehind asks last (MailboxEvent.Brought mail ∷ events) left at =
      All (λ r. may_wait r ≡ true) asks × WaitsBehind (waiting_with asks mail) (moment_with last mail) events left at
  WaitsBehind asks last (MailboxEvent.Over ∷ events) left at = WaitsBehind asks last events left at
  WaitsBehind asks last (MailboxEvent.Gave slot answer ∷ events) left at =
      (others : List (Ask P S Told)) × IsWithout asks slot others × WaitsBehind others last events left at
  WaitsBehind asks last (MailboxEvent.Left slot ∷ events) left at =
      (others : List (Ask P S Told)) × IsWithout asks slot others × WaitsBehind others last events left at

-- Where these asks wait and the last mail came at a moment: whatever happens at a mailbox where only asks that may wait are left when a mail comes, it takes then the answer to each
-- ask that waits then, made at the moment of the last mail, to the ask's own slot
abbrev pub TakesAnswers : {V P S Told : Type 0} (brings : V → Mail P S Told → V → Type 0) (is_over : V → V → Type 0)
    (may_give : V → S → Answered → Type 0) (gives : V → S → Answered → V → Type 0) (was_left : V → S → Type 0)
    → List (Ask P S Told) → ℕ → V → Type 0
TakesAnswers {V} {P} {S} {Told} brings is_over may_give gives was_left asks last now =
    (events : List (MailboxEvent (Mail P S Told) S Answered)) (then : V) (front back : List (Ask P S Told)) (at : ℕ) (r : Ask P S Told) (answer : Answered)
    → GoesThrough brings is_over gives was_left now events then → WaitsBehind asks last events (front ++ r ∷ back) at
    → IsAnswerAt at r answer → may_give then r.reply answer
