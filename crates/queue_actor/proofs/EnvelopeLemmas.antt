-- What comes through a channel takes the answer to each ask that came: its slot was made for it.
use Rattle.std.proofs.Common.{◌≡◌, ℕ, true, false, List, [], ◌∷◌, ◌++◌, refl, sym, ◌∙◌, subst}
use Rattle.std.specs.List.{All}
use Rattle.std.proofs.lemmas.List.Elements.{All-cons, All-head, All-nil, All-push, All-same, All-tail}
use Rattle.queue_actor.specs.declared.mail.Ask.{Ask}
use Rattle.queue_actor.specs.declared.mail.Mail.{Mail}
use Rattle.queue_actor.specs.declared.mail.Mail.TheVariants as mails
use Rattle.queue_actor.specs.Answered.{Answered}
use Rattle.queue_actor.specs.Questions.{Awaited, HasOwnSlot, IsMailedAnswer, question_of}
use Rattle.queue_actor.specs.Course.{MailboxEvent, GoesThrough}
use Rattle.queue_actor.specs.Serving.{may_wait}
use Rattle.queue_actor.specs.Waiting.{IsWithout, WaitsBehind, TakesAnswers, waiting_with, moment_with}

module _ {P Told : Type 0} where
  -- the slot of an ask was made for its question, and the last mail came at its moment, unless it may wait
  abbrev IsOwnNow : ℕ → Ask P Awaited Told → Type 0
  IsOwnNow last r = (r.reply.asked ≡ question_of r) × (may_wait r ≡ false → last ≡ r.moment)

  own_of : (last : ℕ) (front back : List (Ask P Awaited Told)) (r : Ask P Awaited Told) → All (IsOwnNow last) (front ++ r ∷ back) → IsOwnNow last r
  own_of last [] back r own = All-head (IsOwnNow last) r back own
  own_of last (x ∷ xs) back r own = own_of last xs back r (All-tail (IsOwnNow last) x (xs ++ r ∷ back) own)

  own_without : (last : ℕ) (front back : List (Ask P Awaited Told)) (r : Ask P Awaited Told) → All (IsOwnNow last) (front ++ r ∷ back) → All (IsOwnNow last) (front ++ back)
  own_without last [] back r own = All-tail (IsOwnNow last) r back own
  own_without last (x ∷ xs) back r own =
      All-cons (IsOwnNow last) x (xs ++ back) (All-head (IsOwnNow last) x (xs ++ r ∷ back) own) (own_without last xs back r (All-tail (IsOwnNow last) x (xs ++ r ∷ back) own))

  -- one that may wait does so at any moment
  later_one : (last at : ℕ) (r : Ask P Awaited Told) → may_wait r ≡ true → IsOwnNow last r → IsOwnNow at r
  later_one last at r may own = (own.0, λ not. absurd (cc (may, not)))

  later : (last at : ℕ) (asks : List (Ask P Awaited Told)) → All (λ r. may_wait r ≡ true) asks → All (IsOwnNow last) asks → All (IsOwnNow at) asks
  later last at [] may own = All-nil (IsOwnNow at)
  later last at (r ∷ rs) may own =
      All-cons (IsOwnNow at) r rs (later_one last at r (All-head (λ r. may_wait r ≡ true) r rs may) (All-head (IsOwnNow last) r rs own))
      (later last at rs (All-tail (λ r. may_wait r ≡ true) r rs may) (All-tail (IsOwnNow last) r rs own))

  own_with : (asks : List (Ask P Awaited Told)) (last : ℕ) (mail : Mail P Awaited Told) → HasOwnSlot mail → All (λ r. may_wait r ≡ true) asks → All (IsOwnNow last) asks
      → All (IsOwnNow (moment_with last mail)) (waiting_with asks mail)
  own_with asks last (mails.Ask r) addressed may own = All-push (IsOwnNow r.moment) asks r (later last r.moment asks may own) (addressed, λ not. refl)
  own_with asks last (mails.Tick t) addressed may own = later last t asks may own
  own_with asks last mails.End addressed may own = own

  taken_out : (last : ℕ) (asks others : List (Ask P Awaited Told)) (slot : Awaited) → IsWithout asks slot others → All (IsOwnNow last) asks → All (IsOwnNow last) others
  taken_out last asks others slot one own =
      All-same (IsOwnNow last) others (one.0 ++ one.1) one.5 (own_without last one.0 one.1 one.2 (All-same (IsOwnNow last) (one.0 ++ one.2 ∷ one.1) asks (sym one.3) own))

module _ {V : Type 0} where
  abbrev IsOver : V → V → Type 0
  IsOver before after = Unit {0}

  abbrev Takes : V → Awaited → Answered → Type 0
  Takes now slot answer = IsMailedAnswer slot.asked answer

  abbrev Gives : V → Awaited → Answered → V → Type 0
  Gives before slot answer after = Unit {0}

  abbrev WasLeft : V → Awaited → Type 0
  WasLeft now slot = Unit {0}

module _ {V P Told : Type 0} where
  abbrev Brings : V → Mail P Awaited Told → V → Type 0
  Brings before mail after = HasOwnSlot mail

  -- whatever happens, who waits has a slot of its own
  waiting_own : (asks : List (Ask P Awaited Told)) (last : ℕ) (events : List (MailboxEvent (Mail P Awaited Told) Awaited Answered)) (left : List (Ask P Awaited Told)) (at : ℕ) (before after : V)
      → All (IsOwnNow last) asks → GoesThrough Brings IsOver Gives WasLeft before events after → WaitsBehind asks last events left at → All (IsOwnNow at) left
  waiting_own asks last [] left at before after own goes waits =
      subst (λ t. All (IsOwnNow t) left) (sym waits.1) (All-same (IsOwnNow last) left asks waits.0 own)
  waiting_own asks last (MailboxEvent.Brought mail ∷ events) left at before after own goes waits =
      waiting_own (waiting_with asks mail) (moment_with last mail) events left at goes.0 after (own_with asks last mail goes.1 waits.0 own) goes.2 waits.1
  waiting_own asks last (MailboxEvent.Over ∷ events) left at before after own goes waits =
      waiting_own asks last events left at goes.0 after own goes.2 waits
  waiting_own asks last (MailboxEvent.Gave slot answer ∷ events) left at before after own goes waits =
      waiting_own waits.0 last events left at goes.0 after (taken_out last asks waits.0 slot waits.1 own) goes.2 waits.2
  waiting_own asks last (MailboxEvent.Left slot ∷ events) left at before after own goes waits =
      waiting_own waits.0 last events left at before after (taken_out last asks waits.0 slot waits.1 own) goes.1 waits.2

  pub envelopes_take : (now : V) → TakesAnswers {V = V} {P = P} {S = Awaited} {Told = Told} Brings IsOver Takes Gives WasLeft [] 0 now
  envelopes_take now events then front back at r answer goes waits is =
      let own = own_of at front back r (waiting_own [] 0 events (front ++ r ∷ back) at now then (All-nil (IsOwnNow 0)) goes waits) in
      subst (λ asked. IsMailedAnswer asked answer) (sym own.0) (at, own.1, is)
