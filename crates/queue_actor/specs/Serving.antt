-- What an actor does with its mail: which asks it answers at once, which polls wait, how long, and what each is answered.
use Rattle.std.specs.Prelude.{◌≡◌, ◌⊎◌, ℕ, Bool, true, false, MatchBool, Option, None, IfSome, Result, Ok, Err, List, [], ◌∷◌, ◌++◌, option_map}
use Rattle.message.specs.declared.fault.Fault.{Fault}
use Rattle.message.specs.declared.fault.Fault.TheVariants.{QueueDoesNotExist}
use Rattle.queue_config.specs.Settings.{requested_target}
use Rattle.queue_core.specs.declared.command.Command.{Command}
use Rattle.queue_core.specs.declared.command.Command.TheVariants as commands
use Rattle.queue_core.specs.declared.parcel.Parcel.{Parcel}
use Rattle.queue_core.specs.declared.reply.Reply.{Reply}
use Rattle.desk.specs.Views.{Pass}
use Rattle.queue_actor.specs.declared.mail.Ask.{Ask}
use Rattle.queue_actor.specs.declared.mail.Mail.{Mail}
use Rattle.queue_actor.specs.declared.mail.Mail.TheVariants as mails
use Rattle.queue_actor.specs.declared.parcels.Delivery.{Delivery}
use Rattle.queue_actor.specs.Answered.{Answered}
use Rattle.queue_actor.specs.Calling.{KeepsWaiting, LooksAtTick, HasMoved}
use Rattle.queue_actor.specs.Questions.{question_of, is_receive, has_time, AnswersAt}
use Rattle.queue_actor.specs.Course.{MailboxEvent, brought_in, given_in, HasOver}

-- whether a reply to a command says that its queue is closed, now or from before
abbrev pub has_closed : Command → Result Reply Fault → Bool
has_closed commands.Close (Ok reply) = true
has_closed commands.Close (Err QueueDoesNotExist) = true
has_closed _ _ = false

-- the target that an accepted command gives its queue, 0 for none, where it asks for one or clears it
abbrev pub new_target : Command → Result Reply Fault → Option ℕ
new_target (commands.Set wish target) (Ok reply) = option_map (λ _. target) (requested_target wish)
new_target _ _ = None

-- what is known of the directory behind an accepted command for the queue of a uid: that of a closed queue was taken out, and one that has another target has it there
abbrev pub Enters : (ℕ → Type 0) → (ℕ → ℕ → Type 0) → ℕ → Command → Result Reply Fault → Type 0
Enters taken_out retargeted uid command reply =
    MatchBool (has_closed command reply) (taken_out uid) (IfSome (new_target command reply) (λ target. retargeted uid target))

module _ {P S Told : Type 0} where
  -- whether a mail is a tick
  abbrev pub is_tick : Mail P S Told → Bool
  is_tick (mails.Ask r) = false
  is_tick (mails.Tick t) = true
  is_tick mails.End = false

  -- a receive that has time to wait when it comes
  abbrev pub may_wait : Ask P S Told → Bool
  may_wait r = has_time (question_of r)

  -- the answer to an ask that was asked at a moment: at its own desk, with its own pass and command
  abbrev pub IsAnswerAt : ℕ → Ask P S Told → Answered → Type 0
  IsAnswerAt at r answer = AnswersAt at (question_of r) answer

  -- an ask is answered at a moment
  abbrev pub IsAnsweredAt : ℕ → Ask P S Told → List (MailboxEvent (Mail P S Told) S Answered) → Type 0
  IsAnsweredAt at r happened = (answer : Answered) × IsAnswerAt at r answer × (happened ≡ MailboxEvent.Gave r.reply answer ∷ [])

  -- the same, or it is found that nobody waits for its answer any more: then nothing is asked
  abbrev pub IsServedAt : ℕ → Ask P S Told → List (MailboxEvent (Mail P S Told) S Answered) → Type 0
  IsServedAt at r happened = (happened ≡ MailboxEvent.Left r.reply ∷ []) ⊎ IsAnsweredAt at r happened

  -- the same of polls that wait, at the end, in order
  abbrev pub AreServedAt : ℕ → List (Ask P S Told) → List (MailboxEvent (Mail P S Told) S Answered) → Type 0
  AreServedAt at [] happened = happened ≡ []
  AreServedAt at (r ∷ rs) happened =
      (first rest : List (MailboxEvent (Mail P S Told) S Answered)) × IsServedAt at r first × (happened ≡ first ++ rest) × AreServedAt at rs rest

  -- A poll that waits is looked at, at a moment, and it is told whether it goes on waiting: it does not where nobody waits for its answer any more, and where it is asked
  abbrev pub LooksAt : ℕ → ℕ → Bool → Pass → Ask P S Told → List (MailboxEvent (Mail P S Told) S Answered) → Bool → Pass → Type 0
  LooksAt limit at quiet before r happened true after = (happened ≡ []) × KeepsWaiting limit at quiet r.wait_until true before after
  LooksAt limit at quiet before r happened false after =
      ((happened ≡ MailboxEvent.Left r.reply ∷ []) × (after ≡ before))
      ⊎ (KeepsWaiting limit at quiet r.wait_until false before after × IsAnsweredAt at r happened)

  -- one that goes on waiting, before others
  abbrev pub with_kept : Bool → Ask P S Told → List (Ask P S Told) → List (Ask P S Told)
  with_kept true r others = r ∷ others
  with_kept false r others = others

  -- the polls that wait are looked at one after another at a moment, in the order in which they came
  abbrev pub LooksOver : ℕ → ℕ → Bool → Pass → List (Ask P S Told) → List (MailboxEvent (Mail P S Told) S Answered) → Pass → List (Ask P S Told) → Type 0
  LooksOver limit at quiet before [] happened after left = (happened ≡ []) × (after ≡ before) × (left ≡ [])
  LooksOver limit at quiet before (r ∷ rs) happened after left =
      (kept : Bool) × (first rest : List (MailboxEvent (Mail P S Told) S Answered)) × (between : Pass) × (others : List (Ask P S Told))
      × LooksAt limit at quiet before r first kept between × (happened ≡ first ++ rest) × (left ≡ with_kept kept r others)
      × LooksOver limit at kept between rs rest after others

  -- an ask that comes is kept behind the polls that wait, where it may wait and there is room for it, or is answered at its moment; a receive only where somebody waits for its answer
  abbrev pub Admits : Ask P S Told → List (Ask P S Told) → List (MailboxEvent (Mail P S Told) S Answered) → List (Ask P S Told) → Type 0
  Admits r parked happened left =
      ((may_wait r ≡ true) × (happened ≡ []) × (left ≡ parked ++ r ∷ []))
      ⊎ ((left ≡ parked) × MatchBool (is_receive r.command) (IsServedAt r.moment r happened) (IsAnsweredAt r.moment r happened))

-- what is known of the directory once a queue was taken out of it, and once one was given another target
module _ {P S Told : Type 0} (taken_out : ℕ → Type 0) (retargeted : ℕ → ℕ → Type 0) where
  -- whether the actor of the queue of a uid ends behind what happened to an ask that came, and what is known of the directory then
  abbrev pub Leads : ℕ → List (MailboxEvent (Mail P S Told) S Answered) → Bool → Type 0
  Leads uid (MailboxEvent.Gave slot answer ∷ []) ends =
      (ends ≡ has_closed answer.command answer.reply) × Enters taken_out retargeted uid answer.command answer.reply
  Leads uid happened ends = ends ≡ false

  -- A mail is taken in: an ask waits or is answered. The moment of the last mail is this one's, where it has one; and it is told whether the actor ends
  abbrev pub TakesIn : ℕ → Mail P S Told → ℕ → List (Ask P S Told) → List (MailboxEvent (Mail P S Told) S Answered) → List (Ask P S Told) → ℕ → Bool → Type 0
  TakesIn uid (mails.Ask r) last parked happened left at ends = (at ≡ r.moment) × Admits r parked happened left × Leads uid happened ends
  TakesIn uid (mails.Tick t) last parked happened left at ends = (at ≡ t) × (happened ≡ []) × (left ≡ parked) × (ends ≡ false)
  TakesIn uid mails.End last parked happened left at ends = (at ≡ last) × (happened ≡ []) × (left ≡ parked) × (ends ≡ true)

-- what deliveries of dead letters tell
module _ {P S Told T : Type 0} (told : ℕ → Parcel → Delivery T → Type 0) (taken_out : ℕ → Type 0) (retargeted : ℕ → ℕ → Type 0) where
  -- what the actor does at the moment of each mail: at a tick it looks at its queue; then it looks over the polls that wait, and moves its parcels
  abbrev pub Goes : ℕ → ℕ → Bool → Pass → List (Ask P S Told) → List (MailboxEvent (Mail P S Told) S Answered) → Pass → List (Ask P S Told) → Type 0
  Goes limit at is_tick before parked happened after left =
      (quiet : Bool) × (looked between : Pass) × LooksAtTick limit at is_tick quiet before looked
      × LooksOver limit at quiet looked parked happened between left × HasMoved told at between after

  -- at the end each poll that waits is asked, at the moment of the last mail
  abbrev pub Ends : ℕ → Pass → List (Ask P S Told) → List (MailboxEvent (Mail P S Told) S Answered) → Pass → Type 0
  Ends last before parked happened after = AreServedAt last parked happened × HasMoved told last before after

  -- What the actor of the queue of a uid does with mails that come one after another, where these polls wait and the last mail came at a moment: all that happens at
  -- its mailbox, in order. It ends where no mail will come any more, at the mail that says so, and behind a Close that was accepted.
  abbrev pub Serves : ℕ → ℕ → Pass → List (Ask P S Told) → ℕ → List (Mail P S Told) → List (MailboxEvent (Mail P S Told) S Answered) → Pass → Type 0
  Serves uid limit before parked last [] events after =
      (happened : List (MailboxEvent (Mail P S Told) S Answered)) × (events ≡ MailboxEvent.Over ∷ happened) × Ends last before parked happened after
  Serves uid limit before parked last (m ∷ ms) events after =
      (first rest : List (MailboxEvent (Mail P S Told) S Answered)) × (wait : List (Ask P S Told)) × (at : ℕ) × (ends : Bool)
      × TakesIn taken_out retargeted uid m last parked first wait at ends × (events ≡ MailboxEvent.Brought m ∷ (first ++ rest))
      × MatchBool ends ((ms ≡ []) × Ends at before wait rest after)
      ((second more : List (MailboxEvent (Mail P S Told) S Answered)) × (between : Pass) × (left : List (Ask P S Told))
      × Goes limit at (is_tick m) before wait second between left × (rest ≡ second ++ more) × Serves uid limit between left at ms more after)

  -- mails that came one after another from the front of these, until the actor ended, which it does where none is left, and all the answers that were given: those of a mailbox in memory
  abbrev pub AllServed : ℕ → ℕ → Pass → List (Mail P S Told) → List (S × Answered) → Pass → Type 0
  AllServed uid limit before all given after =
      (served left : List (Mail P S Told)) × (events : List (MailboxEvent (Mail P S Told) S Answered)) × Serves uid limit before [] 0 served events after
      × (all ≡ brought_in events ++ left) × (given ≡ given_in events) × (HasOver events → left ≡ [])
