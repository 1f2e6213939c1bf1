-- When the waits of polls are over.
use Rattle.std.specs.Prelude.{ℕ, ◌<◌, ◌≤◌, nat_lt, List, if◌then◌else◌}
use Rattle.std.specs.List.{All, fold}
use Rattle.queue_actor.specs.declared.mail.Ask.{Ask}
use Rattle.queue_actor.specs.declared.mail.Mail.{Mail}
use Rattle.queue_actor.specs.declared.mail.Mail.TheVariants as mails
use Rattle.queue_actor.specs.Serving.{may_wait}

-- the earlier of two times
abbrev pub earlier : ℕ → ℕ → ℕ
earlier time other = if nat_lt other time then other else time

module _ {P S Told : Type 0} where
  -- at a moment the wait of none of the asks is over
  abbrev pub WaitBeyond : ℕ → List (Ask P S Told) → Type 0
  WaitBeyond at asks = All (λ r. at < r.wait_until) asks

  -- none of their waits ends before a time
  abbrev pub EndFrom : ℕ → List (Ask P S Told) → Type 0
  EndFrom soonest asks = All (λ r. soonest ≤ r.wait_until) asks

  -- the earliest end of their waits, or the given time where none ends before it
  abbrev pub earliest : ℕ → List (Ask P S Told) → ℕ
  earliest time asks = fold (λ soonest r. earlier soonest r.wait_until) time asks

  -- a time before which no wait ends, once a mail has come: an ask waits only if it may
  abbrev pub end_with : Mail P S Told → ℕ → ℕ
  end_with (mails.Ask r) soonest = if may_wait r then earlier soonest r.wait_until else soonest
  end_with (mails.Tick t) soonest = soonest
  end_with mails.End soonest = soonest
