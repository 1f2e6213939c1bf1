-- The earliest end of the waits of polls, as polls come and are looked at.
use Rattle.std.proofs.Common.{◌≡◌, ℕ, ◌<◌, ◌≤◌, Bool, true, false, cond, List, [], ◌∷◌, ◌++◌, refl, subst, sym, inl, inr, arith}
use Rattle.std.specs.Prelude.{nat_lt}
use Rattle.std.specs.List.{All}
use Rattle.std.proofs.lemmas.Bool.{ltb-false, ltb-true}
use Rattle.std.proofs.lemmas.List.Elements.{All-cons, All-head, All-nil, All-push, All-same, All-tail, All-weaker}
use Rattle.desk.specs.Views.{Pass}
use Rattle.queue_actor.specs.declared.mail.Ask.{Ask}
use Rattle.queue_actor.specs.declared.mail.Mail.{Mail}
use Rattle.queue_actor.specs.declared.mail.Mail.TheVariants as mails
use Rattle.queue_actor.specs.Answered.{Answered}
use Rattle.queue_actor.specs.Course.{MailboxEvent}
use Rattle.queue_actor.specs.Serving.{may_wait, with_kept, LooksOver, Admits, TakesIn}
use Rattle.queue_actor.specs.private.Ending.{EndFrom, WaitBeyond, earlier, earliest, end_with}

earlier_by : (time other : ℕ) (b : Bool) → nat_lt other time ≡ b → (cond b other time ≤ time) × (cond b other time ≤ other)
earlier_by time other true is = let less = ltb-true other time is in (omega (arith, less), omega arith)
earlier_by time other false is = let less = ltb-false other time is in (omega arith, omega (arith, less))

-- it is before both
pub earlier_parts : (time other : ℕ) → (earlier time other ≤ time) × (earlier time other ≤ other)
earlier_parts time other = earlier_by time other (nat_lt other time) refl

with_parts : (soonest end : ℕ) (b : Bool) → (cond b (earlier soonest end) soonest ≤ soonest) × (b ≡ true → cond b (earlier soonest end) soonest ≤ end)
with_parts soonest end true = let p = earlier_parts soonest end in (p.0, λ _. p.1)
with_parts soonest end false = (omega arith, λ e. absurd cc)

module _ {P S Told : Type 0} where
  earliest_before : (time : ℕ) (asks : List (Ask P S Told)) → earliest time asks ≤ time
  earliest_before time [] = omega arith
  earliest_before time (r ∷ rs) =
      let first = (earlier_parts time r.wait_until).0 in
      let rest = earliest_before (earlier time r.wait_until) rs in
      omega (arith, first, rest)

  -- none of the waits ends before the earliest end
  pub earliest_ends : (time : ℕ) (asks : List (Ask P S Told)) → EndFrom (earliest time asks) asks
  earliest_ends time [] = All-nil (λ (x : Ask P S Told). time ≤ x.wait_until)
  earliest_ends time (r ∷ rs) =
      let first = (earlier_parts time r.wait_until).1 in
      let rest = earliest_before (earlier time r.wait_until) rs in
      All-cons (λ (x : Ask P S Told). earliest (earlier time r.wait_until) rs ≤ x.wait_until) r rs (omega (arith, first, rest)) (earliest_ends (earlier time r.wait_until) rs)

  -- where none waits, at any time
  pub none_ends : (soonest : ℕ) (asks : List (Ask P S Told)) → asks ≡ [] → EndFrom soonest asks
  none_ends soonest asks none = All-same (λ (x : Ask P S Told). soonest ≤ x.wait_until) asks [] none (All-nil (λ (x : Ask P S Told). soonest ≤ x.wait_until))

  -- waits that end from a time on end from any earlier one on
  ends_weaker : (soonest next : ℕ) (asks : List (Ask P S Told)) → next ≤ soonest → EndFrom soonest asks → EndFrom next asks
  ends_weaker soonest next asks less h =
      All-weaker (λ (r : Ask P S Told). soonest ≤ r.wait_until) (λ (r : Ask P S Told). next ≤ r.wait_until) (λ r end. omega (arith, less, end)) asks h

  -- before that time none is over
  pub ends_beyond : (soonest at : ℕ) (asks : List (Ask P S Told)) → at < soonest → EndFrom soonest asks → WaitBeyond at asks
  ends_beyond soonest at asks less h =
      All-weaker (λ (r : Ask P S Told). soonest ≤ r.wait_until) (λ (r : Ask P S Told). at < r.wait_until) (λ r end. omega (arith, less, end)) asks h

  kept_all : (Q : Ask P S Told → Type 0) (kept : Bool) (r : Ask P S Told) (others : List (Ask P S Told)) → Q r → All Q others → All Q (with_kept kept r others)
  kept_all Q true r others first h = All-cons Q r others first h
  kept_all Q false r others first h = h

  -- what holds of all polls holds of those that go on waiting behind a look
  pub looked_all : (Q : Ask P S Told → Type 0) (limit at : ℕ) (quiet : Bool) (before after : Pass) (parked left : List (Ask P S Told)) (happened : List (MailboxEvent (Mail P S Told) S Answered))
      → LooksOver limit at quiet before parked happened after left → All Q parked → All Q left
  looked_all Q limit at quiet before after [] left happened looks h = All-same Q left [] looks.2 h
  looked_all Q limit at quiet before after (r ∷ rs) left happened looks h =
      All-same Q left (with_kept looks.0 r looks.4) looks.7
      (kept_all Q looks.0 r looks.4 (All-head Q r rs h) (looked_all Q limit at looks.0 looks.3 after rs looks.4 looks.2 looks.8 (All-tail Q r rs h)))

  -- so those that go on waiting behind a look end no sooner
  pub looked_ends : (soonest limit at : ℕ) (quiet : Bool) (before after : Pass) (parked left : List (Ask P S Told)) (happened : List (MailboxEvent (Mail P S Told) S Answered))
      → LooksOver limit at quiet before parked happened after left → EndFrom soonest parked → EndFrom soonest left
  looked_ends soonest limit at quiet before after parked left happened looks h = looked_all (λ r. soonest ≤ r.wait_until) limit at quiet before after parked left happened looks h

  admitted_may : (r : Ask P S Told) (parked left : List (Ask P S Told)) (happened : List (MailboxEvent (Mail P S Told) S Answered))
      → Admits r parked happened left → All (λ r. may_wait r ≡ true) parked → All (λ r. may_wait r ≡ true) left
  admitted_may r parked left happened (inl waits) h =
      All-same (λ (x : Ask P S Told). may_wait x ≡ true) left (parked ++ r ∷ []) waits.2 (All-push (λ (x : Ask P S Told). may_wait x ≡ true) parked r h waits.0)
  admitted_may r parked left happened (inr answered) h = All-same (λ (x : Ask P S Told). may_wait x ≡ true) left parked answered.0 h

  -- whoever waits once a mail was taken in may wait
  pub taken_may : (taken_out : ℕ → Type 0) (retargeted : ℕ → ℕ → Type 0) (uid : ℕ) (mail : Mail P S Told) (last : ℕ) (parked : List (Ask P S Told))
      (happened : List (MailboxEvent (Mail P S Told) S Answered)) (left : List (Ask P S Told)) (at : ℕ) (ends : Bool)
      → TakesIn taken_out retargeted uid mail last parked happened left at ends → All (λ r. may_wait r ≡ true) parked → All (λ r. may_wait r ≡ true) left
  taken_may taken_out retargeted uid (mails.Ask r) last parked happened left at ends takes h = admitted_may r parked left happened takes.1 h
  taken_may taken_out retargeted uid (mails.Tick t) last parked happened left at ends takes h = All-same (λ (x : Ask P S Told). may_wait x ≡ true) left parked takes.2 h
  taken_may taken_out retargeted uid mails.End last parked happened left at ends takes h = All-same (λ (x : Ask P S Told). may_wait x ≡ true) left parked takes.2 h

  -- the time that counts once an ask has come is no later, and where the ask may wait no later than its end
  asked_parts : (soonest next : ℕ) (r : Ask P S Told) → next ≡ end_with (mails.Ask r) soonest → (next ≤ soonest) × (may_wait r ≡ true → next ≤ r.wait_until)
  asked_parts soonest next r is =
      subst (λ n. (n ≤ soonest) × (may_wait r ≡ true → n ≤ r.wait_until)) (sym is) (with_parts soonest r.wait_until (may_wait r))

  -- an ask that comes ends no sooner where it waits
  admitted_ends : (soonest next : ℕ) (r : Ask P S Told) (parked left : List (Ask P S Told)) (happened : List (MailboxEvent (Mail P S Told) S Answered))
      → next ≡ end_with (mails.Ask r) soonest → Admits r parked happened left → EndFrom soonest parked → EndFrom next left
  admitted_ends soonest next r parked left happened is (inl waits) h =
      let parts = asked_parts soonest next r is in
      All-same (λ (x : Ask P S Told). next ≤ x.wait_until) left (parked ++ r ∷ []) waits.2
      (All-push (λ (x : Ask P S Told). next ≤ x.wait_until) parked r (ends_weaker soonest next parked parts.0 h) (parts.1 waits.0))
  admitted_ends soonest next r parked left happened is (inr answered) h =
      All-same (λ (x : Ask P S Told). next ≤ x.wait_until) left parked answered.0 (ends_weaker soonest next parked (asked_parts soonest next r is).0 h)

  -- those that wait once a mail was taken in
  pub taken_ends : (taken_out : ℕ → Type 0) (retargeted : ℕ → ℕ → Type 0) (uid : ℕ) (mail : Mail P S Told) (last : ℕ) (parked : List (Ask P S Told))
      (happened : List (MailboxEvent (Mail P S Told) S Answered)) (left : List (Ask P S Told)) (at : ℕ) (ends : Bool) (soonest next : ℕ)
      → next ≡ end_with mail soonest → TakesIn taken_out retargeted uid mail last parked happened left at ends → EndFrom soonest parked → EndFrom next left
  taken_ends taken_out retargeted uid (mails.Ask r) last parked happened left at ends soonest next is takes h =
      admitted_ends soonest next r parked left happened is takes.1 h
  taken_ends taken_out retargeted uid (mails.Tick t) last parked happened left at ends soonest next is takes h =
      All-same (λ (x : Ask P S Told). next ≤ x.wait_until) left parked takes.2 (subst (λ n. EndFrom n parked) (sym is) h)
  taken_ends taken_out retargeted uid mails.End last parked happened left at ends soonest next is takes h =
      All-same (λ (x : Ask P S Told). next ≤ x.wait_until) left parked takes.2 (subst (λ n. EndFrom n parked) (sym is) h)
