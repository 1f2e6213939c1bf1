-- What a mailbox in memory holds behind all that happened at it, where each step is known of its mails and its answers.
use Rattle.std.proofs.Common.{◌≡◌, Bool, true, Option, Some, None, IfNone, MatchOption, List, [], ◌∷◌, ◌++◌, sym, ◌∙◌, ap, append_assoc, append-nil, rules}
use Rattle.queue_actor.specs.Course.{MailboxEvent, brought_in, given_in, HasOver, GoesThrough}

-- what holds where there is none
pub where_none : {X A B : Type 0} (P : X → Type 0) (o : Option X) → MatchOption o A P → (A → B) → IfNone o B
where_none P None is then = then is
where_none P (Some x) is then = tt

nil_cons : {A : Type 0} {x : A} {xs : List A} → ◌≡◌ {A = List A} [] (x ∷ xs) → ⊥
nil_cons same = search (rules, same)

module _ {V M S T : Type 0} (mails_of : V → List M) (given_of : V → List (S × T)) (is_whole : V → Bool) where
  abbrev pub Brings : V → M → V → Type 0
  Brings before mail after = (mails_of before ≡ mail ∷ mails_of after) × (given_of after ≡ given_of before) × (is_whole after ≡ is_whole before)

  abbrev pub IsOver : V → V → Type 0
  IsOver before after =
      (mails_of before ≡ []) × (mails_of after ≡ mails_of before) × (given_of after ≡ given_of before) × (is_whole after ≡ is_whole before)

  abbrev pub Gives : V → S → T → V → Type 0
  Gives before slot answer after =
      (mails_of after ≡ mails_of before) × (is_whole after ≡ true → (is_whole before ≡ true) × (given_of after ≡ given_of before ++ (slot, answer) ∷ []))

  abbrev pub WasLeft : V → S → Type 0
  WasLeft now slot = Unit {0}

  -- the mails that came were the first ones, and the answers that were given are the last ones
  pub script_goes : (a b : V) (events : List (MailboxEvent M S T)) → GoesThrough Brings IsOver Gives WasLeft a events b → is_whole b ≡ true
      → (is_whole a ≡ true) × (mails_of a ≡ brought_in events ++ mails_of b) × (given_of b ≡ given_of a ++ given_in events)
  script_goes a b [] goes whole = (ap is_whole (sym goes) ∙ whole, ap mails_of (sym goes), ap given_of goes ∙ sym (append-nil (given_of a)))
  script_goes a b (MailboxEvent.Brought mail ∷ events) goes whole =
      let rest = script_goes goes.0 b events goes.2 whole in
      let step = goes.1 in (
        sym step.2 ∙ rest.0,
        step.0 ∙ ap (λ mails. mail ∷ mails) rest.1,
        rest.2 ∙ ap (λ given. given ++ given_in events) step.1,
      )
  script_goes a b (MailboxEvent.Over ∷ events) goes whole =
      let rest = script_goes goes.0 b events goes.2 whole in
      let step = goes.1 in (
        sym step.3 ∙ rest.0,
        sym step.1 ∙ rest.1,
        rest.2 ∙ ap (λ given. given ++ given_in events) step.2,
      )
  script_goes a b (MailboxEvent.Gave slot answer ∷ events) goes whole =
      let rest = script_goes goes.0 b events goes.2 whole in
      let step = goes.1 in
      let kept = step.1 rest.0 in (
        kept.0,
        sym step.0 ∙ rest.1,
        rest.2 ∙ ap (λ given. given ++ given_in events) kept.1 ∙ append_assoc (given_of a) ((slot, answer) ∷ []) (given_in events),
      )
  script_goes a b (MailboxEvent.Left slot ∷ events) goes whole = script_goes a b events goes.1 whole

  -- where no mail is left none comes any more
  empty_stays : (a b : V) (events : List (MailboxEvent M S T)) → GoesThrough Brings IsOver Gives WasLeft a events b → mails_of a ≡ [] → mails_of b ≡ []
  empty_stays a b [] goes empty = ap mails_of goes ∙ empty
  empty_stays a b (MailboxEvent.Brought mail ∷ events) goes empty = absurd (nil_cons (sym empty ∙ goes.1.0))
  empty_stays a b (MailboxEvent.Over ∷ events) goes empty = empty_stays goes.0 b events goes.2 (goes.1.1 ∙ empty)
  empty_stays a b (MailboxEvent.Gave slot answer ∷ events) goes empty = empty_stays goes.0 b events goes.2 (goes.1.0 ∙ empty)
  empty_stays a b (MailboxEvent.Left slot ∷ events) goes empty = empty_stays a b events goes.1 empty

  pub over_empty : (a b : V) (events : List (MailboxEvent M S T)) → GoesThrough Brings IsOver Gives WasLeft a events b → HasOver events → mails_of b ≡ []
  over_empty a b [] goes over = absurd over
  over_empty a b (MailboxEvent.Brought mail ∷ events) goes over = over_empty goes.0 b events goes.2 over
  over_empty a b (MailboxEvent.Over ∷ events) goes over = empty_stays goes.0 b events goes.2 (goes.1.1 ∙ goes.1.0)
  over_empty a b (MailboxEvent.Gave slot answer ∷ events) goes over = over_empty goes.0 b events goes.2 over
  over_empty a b (MailboxEvent.Left slot ∷ events) goes over = over_empty a b events goes.1 over
