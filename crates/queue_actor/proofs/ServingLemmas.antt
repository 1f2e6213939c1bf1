-- How what an actor has done so far goes on, one step more at a time.
use Rattle.std.proofs.Common.{◌≡◌, ℕ, ◌+◌, ◌<◌, Bool, true, false, MatchBool, List, [], ◌∷◌, ◌++◌, length, refl, sym, ◌∙◌, ap, subst, inl, inr, append_assoc, append-nil, length-append, arith}
use Rattle.std.specs.Prelude.{nat_lt}
use Rattle.std.specs.List.{All}
use Rattle.std.proofs.lemmas.Bool.Decides.{nat_tests}
use Rattle.std.proofs.lemmas.List.Elements.{All-head, All-tail}
use Rattle.queue_core.specs.declared.parcel.Parcel.{Parcel}
use Rattle.desk.specs.Views.{Pass}
use Rattle.queue_actor.specs.declared.mail.Ask.{Ask}
use Rattle.queue_actor.specs.Answered.{Answered}
use Rattle.queue_actor.specs.declared.parcels.Delivery.{Delivery}
use Rattle.queue_actor.specs.Course.{MailboxEvent, GoesThrough}
use Rattle.queue_actor.specs.declared.mail.Mail.{Mail}
use Rattle.queue_actor.specs.Questions.{is_receive}
use Rattle.queue_actor.specs.Serving.{is_tick, may_wait, IsAnswerAt, IsAnsweredAt, IsServedAt, AreServedAt, LooksAt, with_kept, LooksOver, Admits, TakesIn, Goes, Ends, Serves}
use Rattle.queue_actor.specs.Waiting.{WaitsBehind, TakesAnswers, waiting_with, moment_with}
use Rattle.queue_actor.specs.private.Ending.{WaitBeyond}

-- equal lists have equal heads and equal tails
head_of_or : {A : Type 0} → A → List A → A
head_of_or a [] = a
head_of_or a (x ∷ xs) = x

tail_of : {A : Type 0} → List A → List A
tail_of [] = []
tail_of (x ∷ xs) = xs

pub head_same : {A : Type 0} {x y : A} {xs ys : List A} → x ∷ xs ≡ y ∷ ys → x ≡ y
unfolding head_of_or
head_same {A} {x} same = ap (head_of_or x) same

pub tail_same : {A : Type 0} {x y : A} {xs ys : List A} → x ∷ xs ≡ y ∷ ys → xs ≡ ys
unfolding tail_of
tail_same same = ap tail_of same

pub nothing_left : {A : Type 0} (xs : List A) → length xs ≡ 0 → xs ≡ []
nothing_left [] none = refl
nothing_left (x ∷ xs) none = absurd (omega (arith, none))

-- ---- who waits, behind one thing and then another

module _ {P S Told : Type 0} where
  pub waits_both : (asks : List (Ask P S Told)) (last : ℕ) (xs ys : List (MailboxEvent (Mail P S Told) S Answered)) (mid left : List (Ask P S Told)) (between at : ℕ)
      → WaitsBehind asks last xs mid between → WaitsBehind mid between ys left at → WaitsBehind asks last (xs ++ ys) left at
  waits_both asks last [] ys mid left between at first second =
      subst (λ a. WaitsBehind a last ys left at) first.0 (subst (λ t. WaitsBehind mid t ys left at) first.1 second)
  waits_both asks last (MailboxEvent.Brought mail ∷ xs) ys mid left between at first second =
      (first.0, waits_both (waiting_with asks mail) (moment_with last mail) xs ys mid left between at first.1 second)
  waits_both asks last (MailboxEvent.Over ∷ xs) ys mid left between at first second = waits_both asks last xs ys mid left between at first second
  waits_both asks last (MailboxEvent.Gave slot answer ∷ xs) ys mid left between at first second =
      (first.0, first.1, waits_both first.0 last xs ys mid left between at first.2 second)
  waits_both asks last (MailboxEvent.Left slot ∷ xs) ys mid left between at first second =
      (first.0, first.1, waits_both first.0 last xs ys mid left between at first.2 second)

  -- who was served waits no longer
  pub served_waits : (at last : ℕ) (r : Ask P S Told) (front back : List (Ask P S Told)) (happened : List (MailboxEvent (Mail P S Told) S Answered))
      → IsServedAt at r happened → WaitsBehind (front ++ r ∷ back) last happened (front ++ back) last
  served_waits at last r front back happened (inl left) =
      subst (λ es. WaitsBehind (front ++ r ∷ back) last es (front ++ back) last) (sym left)
      (front ++ back, (front, back, r, refl, refl, refl), (refl, refl))
  served_waits at last r front back happened (inr answered) =
      subst (λ es. WaitsBehind (front ++ r ∷ back) last es (front ++ back) last) (sym answered.2)
      (front ++ back, (front, back, r, refl, refl, refl), (refl, refl))

  -- one that goes on waiting, behind others
  abbrev pub with_last : List (Ask P S Told) → Bool → Ask P S Told → List (Ask P S Told)
  with_last others true r = others ++ r ∷ []
  with_last others false r = others

  with_last_before : (others : List (Ask P S Told)) (kept : Bool) (r : Ask P S Told) (left : List (Ask P S Told)) → with_last others kept r ++ left ≡ others ++ with_kept kept r left
  with_last_before others true r left = append_assoc others (r ∷ []) left
  with_last_before others false r left = refl

  with_last_behind : (others kept : List (Ask P S Told)) (is_kept : Bool) (r : Ask P S Told) → with_last (others ++ kept) is_kept r ≡ others ++ with_last kept is_kept r
  with_last_behind others kept true r = append_assoc others kept (r ∷ [])
  with_last_behind others kept false r = refl

  -- a poll that was looked at waits where it goes on waiting
  pub looked_waits : (limit at last : ℕ) (quiet kept : Bool) (before after : Pass) (r : Ask P S Told) (front back : List (Ask P S Told)) (happened : List (MailboxEvent (Mail P S Told) S Answered))
      → LooksAt limit at quiet before r happened kept after → WaitsBehind (front ++ r ∷ back) last happened (front ++ with_kept kept r back) last
  looked_waits limit at last quiet true before after r front back happened looks =
      subst (λ es. WaitsBehind (front ++ r ∷ back) last es (front ++ r ∷ back) last) (sym looks.0) (refl, refl)
  looked_waits limit at last quiet false before after r front back happened (inl left) = served_waits at last r front back happened (inl left.0)
  looked_waits limit at last quiet false before after r front back happened (inr answered) = served_waits at last r front back happened (inr answered.1)

module _ {V P S Told : Type 0} (brings : V → Mail P S Told → V → Type 0) (is_over : V → V → Type 0) (gives : V → S → Answered → V → Type 0) (was_left : V → S → Type 0) where
  pub through_both : (a b c : V) (xs ys : List (MailboxEvent (Mail P S Told) S Answered)) → GoesThrough brings is_over gives was_left a xs b → GoesThrough brings is_over gives was_left b ys c
      → GoesThrough brings is_over gives was_left a (xs ++ ys) c
  through_both a b c [] ys first second = subst (λ v. GoesThrough brings is_over gives was_left v ys c) first second
  through_both a b c (MailboxEvent.Brought mail ∷ xs) ys first second = (first.0, first.1, through_both first.0 b c xs ys first.2 second)
  through_both a b c (MailboxEvent.Over ∷ xs) ys first second = (first.0, first.1, through_both first.0 b c xs ys first.2 second)
  through_both a b c (MailboxEvent.Gave slot answer ∷ xs) ys first second = (first.0, first.1, through_both first.0 b c xs ys first.2 second)
  through_both a b c (MailboxEvent.Left slot ∷ xs) ys first second = (first.0, through_both a b c xs ys first.1 second)

module _ {V P S Told : Type 0} (brings : V → Mail P S Told → V → Type 0) (is_over : V → V → Type 0)
    (may_give : V → S → Answered → Type 0) (gives : V → S → Answered → V → Type 0) (was_left : V → S → Type 0) where
  -- ---- a mailbox takes answers

  -- what it takes behind something it takes
  pub takes_behind : (asks left : List (Ask P S Told)) (last at : ℕ) (a b : V) (happened : List (MailboxEvent (Mail P S Told) S Answered))
      → TakesAnswers brings is_over may_give gives was_left asks last a → GoesThrough brings is_over gives was_left a happened b
      → WaitsBehind asks last happened left at → TakesAnswers brings is_over may_give gives was_left left at b
  takes_behind asks left last at a b happened takes goes waits events then front back time r answer more later is =
      takes (happened ++ events) then front back time r answer (through_both brings is_over gives was_left a b then happened events goes more)
      (waits_both asks last happened events left (front ++ r ∷ back) at time waits later) is

  -- at once it takes the answer to each that waits
  pub takes_now : (asks front back : List (Ask P S Told)) (at : ℕ) (now : V) (r : Ask P S Told)
      → TakesAnswers brings is_over may_give gives was_left asks at now → asks ≡ front ++ r ∷ back
      → (answer : Answered) → IsAnswerAt at r answer → may_give now r.reply answer
  takes_now asks front back at now r takes same answer is = takes [] now front back at r answer refl (sym same, refl) is

  -- a mail comes, where who waits may wait
  pub takes_brought : (asks : List (Ask P S Told)) (last : ℕ) (a b : V) (mail : Mail P S Told)
      → All (λ r. may_wait r ≡ true) asks → TakesAnswers brings is_over may_give gives was_left asks last a → brings a mail b
      → TakesAnswers brings is_over may_give gives was_left (waiting_with asks mail) (moment_with last mail) b
  takes_brought asks last a b mail may takes brought =
      takes_behind asks (waiting_with asks mail) last (moment_with last mail) a b (MailboxEvent.Brought mail ∷ []) takes (b, brought, refl) (may, (refl, refl))

  -- no mail will come any more
  pub takes_over : (asks : List (Ask P S Told)) (last : ℕ) (a b : V)
      → TakesAnswers brings is_over may_give gives was_left asks last a → is_over a b → TakesAnswers brings is_over may_give gives was_left asks last b
  takes_over asks last a b takes over = takes_behind asks asks last last a b (MailboxEvent.Over ∷ []) takes (b, over, refl) (refl, refl)

  -- an ask was served
  pub takes_served : (at last : ℕ) (a b : V) (r : Ask P S Told) (front back : List (Ask P S Told)) (happened : List (MailboxEvent (Mail P S Told) S Answered))
      → TakesAnswers brings is_over may_give gives was_left (front ++ r ∷ back) last a → IsServedAt at r happened → GoesThrough brings is_over gives was_left a happened b
      → TakesAnswers brings is_over may_give gives was_left (front ++ back) last b
  takes_served at last a b r front back happened takes is goes =
      takes_behind (front ++ r ∷ back) (front ++ back) last last a b happened takes goes (served_waits at last r front back happened is)

  -- ---- the end of polls that wait

  -- of the polls that waited some are left to be served, and the others were
  pub record Answering (at : ℕ) (parked : List (Ask P S Told)) (mailbox : V) (left : List (Ask P S Told)) (now : V) : Type 0 where
    pub happened : List (MailboxEvent (Mail P S Told) S Answered)
    pub goes : GoesThrough brings is_over gives was_left mailbox happened now
    pub waits : WaitsBehind parked at happened left at
    pub so_far : (more : List (MailboxEvent (Mail P S Told) S Answered)) → AreServedAt at left more → AreServedAt at parked (happened ++ more)

  pub answering_begins : (at : ℕ) (parked : List (Ask P S Told)) (mailbox : V) → Answering at parked mailbox parked mailbox
  answering_begins at parked mailbox = record { happened = []; goes = refl; waits = (refl, refl); so_far = λ more h. h }

  pub answering_goes : (at : ℕ) (parked : List (Ask P S Told)) (mailbox : V) (r : Ask P S Told) (left : List (Ask P S Told)) (now next : V) (first : List (MailboxEvent (Mail P S Told) S Answered))
      → Answering at parked mailbox (r ∷ left) now → IsServedAt at r first → GoesThrough brings is_over gives was_left now first next
      → Answering at parked mailbox left next
  answering_goes at parked mailbox r left now next first h is goes = record {
    happened = h.happened ++ first;
    goes = through_both brings is_over gives was_left mailbox now next h.happened first h.goes goes;
    waits = waits_both parked at h.happened first (r ∷ left) left at at h.waits (served_waits at at r [] left first is);
    so_far = λ more m. subst (λ es. AreServedAt at parked es) (sym (append_assoc h.happened first more)) (h.so_far (first ++ more) (first, more, is, refl, m));
  }

  pub answering_ends : (at : ℕ) (parked : List (Ask P S Told)) (mailbox now : V) → Answering at parked mailbox [] now
      → (happened : List (MailboxEvent (Mail P S Told) S Answered)) × AreServedAt at parked happened × GoesThrough brings is_over gives was_left mailbox happened now
  answering_ends at parked mailbox now h =
      (h.happened ++ [], h.so_far [] refl, subst (λ es. GoesThrough brings is_over gives was_left mailbox es now) (sym (append-nil h.happened)) h.goes)

  -- ---- looking over polls that wait

  -- of the polls that waited some are still to be looked at, and the others wait behind them, were answered, or were dropped
  pub record Looking (limit at : ℕ) (known : Bool) (before : Pass) (parked : List (Ask P S Told)) (mailbox : V)
      (quiet : Bool) (pass : Pass) (polls : List (Ask P S Told)) (now : V) (turns : ℕ) : Type 0 where
    pub rest : List (Ask P S Told)
    pub kept : List (Ask P S Told)
    pub happened : List (MailboxEvent (Mail P S Told) S Answered)
    pub parts : polls ≡ rest ++ kept
    pub count : length rest ≡ turns
    pub goes : GoesThrough brings is_over gives was_left mailbox happened now
    pub waits : WaitsBehind parked at happened (kept ++ rest) at
    pub so_far : (more : List (MailboxEvent (Mail P S Told) S Answered)) (after : Pass) (left : List (Ask P S Told))
        → LooksOver limit at quiet pass rest more after left → LooksOver limit at known before parked (happened ++ more) after (kept ++ left)

  pub looking_begins : (limit at : ℕ) (known : Bool) (before : Pass) (parked : List (Ask P S Told)) (mailbox : V) (turns : ℕ) → length parked ≡ turns
      → Looking limit at known before parked mailbox known before parked mailbox turns
  looking_begins limit at known before parked mailbox turns count = record {
    rest = parked;
    kept = [];
    happened = [];
    parts = sym (append-nil parked);
    count = count;
    goes = refl;
    waits = (refl, refl);
    so_far = λ more after left h. h;
  }

  pub looking_ends : (limit at : ℕ) (known : Bool) (before : Pass) (parked : List (Ask P S Told)) (mailbox : V) (quiet : Bool) (pass : Pass) (polls : List (Ask P S Told)) (now : V)
      → Looking limit at known before parked mailbox quiet pass polls now 0
      → (happened : List (MailboxEvent (Mail P S Told) S Answered)) × LooksOver limit at known before parked happened pass polls
      × GoesThrough brings is_over gives was_left mailbox happened now × WaitsBehind parked at happened polls at
  looking_ends limit at known before parked mailbox quiet pass polls now h =
      let done : h.rest ≡ [] = nothing_left h.rest h.count in
      let nobody : LooksOver limit at quiet pass h.rest [] pass [] = subst (λ rest. LooksOver limit at quiet pass rest [] pass []) (sym done) (refl, refl, refl) in
      let whole : LooksOver limit at known before parked (h.happened ++ []) pass (h.kept ++ []) = h.so_far [] pass [] nobody in
      let happened : LooksOver limit at known before parked h.happened pass (h.kept ++ []) =
      subst (λ es. LooksOver limit at known before parked es pass (h.kept ++ [])) (append-nil h.happened) whole in
      let kept : h.kept ≡ polls = sym (h.parts ∙ ap (λ rest. rest ++ h.kept) done) in
      let left : h.kept ++ [] ≡ polls = append-nil h.kept ∙ kept in
      let waiting : h.kept ++ h.rest ≡ polls = ap (λ rest. h.kept ++ rest) done ∙ left in (
        h.happened,
        subst (λ left. LooksOver limit at known before parked h.happened pass left) left happened,
        h.goes,
        subst (λ left. WaitsBehind parked at h.happened left at) waiting h.waits,
      )

  -- ---- looking over polls of which the wait of none is over

  -- where the queue is known to be quiet, they all go on waiting
  pub all_quiet : (limit at : ℕ) (pass : Pass) (polls : List (Ask P S Told)) → WaitBeyond at polls → LooksOver limit at true pass polls [] pass polls
  all_quiet limit at pass [] early = (refl, refl, refl)
  all_quiet limit at pass (r ∷ rs) early =
      let before : at < r.wait_until = All-head (λ (x : Ask P S Told). at < x.wait_until) r rs early in
      let not_over : nat_lt at r.wait_until ≡ true = grind (arith, nat_tests) in (
        true,
        [],
        [],
        pass,
        rs,
        (refl, subst (λ b. MatchBool b ((true ≡ true) × (pass ≡ pass)) ((true ≡ false) × (pass ≡ pass))) (sym not_over) (refl, refl)),
        refl,
        refl,
        all_quiet limit at pass rs (All-tail (λ (x : Ask P S Told). at < x.wait_until) r rs early),
      )

  -- of the polls that waited the first were answered, or were dropped, and the others are still to be looked at
  pub record Passing (limit at : ℕ) (known : Bool) (before : Pass) (parked : List (Ask P S Told)) (mailbox : V)
      (quiet : Bool) (pass : Pass) (rest : List (Ask P S Told)) (now : V) : Type 0 where
    pub happened : List (MailboxEvent (Mail P S Told) S Answered)
    pub early : WaitBeyond at rest
    pub goes : GoesThrough brings is_over gives was_left mailbox happened now
    pub waits : WaitsBehind parked at happened rest at
    pub so_far : (more : List (MailboxEvent (Mail P S Told) S Answered)) (after : Pass) (left : List (Ask P S Told))
        → LooksOver limit at quiet pass rest more after left → LooksOver limit at known before parked (happened ++ more) after left

  pub passing_begins : (limit at : ℕ) (known : Bool) (before : Pass) (parked : List (Ask P S Told)) (mailbox : V) → WaitBeyond at parked
      → Passing limit at known before parked mailbox known before parked mailbox
  passing_begins limit at known before parked mailbox early =
      record { happened = []; early = early; goes = refl; waits = (refl, refl); so_far = λ more after left h. h }

  -- what is said of the polls that wait, where the first of them is this one
  abbrev pub IsOver : (limit at : ℕ) (known : Bool) (before : Pass) (parked : List (Ask P S Told)) (mailbox : V) (pass : Pass) (polls : List (Ask P S Told)) (now : V) → Type 0
  IsOver limit at known before parked mailbox pass polls now =
      (happened : List (MailboxEvent (Mail P S Told) S Answered)) × LooksOver limit at known before parked happened pass polls
      × GoesThrough brings is_over gives was_left mailbox happened now × WaitsBehind parked at happened polls at

  pub passing_ends : (limit at : ℕ) (known : Bool) (before : Pass) (parked : List (Ask P S Told)) (mailbox : V) (quiet : Bool) (pass : Pass) (now : V)
      → Passing limit at known before parked mailbox quiet pass [] now → IsOver limit at known before parked mailbox pass [] now
  passing_ends limit at known before parked mailbox quiet pass now h = (
    h.happened ++ [],
    h.so_far [] pass [] (refl, refl, refl),
    subst (λ es. GoesThrough brings is_over gives was_left mailbox es now) (sym (append-nil h.happened)) h.goes,
    subst (λ es. WaitsBehind parked at es [] at) (sym (append-nil h.happened)) h.waits,
  )

  -- the mailbox takes the answer to the poll that is looked at next
  pub passing_takes : (limit at : ℕ) (known : Bool) (before : Pass) (parked : List (Ask P S Told)) (mailbox : V) (quiet : Bool) (pass : Pass)
      (others : List (Ask P S Told)) (now : V) (r : Ask P S Told)
      → TakesAnswers brings is_over may_give gives was_left parked at mailbox
      → Passing limit at known before parked mailbox quiet pass (r ∷ others) now
      → (answer : Answered) → IsAnswerAt at r answer → may_give now r.reply answer
  passing_takes limit at known before parked mailbox quiet pass others now r takes h =
      takes_now (r ∷ others) [] others at now r (takes_behind parked (r ∷ others) at at mailbox now h.happened takes h.goes h.waits) refl

  -- the poll that is looked at is served
  pub passing_goes : (limit at : ℕ) (known : Bool) (before : Pass) (parked : List (Ask P S Told)) (mailbox : V) (quiet : Bool) (pass between : Pass)
      (others : List (Ask P S Told)) (now next : V) (r : Ask P S Told) (first : List (MailboxEvent (Mail P S Told) S Answered))
      → Passing limit at known before parked mailbox quiet pass (r ∷ others) now
      → LooksAt limit at quiet pass r first false between → GoesThrough brings is_over gives was_left now first next
      → Passing limit at known before parked mailbox false between others next
  passing_goes limit at known before parked mailbox quiet pass between others now next r first h looks goes = record {
    happened = h.happened ++ first;
    early = All-tail (λ (x : Ask P S Told). at < x.wait_until) r others h.early;
    goes = through_both brings is_over gives was_left mailbox now next h.happened first h.goes goes;
    waits = waits_both parked at h.happened first (r ∷ others) others at at h.waits (looked_waits limit at at quiet false pass between r [] others first looks);
    so_far = λ more after left m.
        subst (λ es. LooksOver limit at known before parked es after left) (sym (append_assoc h.happened first more))
        (h.so_far (first ++ more) after left (false, first, more, between, left, looks, refl, refl, m));
  }

  -- the poll that is looked at goes on waiting, and so do those behind it
  pub passing_stops : (limit at : ℕ) (known : Bool) (before : Pass) (parked : List (Ask P S Told)) (mailbox : V) (quiet : Bool) (pass between : Pass)
      (others : List (Ask P S Told)) (now next : V) (r : Ask P S Told) (first : List (MailboxEvent (Mail P S Told) S Answered))
      → Passing limit at known before parked mailbox quiet pass (r ∷ others) now
      → LooksAt limit at quiet pass r first true between → GoesThrough brings is_over gives was_left now first next
      → IsOver limit at known before parked mailbox between (r ∷ others) next
  passing_stops limit at known before parked mailbox quiet pass between others now next r first h looks goes =
      let same : (h.happened ++ first) ++ [] ≡ h.happened ++ first = append-nil (h.happened ++ first) in
      let both : h.happened ++ (first ++ []) ≡ h.happened ++ first = sym (append_assoc h.happened first []) ∙ same in (
        h.happened ++ first,
        subst (λ es. LooksOver limit at known before parked es between (r ∷ others)) both
            (h.so_far (first ++ []) between (r ∷ others) (true, first, [], between, others, looks, refl, refl, all_quiet limit at between others (All-tail (λ (x : Ask P S Told). at < x.wait_until) r others h.early))),
        through_both brings is_over gives was_left mailbox now next h.happened first h.goes goes,
        waits_both parked at h.happened first (r ∷ others) (r ∷ others) at at h.waits (looked_waits limit at at quiet true pass between r [] others first looks),
      )

  -- the first of the polls that are still to be looked at, and what is left behind it
  pub first_of_the_rest : (polls others rest kept : List (Ask P S Told)) (r : Ask P S Told) (turns : ℕ) → polls ≡ r ∷ others → polls ≡ rest ++ kept → length rest ≡ turns + 1
      → (behind : List (Ask P S Told)) × (rest ≡ r ∷ behind) × (others ≡ behind ++ kept) × (length behind ≡ turns)
  first_of_the_rest polls others [] kept r turns popped parts count = absurd (omega (arith, count))
  first_of_the_rest polls others (x ∷ xs) kept r turns popped parts count =
      let same : x ∷ (xs ++ kept) ≡ r ∷ others = sym parts ∙ popped in (
        xs,
        ap (λ y. y ∷ xs) (head_same same),
        sym (tail_same same),
        omega (arith, count),
      )

  -- while a poll is still to be looked at there is one
  pub one_is_left : (limit at : ℕ) (known : Bool) (before : Pass) (parked : List (Ask P S Told)) (mailbox : V) (quiet : Bool) (pass : Pass) (polls : List (Ask P S Told)) (now : V) (turns : ℕ)
      → Looking limit at known before parked mailbox quiet pass polls now turns → 0 < turns → 0 < length polls
  one_is_left limit at known before parked mailbox quiet pass polls now turns h some =
      omega (arith, some, h.count, ap length h.parts, length-append h.rest h.kept)

  -- the mailbox takes the answer to the poll that is looked at next
  pub looking_takes : (limit at : ℕ) (known : Bool) (before : Pass) (parked : List (Ask P S Told)) (mailbox : V) (quiet : Bool) (pass : Pass)
      (polls others : List (Ask P S Told)) (now : V) (turns : ℕ) (r : Ask P S Told)
      → TakesAnswers brings is_over may_give gives was_left parked at mailbox
      → Looking limit at known before parked mailbox quiet pass polls now (turns + 1) → polls ≡ r ∷ others
      → (answer : Answered) → IsAnswerAt at r answer → may_give now r.reply answer
  looking_takes limit at known before parked mailbox quiet pass polls others now turns r takes h popped =
      let f = first_of_the_rest polls others h.rest h.kept r turns popped h.parts h.count in
      takes_now (h.kept ++ h.rest) h.kept f.0 at now r (takes_behind parked (h.kept ++ h.rest) at at mailbox now h.happened takes h.goes h.waits)
      (ap (λ rest. h.kept ++ rest) f.1)

  -- the poll that is looked at goes on waiting, behind those that were looked at, or it is served
  pub looking_goes : (limit at : ℕ) (known : Bool) (before : Pass) (parked : List (Ask P S Told)) (mailbox : V) (quiet is_kept : Bool) (pass between : Pass)
      (polls others : List (Ask P S Told)) (now next : V) (turns : ℕ) (r : Ask P S Told) (first : List (MailboxEvent (Mail P S Told) S Answered))
      → Looking limit at known before parked mailbox quiet pass polls now (turns + 1) → polls ≡ r ∷ others
      → LooksAt limit at quiet pass r first is_kept between → GoesThrough brings is_over gives was_left now first next
      → Looking limit at known before parked mailbox is_kept between (with_last others is_kept r) next turns
  looking_goes limit at known before parked mailbox quiet is_kept pass between polls others now next turns r first h popped looks goes =
      let f = first_of_the_rest polls others h.rest h.kept r turns popped h.parts h.count in
      record {
        rest = f.0;
        kept = with_last h.kept is_kept r;
        happened = h.happened ++ first;
        parts = ap (λ xs. with_last xs is_kept r) f.2 ∙ with_last_behind f.0 h.kept is_kept r;
        count = f.3;
        goes = through_both brings is_over gives was_left mailbox now next h.happened first h.goes goes;
        waits = waits_both parked at h.happened first (h.kept ++ r ∷ f.0) (with_last h.kept is_kept r ++ f.0) at at
            (subst (λ rest. WaitsBehind parked at h.happened (h.kept ++ rest) at) f.1 h.waits)
            (subst (λ left. WaitsBehind (h.kept ++ r ∷ f.0) at first left at) (sym (with_last_before h.kept is_kept r f.0))
            (looked_waits limit at at quiet is_kept pass between r h.kept f.0 first looks));
        so_far = λ more after left m.
            subst (λ left. LooksOver limit at known before parked ((h.happened ++ first) ++ more) after left) (sym (with_last_before h.kept is_kept r left))
            (subst (λ es. LooksOver limit at known before parked es after (h.kept ++ with_kept is_kept r left)) (sym (append_assoc h.happened first more))
            (h.so_far (first ++ more) after (with_kept is_kept r left)
            (subst (λ rest. LooksOver limit at quiet pass rest (first ++ more) after (with_kept is_kept r left)) (sym f.1)
            (is_kept, first, more, between, left, looks, refl, refl, m))));
      }

  -- the same, told of equal values
  pub looking_same : (limit at : ℕ) (known : Bool) (before : Pass) (parked : List (Ask P S Told)) (mailbox : V) (quiet : Bool) (pass : Pass) (polls : List (Ask P S Told)) (now : V) (turns : ℕ)
      (quiet' : Bool) (polls' : List (Ask P S Told)) → quiet ≡ quiet' → polls ≡ polls'
      → Looking limit at known before parked mailbox quiet pass polls now turns → Looking limit at known before parked mailbox quiet' pass polls' now turns
  looking_same limit at known before parked mailbox quiet pass polls now turns quiet' polls' same_quiet same_polls h =
      subst (λ q. Looking limit at known before parked mailbox q pass polls' now turns) same_quiet
      (subst (λ ps. Looking limit at known before parked mailbox quiet pass ps now turns) same_polls h)

-- ---- asks that come

both_ways : (b : Bool) {A B : Type 0} → A → B → MatchBool b A B
both_ways true a b = a
both_ways false a b = b

module _ {P S Told : Type 0} where
  -- a receive is answered at its moment, where somebody waits for that
  pub admits_served : (r : Ask P S Told) (parked left : List (Ask P S Told)) (happened : List (MailboxEvent (Mail P S Told) S Answered))
      → left ≡ parked → is_receive r.command ≡ true → IsServedAt r.moment r happened → Admits r parked happened left
  admits_served r parked left happened same receives is =
      inr (same, subst (λ b. MatchBool b (IsServedAt r.moment r happened) (IsAnsweredAt r.moment r happened)) (sym receives) is)

  -- an ask is answered at its moment
  pub admits_answered : (r : Ask P S Told) (parked left : List (Ask P S Told)) (happened : List (MailboxEvent (Mail P S Told) S Answered))
      → left ≡ parked → IsAnsweredAt r.moment r happened → Admits r parked happened left
  admits_answered r parked left happened same is = inr (same, both_ways (is_receive r.command) (inr is) is)

-- ---- serving mails

module _ {P S Told V T : Type 0} (told : ℕ → Parcel → Delivery T → Type 0) (taken_out : ℕ → Type 0) (retargeted : ℕ → ℕ → Type 0)
    (brings : V → Mail P S Told → V → Type 0) (is_over : V → V → Type 0) (gives : V → S → Answered → V → Type 0) (was_left : V → S → Type 0) where
  -- what was served so far, where these polls wait now
  pub record Serving (uid limit : ℕ) (before : Pass) (mailbox : V) (pass : Pass) (parked : List (Ask P S Told)) (last : ℕ) (now : V) : Type 0 where
    pub mails : List (Mail P S Told)
    pub events : List (MailboxEvent (Mail P S Told) S Answered)
    pub goes : GoesThrough brings is_over gives was_left mailbox events now
    pub so_far : (ms : List (Mail P S Told)) (more : List (MailboxEvent (Mail P S Told) S Answered)) (after : Pass)
        → Serves told taken_out retargeted uid limit pass parked last ms more after → Serves told taken_out retargeted uid limit before [] 0 (mails ++ ms) (events ++ more) after

  pub serving_begins : (uid limit : ℕ) (before : Pass) (mailbox : V) (parked : List (Ask P S Told)) → parked ≡ []
      → Serving uid limit before mailbox before parked 0 mailbox
  serving_begins uid limit before mailbox parked none = record {
    mails = [];
    events = [];
    goes = refl;
    so_far = λ ms more after h. subst (λ ps. Serves told taken_out retargeted uid limit before ps 0 ms more after) none h;
  }

  -- what was served so far, and then a mail, and then what is served behind that
  served_so_far : (uid limit : ℕ) (before : Pass) (mailbox : V) (pass : Pass) (parked : List (Ask P S Told)) (last : ℕ) (now : V)
      (h : Serving uid limit before mailbox pass parked last now) (mail : Mail P S Told) (happened more : List (MailboxEvent (Mail P S Told) S Answered)) (ms : List (Mail P S Told)) (after : Pass)
      → Serves told taken_out retargeted uid limit pass parked last (mail ∷ ms) (happened ++ more) after
      → Serves told taken_out retargeted uid limit before [] 0 ((h.mails ++ mail ∷ []) ++ ms) ((h.events ++ happened) ++ more) after
  served_so_far uid limit before mailbox pass parked last now h mail happened more ms after s =
      subst (λ es. Serves told taken_out retargeted uid limit before [] 0 ((h.mails ++ mail ∷ []) ++ ms) es after) (sym (append_assoc h.events happened more))
      (subst (λ all. Serves told taken_out retargeted uid limit before [] 0 all (h.events ++ (happened ++ more)) after) (sym (append_assoc h.mails (mail ∷ []) ms))
      (h.so_far (mail ∷ ms) (happened ++ more) after s))

  -- one mail more that does not end it
  pub serving_goes : (uid limit : ℕ) (before : Pass) (mailbox : V) (pass : Pass) (parked : List (Ask P S Told)) (last : ℕ) (now : V)
      (mail : Mail P S Told) (at : ℕ) (first second : List (MailboxEvent (Mail P S Told) S Answered)) (wait left : List (Ask P S Told)) (between : Pass) (fetched taken next : V)
      → Serving uid limit before mailbox pass parked last now
      → brings now mail fetched
      → TakesIn taken_out retargeted uid mail last parked first wait at false → GoesThrough brings is_over gives was_left fetched first taken
      → Goes told taken_out retargeted limit at (is_tick mail) pass wait second between left → GoesThrough brings is_over gives was_left taken second next
      → Serving uid limit before mailbox between left at next
  serving_goes uid limit before mailbox pass parked last now mail at first second wait left between fetched taken next h brought takes adds goes more_adds =
      let happened : List (MailboxEvent (Mail P S Told) S Answered) = MailboxEvent.Brought mail ∷ (first ++ second) in
      record {
        mails = h.mails ++ mail ∷ [];
        events = h.events ++ happened;
        goes = through_both brings is_over gives was_left mailbox now next h.events happened h.goes
            (fetched, brought, through_both brings is_over gives was_left fetched taken next first second adds more_adds);
        so_far = λ ms more after m. served_so_far uid limit before mailbox pass parked last now h mail happened more ms after (
          first,
          second ++ more,
          wait,
          at,
          false,
          takes,
          ap (λ es. MailboxEvent.Brought mail ∷ es) (append_assoc first second more),
          (second, more, between, left, goes, refl, m),
        );
      }

  -- it ends, where no mail will come any more
  pub serving_ends : (uid limit : ℕ) (before : Pass) (mailbox : V) (pass : Pass) (parked : List (Ask P S Told)) (last : ℕ) (now : V)
      (happened : List (MailboxEvent (Mail P S Told) S Answered)) (after : Pass) (ended next : V)
      → Serving uid limit before mailbox pass parked last now
      → is_over now ended → Ends told taken_out retargeted last pass parked happened after → GoesThrough brings is_over gives was_left ended happened next
      → (ms : List (Mail P S Told)) × (events : List (MailboxEvent (Mail P S Told) S Answered)) × Serves told taken_out retargeted uid limit before [] 0 ms events after
      × GoesThrough brings is_over gives was_left mailbox events next
  serving_ends uid limit before mailbox pass parked last now happened after ended next h over ends goes = (
    h.mails ++ [],
    h.events ++ MailboxEvent.Over ∷ happened,
    h.so_far [] (MailboxEvent.Over ∷ happened) after (happened, refl, ends),
    through_both brings is_over gives was_left mailbox now next h.events (MailboxEvent.Over ∷ happened) h.goes (ended, over, goes),
  )

  -- it ends, where a mail says so, or the queue was closed
  pub serving_is_ended : (uid limit : ℕ) (before : Pass) (mailbox : V) (pass : Pass) (parked : List (Ask P S Told)) (last : ℕ) (now : V)
      (mail : Mail P S Told) (at : ℕ) (first rest : List (MailboxEvent (Mail P S Told) S Answered)) (wait : List (Ask P S Told)) (after : Pass) (fetched taken next : V)
      → Serving uid limit before mailbox pass parked last now
      → brings now mail fetched
      → TakesIn taken_out retargeted uid mail last parked first wait at true → GoesThrough brings is_over gives was_left fetched first taken
      → Ends told taken_out retargeted at pass wait rest after → GoesThrough brings is_over gives was_left taken rest next
      → (ms : List (Mail P S Told)) × (events : List (MailboxEvent (Mail P S Told) S Answered)) × Serves told taken_out retargeted uid limit before [] 0 ms events after
      × GoesThrough brings is_over gives was_left mailbox events next
  serving_is_ended uid limit before mailbox pass parked last now mail at first rest wait after fetched taken next h brought takes adds ends more_adds =
      let happened : List (MailboxEvent (Mail P S Told) S Answered) = MailboxEvent.Brought mail ∷ (first ++ rest) in (
        h.mails ++ mail ∷ [],
        h.events ++ happened,
        h.so_far (mail ∷ []) happened after (first, rest, wait, at, true, takes, refl, (refl, ends)),
        through_both brings is_over gives was_left mailbox now next h.events happened h.goes
            (fetched, brought, through_both brings is_over gives was_left fetched taken next first rest adds more_adds),
      )
