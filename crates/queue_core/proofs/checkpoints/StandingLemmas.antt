-- What a queue tells of its messages is a function of its summary.
use Rattle.std.proofs.Common.{◌≡◌, ℕ, suc, ◌+◌, ◌-◌, ◌*◌, ◌<◌, Bool, true, false, not, cond, ◌&&◌, ◌||◌, List, [], ◌∷◌, map, length, Option, Some, None, Ok, inl, inr, refl, sym, ap, subst, ◌∙◌, arith}
use Rattle.std.specs.Prelude.{◌==◌, ◌⊎◌, ◌/◌, nat_le, nat_lt, min, slice_get, slice_index, is_some, unwrap_or, option_map, option_and_then, filter, count_by}
use Rattle.std.specs.Option.{option_map_or}
use Rattle.std.specs.List.{AllByRecursion, Contains, find, filter_map, list_any, range_with_len}
use Rattle.std.proofs.lemmas.Bool.{false≢true, cases_lt}
use Rattle.std.proofs.lemmas.List.Elements.{All-contains_itself, recursion_from_All}
use Rattle.message.specs.declared.fault.Fault.{Fault}
use Rattle.message.specs.declared.fault.Fault.TheVariants.{QueueDoesNotExist, InvalidParameterValue, ReceiptHandleIsInvalid, MessageNotInflight, OverLimit}
use Rattle.message.specs.Content.{ContentText, content_size}
use Rattle.queue_config.specs.Settings.{settings_with}
use Rattle.receipt_handle.specs.declared.handle.Handle.{Handle}
use Rattle.journal.specs.declared.entry.Event.TheVariants.{Sent, Arrived, Received, Changed, Deleted, DeletedAgain, Set, Settled, Orphaned, Closed}
use Rattle.metric_window.specs.Flows.{greatest}
use Rattle.queue_core.specs.declared.command.Command.{Command}
use Rattle.queue_core.specs.declared.command.Command.TheVariants as commands
use Rattle.queue_core.specs.declared.reply.Reply.TheVariants as replies
use Rattle.queue_core.specs.declared.offers.Offer.{Offer}
use Rattle.queue_core.specs.declared.parcel.Parcel.{Parcel}
use Rattle.queue_core.specs.declared.parcel.Arrival.TheVariants as arrivals
use Rattle.queue_core.specs.declared.facts.Message.{Message}
use Rattle.queue_core.specs.declared.facts.Candidate.{Candidate}
use Rattle.queue_core.specs.declared.facts.Status.{Status}
use Rattle.queue_core.specs.declared.facts.Status.TheVariants.{Present, Removed, Waiting, Transferred}
use Rattle.queue_core.specs.declared.facts.MessageState.{MessageState}
use Rattle.queue_core.specs.declared.facts.MessageState.TheVariants.{Visible, Delayed, InFlight}
use Rattle.queue_core.specs.declared.facts.Transfer.{Transfer}
use Rattle.queue_core.specs.Messages.{messages, own_id, message_count, content_of, settings_of, created_time, modified_time, is_closed, is_expired, receive_count, last_receive_time, course_of, is_present_status, is_returned, due_time, is_waiting_status, waits_for, awaits_status, awaits_transfer, pending_transfers, has_accepted}
use Rattle.queue_core.specs.States.{kept_count, is_live, waiting_state, same_state, is_in_state, count_in_state, failing_receives, has_age, oldest_age, gauges_of, receive_order, message_numbered, is_numbered}
use Rattle.queue_core.specs.Queue.{QueueHistory, Outcome, adding, answering, first_refusal, unless_refused, with_room, uncounted_refusal, refusal, refused_or, done, send_outcome, receive_outcome, most_departures, offer_limit, scanned, scanned_candidates, offered_candidates, leaving_candidates, offer_of, offers_of, numbers_of, is_valid_handle, is_latest_handle, holds_in_flight, holds_live, passes_twelve_hours, change_refusal, parcel_of, transferred_parcel, first_parcel_of, outcome_in}
use Rattle.queue_core.specs.Turns.{IsVisibleCandidate}
use Rattle.queue_core.specs.Summary.{KnownMessage, Summary, known_message, known_where, summary_of}
use Rattle.queue_core.specs.Standing.{StandsFor, without_lines}
use Rattle.queue_core.proofs.records.FactLemmas.{Line, numbered-number, IsSound}
use Rattle.queue_core.proofs.entries.TallyLemmas.{received-count}
use Rattle.queue_core.proofs.entries.AcceptedLemmas.{is_key, keys_any}
use Rattle.queue_core.proofs.entries.PairLemmas.{ascending_same, count_by-places}
use Rattle.queue_core.proofs.PendingLemmas.{IsPendingOf}
use Rattle.queue_core.proofs.OfferLemmas.{offered_visible}
use Rattle.queue_core.proofs.indexed.IndexedLemmas.{pair_of, Contains-at, order_ascending, numbered_there, is_visible_at, pairs_are}
use Rattle.queue_core.proofs.records.SummaryLemmas.{receives_within, receives_numbered}

-- ---- lists

map_or-map : {X : Type 0} (f : X → ℕ) (h : ℕ → ℕ) (o : Option X) → option_map_or (λ x. h (f x)) o 0 ≡ option_map_or h (option_map f o) 0
map_or-map f h None = refl
map_or-map f h (Some x) = refl

-- the first element that passes a test is at the first place that passes one
find-places : {X : Type 0} (p : X → Bool) (f : X → ℕ) (q : ℕ → Bool) (g : ℕ → ℕ) (a : ℕ) (xs : List X) → ((k : ℕ) → option_map_or p (slice_get xs k) false ≡ q (a + k))
    → ((k : ℕ) (x : X) → slice_get xs k ≡ Some x → p x ≡ true → f x ≡ g (a + k)) → option_map f (find p xs) ≡ option_map g (find q (range_with_len a (length xs)))
find-places p f q g a [] h t = refl
find-places {X} p f q g a (x ∷ xs) h t =
    step (find-places p f q g (a + 1) xs (λ k. h (suc k) ∙ ap q (later k)) (λ k y e passes. t (suc k) y e passes ∙ ap g (later k))) (p x) refl
    ∙ ap (λ (b : Bool). option_map g (cond b (Some a) (find q (range_with_len (a + 1) (length xs))))) (h 0 ∙ ap q here)
  where
    here : a + 0 ≡ a
    here = omega arith

    later : (k : ℕ) → a + suc k ≡ (a + 1) + k
    later k = omega arith

    step : option_map f (find p xs) ≡ option_map g (find q (range_with_len (a + 1) (length xs))) → (b : Bool) → p x ≡ b → option_map f (cond b (Some x) (find p xs)) ≡ option_map g (cond b (Some a) (find q (range_with_len (a + 1) (length xs))))
    step rest true is = ap (λ (n : ℕ). Some n) (t 0 x refl is ∙ ap g here)
    step rest false is = rest

filter_map-map : {X Y Z : Type 0} (f : X → Option Z) (g : Y → Option Z) (k : X → Y) (xs : List X) → AllByRecursion (λ x. f x ≡ g (k x)) xs → filter_map f xs ≡ filter_map g (map k xs)
filter_map-map f g k [] h = refl
filter_map-map f g k (x ∷ xs) h = rw (h.0, filter_map-map f g k xs h.1) refl

map-back : (f : ℕ → Transfer) (ts : List Transfer) → AllByRecursion (λ t. f t.number ≡ t) ts → map f (map (λ t. t.number) ts) ≡ ts
map-back f [] h = refl
map-back f (t ∷ ts) h = ap (λ (t : Transfer). t ∷ map f (map (λ t. t.number) ts)) h.0 ∙ ap (λ (ts : List Transfer). t ∷ ts) (map-back f ts h.1)

recursion-weaker : {X : Type 0} (P Q : X → Type 0) → ((x : X) → P x → Q x) → (xs : List X) → AllByRecursion P xs → AllByRecursion Q xs
recursion-weaker P Q f [] h = tt
recursion-weaker P Q f (x ∷ xs) h = (f x h.0, recursion-weaker P Q f xs h.1)

-- ---- one message

present-unawaiting : (status : Status) (expired : Bool) → (is_present_status status && not expired) ≡ true → awaits_status status ≡ false
present-unawaiting Present expired h = refl
present-unawaiting Removed expired h = refl
present-unawaiting (Waiting target) expired h = absurd (false≢true h)
present-unawaiting Transferred expired h = refl

present-unwaiting : (target : ℕ) (status : Status) (expired : Bool) → (is_present_status status && not expired) ≡ true → is_waiting_status target status ≡ false
present-unwaiting target Present expired h = refl
present-unwaiting target Removed expired h = refl
present-unwaiting target (Waiting own) expired h = absurd (false≢true h)
present-unwaiting target Transferred expired h = refl

unwaiting : (target : ℕ) (status : Status) → awaits_status status ≡ false → is_waiting_status target status ≡ false
unwaiting target Present h = refl
unwaiting target Removed h = refl
unwaiting target (Waiting own) h = absurd (false≢true (sym h))
unwaiting target Transferred h = refl

-- whether it is live, in what state it then is, and whether its age is looked at and it is visible from a moment on
abbrev pub is_there : KnownMessage → Bool
is_there k = not (is_some k.target)

abbrev state_told : List ℕ → ℕ → KnownMessage → MessageState
state_told receives clock k = cond (nat_le k.due clock) Visible (cond ((slice_index receives k.number == 0) && not k.is_returned) Delayed InFlight)

abbrev is_told_in : MessageState → List ℕ → ℕ → KnownMessage → Bool
is_told_in state receives clock k = is_there k && same_state state (state_told receives clock k)

abbrev has_age_told : List ℕ → KnownMessage → Bool
has_age_told receives k = is_there k && nat_lt (slice_index receives k.number) failing_receives

abbrev waits_told : ℕ → KnownMessage → Bool
waits_told target k = option_map_or (λ own. own == target) k.target false

-- when the message of a number came, and its transfer, where it waits
abbrev came_told : (ℕ → Option KnownMessage) → ℕ → ℕ
came_told kept n = option_map_or (λ k. k.came) (kept n) 0

abbrev transfer_told : Summary → ℕ → Transfer
transfer_told s n = record { number = n; target = option_map_or (λ k. unwrap_or k.target 0) (s.known n) 0 }

-- a test of what a summary has under a number
abbrev pub passes : (KnownMessage → Bool) → (ℕ → Option KnownMessage) → ℕ → Bool
passes test kept n = option_map_or test (kept n) false

module _ (lines : List Line) (clock : ℕ) where
  abbrev told : Summary
  told = summary_of lines clock

  abbrev pub known_so : Message → Option KnownMessage
  known_so m = known_where lines clock (course_of lines m).status m

  -- a message is live, or waits, or is gone
  abbrev pub IsThere : Message → Type 0
  IsThere m = (is_live lines clock m ≡ true) × (known_so m ≡ Some (known_message lines clock None m))

  abbrev pub IsAway : Message → Type 0
  IsAway m = (target : ℕ) × ((course_of lines m).status ≡ Waiting target) × (known_so m ≡ Some (known_message lines clock (Some target) m))

  abbrev pub IsGone : Message → Type 0
  IsGone m = (is_live lines clock m ≡ false) × (awaits_transfer lines m ≡ false) × (known_so m ≡ None)

  pub each_is : (m : Message) → IsThere m ⊎ (IsAway m ⊎ IsGone m)
  each_is m = by_status (course_of lines m).status refl
    where
      by_live : (course_of lines m).status ≡ Present → (live : Bool) → is_live lines clock m ≡ live → IsThere m ⊎ (IsAway m ⊎ IsGone m)
      by_live e true l = inl (l, ap (λ (s : Status). known_where lines clock s m) e ∙ ap (λ (b : Bool). cond b (Some (known_message lines clock None m)) None) l)
      by_live e false l =
          inr (inr (l, ap awaits_status e, ap (λ (s : Status). known_where lines clock s m) e ∙ ap (λ (b : Bool). cond b (Some (known_message lines clock None m)) None) l))

      by_status : (status : Status) → (course_of lines m).status ≡ status → IsThere m ⊎ (IsAway m ⊎ IsGone m)
      by_status Present e = by_live e (is_live lines clock m) refl
      by_status Removed e = inr (inr (ap (λ (s : Status). is_present_status s && not (is_expired lines clock m)) e, ap awaits_status e, ap (λ (s : Status). known_where lines clock s m) e))
      by_status (Waiting target) e = inr (inl (target, e, ap (λ (s : Status). known_where lines clock s m) e))
      by_status Transferred e = inr (inr (ap (λ (s : Status). is_present_status s && not (is_expired lines clock m)) e, ap awaits_status e, ap (λ (s : Status). known_where lines clock s m) e))

  dead_away : (target : ℕ) (m : Message) → (course_of lines m).status ≡ Waiting target → is_live lines clock m ≡ false
  dead_away target m e = ap (λ (s : Status). is_present_status s && not (is_expired lines clock m)) e

  -- ---- a test of messages as one of a summary

  record Tells (p : Message → Bool) (test : KnownMessage → Bool) : Type 0 where
    there : (m : Message) → message_numbered lines m.number ≡ Some m → is_live lines clock m ≡ true → p m ≡ test (known_message lines clock None m)
    away : (m : Message) (target : ℕ) → (course_of lines m).status ≡ Waiting target → p m ≡ test (known_message lines clock (Some target) m)
    gone : (m : Message) → is_live lines clock m ≡ false → awaits_transfer lines m ≡ false → p m ≡ false

  module _ (p : Message → Bool) (test : KnownMessage → Bool) (tells : Tells p test) where
    told_numbered : (n : ℕ) → is_numbered p lines n ≡ passes test told.known n
    told_numbered n = by_message (message_numbered lines n) refl
      where
        by_message : (o : Option Message) → message_numbered lines n ≡ o → option_map_or p o false ≡ option_map_or test (option_and_then (λ m. known_so m) o) false
        by_message None e = refl
        by_message (Some m) e =
            let own : message_numbered lines m.number ≡ Some m = subst (λ (k : ℕ). message_numbered lines k ≡ Some m) (sym (numbered-number lines n m e)) e in
            elim (each_is m) [
              | inl h ↦ tells.there m own h.0 ∙ sym (ap (λ (o : Option KnownMessage). option_map_or test o false) h.1)
              | inr other ↦ elim other [
                | inl h ↦ tells.away m h.0 h.1 ∙ sym (ap (λ (o : Option KnownMessage). option_map_or test o false) h.2)
                | inr h ↦ tells.gone m h.0 h.1 ∙ sym (ap (λ (o : Option KnownMessage). option_map_or test o false) h.2)
              ]
            ]

    told_count : count_by p (messages lines) ≡ count_by (passes test told.known) (range_with_len 0 (length told.receives))
    told_count =
        let from_first : (k : ℕ) → k ≡ 0 + k = λ k. omega arith in
        count_by-places p (passes test told.known) 0 (messages lines) (λ k. told_numbered k ∙ ap (passes test told.known) (from_first k))
        ∙ ap (λ (n : ℕ). count_by (passes test told.known) (range_with_len 0 n)) (sym (received-count lines clock))

  -- how many are live or wait
  abbrev pub is_known : KnownMessage → Bool
  is_known k = true

  awaited : (m : Message) (target : ℕ) → (course_of lines m).status ≡ Waiting target → awaits_transfer lines m ≡ true
  awaited m target e = ap awaits_status e

  tells-kept : Tells (λ m. is_live lines clock m || awaits_transfer lines m) is_known
  tells-kept = record {
    there = λ m own live. ap (λ (b : Bool). b || awaits_transfer lines m) live;
    away = λ m target e. ap (λ (b : Bool). b || awaits_transfer lines m) (dead_away target m e) ∙ awaited m target e;
    gone = λ m dead none. ap (λ (b : Bool). b || awaits_transfer lines m) dead ∙ none;
  }

  pub kept_told : kept_count lines clock ≡ count_by (passes is_known told.known) (range_with_len 0 (length told.receives))
  kept_told = told_count (λ m. is_live lines clock m || awaits_transfer lines m) is_known tells-kept

  tells-live : Tells (λ m. is_live lines clock m) is_there
  tells-live = record {
    there = λ m own live. live;
    away = λ m target e. dead_away target m e;
    gone = λ m dead none. dead;
  }

  in_state-there : (state : MessageState) (m : Message) → message_numbered lines m.number ≡ Some m → is_live lines clock m ≡ true
      → is_in_state state lines clock m ≡ is_told_in state told.receives clock (known_message lines clock None m)
  in_state-there state m own live =
      ap (λ (b : Bool). option_map_or (λ s. same_state state s) (cond b (Some (waiting_state lines clock m)) None) false) live
      ∙ ap (λ (n : ℕ). same_state state (cond (nat_le (due_time lines m) clock) Visible (cond ((n == 0) && not (is_returned lines m)) Delayed InFlight))) (sym (receives_numbered lines clock m.number m own))

  in_state-dead : (state : MessageState) (m : Message) → is_live lines clock m ≡ false → is_in_state state lines clock m ≡ false
  in_state-dead state m dead = ap (λ (b : Bool). option_map_or (λ s. same_state state s) (cond b (Some (waiting_state lines clock m)) None) false) dead

  tells-state : (state : MessageState) → Tells (λ m. is_in_state state lines clock m) (is_told_in state told.receives clock)
  tells-state state = record {
    there = λ m own live. in_state-there state m own live;
    away = λ m target e. in_state-dead state m (dead_away target m e);
    gone = λ m dead none. in_state-dead state m dead;
  }

  tells-visible : (moment : ℕ) → Tells (is_visible_at lines clock moment) (λ k. is_told_in Visible told.receives clock k && (k.due == moment))
  tells-visible moment = record {
    there = λ m own live. ap (λ (b : Bool). b && (due_time lines m == moment)) (in_state-there Visible m own live);
    away = λ m target e. ap (λ (b : Bool). b && (due_time lines m == moment)) (in_state-dead Visible m (dead_away target m e));
    gone = λ m dead none. ap (λ (b : Bool). b && (due_time lines m == moment)) (in_state-dead Visible m dead);
  }

  tells-age : Tells (λ m. has_age lines clock m) (has_age_told told.receives)
  tells-age = record {
    there = λ m own live.
        ap (λ (b : Bool). b && nat_lt (receive_count lines m.number) failing_receives) live
        ∙ ap (λ (n : ℕ). nat_lt n failing_receives) (sym (receives_numbered lines clock m.number m own));
    away = λ m target e. ap (λ (b : Bool). b && nat_lt (receive_count lines m.number) failing_receives) (dead_away target m e);
    gone = λ m dead none. ap (λ (b : Bool). b && nat_lt (receive_count lines m.number) failing_receives) dead;
  }

  tells-awaits : Tells (λ m. awaits_transfer lines m) (λ k. is_some k.target)
  tells-awaits = record {
    there = λ m own live. present-unawaiting (course_of lines m).status (is_expired lines clock m) live;
    away = λ m target e. ap awaits_status e;
    gone = λ m dead none. none;
  }

  tells-waits : (target : ℕ) → Tells (λ m. waits_for lines target m) (waits_told target)
  tells-waits target = record {
    there = λ m own live. present-unwaiting target (course_of lines m).status (is_expired lines clock m) live;
    away = λ m own e. ap (is_waiting_status target) e;
    gone = λ m dead none. unwaiting target (course_of lines m).status none;
  }

  -- ---- the counts and the age

  live_by_age : (live young : Bool) → (live && young) ≡ true → live ≡ true
  live_by_age true young h = refl
  live_by_age false young h = absurd (false≢true h)

  -- a live message is what a summary has under its number
  known_live : (n : ℕ) (m : Message) → message_numbered lines n ≡ Some m → is_live lines clock m ≡ true → told.known n ≡ Some (known_message lines clock None m)
  known_live n m e live =
      let at : told.known n ≡ known_so m = ap (option_and_then (λ m. known_so m)) e in
      elim (each_is m) [
        | inl h ↦ at ∙ h.1
        | inr other ↦ elim other [
          | inl h ↦ absurd (false≢true (sym (dead_away h.0 m h.1) ∙ live))
          | inr h ↦ absurd (false≢true (sym h.0 ∙ live))
        ]
      ]

  pub age_told : oldest_age lines clock
      ≡ option_map_or (λ came. (clock - came) / 1000) (option_map (came_told told.known) (find (passes (has_age_told told.receives) told.known) (range_with_len 0 (length told.receives)))) 0
  age_told =
      let from_first : (k : ℕ) → k ≡ 0 + k = λ k. omega arith in
      map_or-map (λ m. m.enqueue_time) (λ came. (clock - came) / 1000) (find (λ m. has_age lines clock m) (messages lines))
      ∙ ap (λ (o : Option ℕ). option_map_or (λ came. (clock - came) / 1000) o 0)
      (find-places (λ m. has_age lines clock m) (λ m. m.enqueue_time) (passes (has_age_told told.receives) told.known) (came_told told.known) 0 (messages lines)
      (λ k. told_numbered (λ m. has_age lines clock m) (has_age_told told.receives) tells-age k ∙ ap (passes (has_age_told told.receives) told.known) (from_first k))
      (λ k m e has.
      let known = known_live k m e (live_by_age (is_live lines clock m) (nat_lt (receive_count lines m.number) failing_receives) has) in
      sym (ap (λ (o : Option KnownMessage). option_map_or (λ k. k.came) o 0) known) ∙ ap (came_told told.known) (from_first k)))
      ∙ ap (λ (n : ℕ). option_map_or (λ came. (clock - came) / 1000) (option_map (came_told told.known) (find (passes (has_age_told told.receives) told.known) (range_with_len 0 n))) 0) (sym (received-count lines clock))

  -- ---- what waits

  -- a message that waits is what a summary has under its number
  known_away : (n : ℕ) (m : Message) (target : ℕ) → message_numbered lines n ≡ Some m → (course_of lines m).status ≡ Waiting target → told.known n ≡ Some (known_message lines clock (Some target) m)
  known_away n m target e waiting = ap (option_and_then (λ m. known_so m)) e ∙ ap (λ (s : Status). known_where lines clock s m) waiting

  transfer_is : (pending : IsPendingOf lines) (t : Transfer) → Contains (pending_transfers lines) t → transfer_told told t.number ≡ t
  transfer_is pending t there =
      let waiting = pending.waiting t there in
      ap (λ (o : Option KnownMessage). record { number = t.number; target = option_map_or (λ k. unwrap_or k.target 0) o 0 }) (known_away t.number waiting.0 t.target waiting.1 waiting.2)

  transfers_told : IsPendingOf lines → map (transfer_told told) told.leaving ≡ pending_transfers lines
  transfers_told pending =
      map-back (transfer_told told) (pending_transfers lines)
      (recursion-weaker (λ t. Contains (pending_transfers lines) t) (λ t. transfer_told told t.number ≡ t) (λ t there. transfer_is pending t there) (pending_transfers lines)
      (recursion_from_All (λ t. Contains (pending_transfers lines) t) (pending_transfers lines) (All-contains_itself (pending_transfers lines))))

  -- when what is in flight was last received
  live_in_state : (state seen : MessageState) (live : Bool) → option_map_or (λ s. same_state state s) (cond live (Some seen) None) false ≡ true → live ≡ true
  live_in_state state seen true h = refl
  live_in_state state seen false h = absurd (false≢true h)

  last_told : (n : ℕ) → is_numbered (λ m. is_in_state InFlight lines clock m) lines n ≡ true → last_receive_time lines n ≡ option_map_or (λ k. k.last_receive) (told.known n) 0
  last_told n h = by_message (message_numbered lines n) refl h
    where
      by_message : (o : Option Message) → message_numbered lines n ≡ o → option_map_or (λ m. is_in_state InFlight lines clock m) o false ≡ true
          → last_receive_time lines n ≡ option_map_or (λ k. k.last_receive) (told.known n) 0
      by_message None e h = absurd (false≢true h)
      by_message (Some m) e h =
          let known = known_live n m e (live_in_state InFlight (waiting_state lines clock m) (is_live lines clock m) h) in
          ap (λ (k : ℕ). last_receive_time lines k) (sym (numbered-number lines n m e)) ∙ sym (ap (λ (o : Option KnownMessage). option_map_or (λ k. k.last_receive) o 0) known)

-- ---- what a receive comes to, as due times and numbers

abbrev scanned_pairs : (ℕ → Bool) → ℕ → ℕ → List (ℕ × ℕ) → List (ℕ × ℕ)
scanned_pairs spent offers departures [] = []
scanned_pairs spent offers departures (x ∷ xs) =
    cond ((offers == 0) || (departures == 0)) [] (x ∷ cond (spent x.1) (scanned_pairs spent offers (departures - 1) xs) (scanned_pairs spent (offers - 1) departures xs))

scanned_at : (stop out : Bool) (c : Candidate) (one other : List Candidate) (pairs more : List (ℕ × ℕ)) → map pair_of one ≡ pairs → map pair_of other ≡ more
    → map pair_of (cond stop [] (c ∷ cond out one other)) ≡ cond stop [] (pair_of c ∷ cond out pairs more)
scanned_at true out c one other pairs more h k = refl
scanned_at false true c one other pairs more h k = ap (λ (xs : List (ℕ × ℕ)). pair_of c ∷ xs) h
scanned_at false false c one other pairs more h k = ap (λ (xs : List (ℕ × ℕ)). pair_of c ∷ xs) k

map-scanned : (spent : ℕ → Bool) (offers departures : ℕ) (cs : List Candidate)
    → map pair_of (scanned (λ c. spent c.message.number) offers departures cs) ≡ scanned_pairs spent offers departures (map pair_of cs)
map-scanned spent offers departures [] = refl
map-scanned spent offers departures (c ∷ cs) =
    scanned_at ((offers == 0) || (departures == 0)) (spent c.message.number) c (scanned (λ c. spent c.message.number) offers (departures - 1) cs)
    (scanned (λ c. spent c.message.number) (offers - 1) departures cs) (scanned_pairs spent offers (departures - 1) (map pair_of cs)) (scanned_pairs spent (offers - 1) departures (map pair_of cs))
    (map-scanned spent offers (departures - 1) cs) (map-scanned spent (offers - 1) departures cs)

filtered_at : (b : Bool) (c : Candidate) (cs : List Candidate) (pairs : List (ℕ × ℕ)) → map pair_of cs ≡ pairs → map pair_of (cond b (c ∷ cs) cs) ≡ cond b (pair_of c ∷ pairs) pairs
filtered_at true c cs pairs h = ap (λ (xs : List (ℕ × ℕ)). pair_of c ∷ xs) h
filtered_at false c cs pairs h = h

map-filtered : (test : ℕ → Bool) (cs : List Candidate) → map pair_of (filter (λ c. test c.message.number) cs) ≡ filter (λ (x : ℕ × ℕ). test x.1) (map pair_of cs)
map-filtered test [] = refl
map-filtered test (c ∷ cs) = filtered_at (test c.message.number) c (filter (λ c. test c.message.number) cs) (filter (λ (x : ℕ × ℕ). test x.1) (map pair_of cs)) (map-filtered test cs)

numbers-pairs : (cs : List Candidate) → numbers_of cs ≡ map (λ (x : ℕ × ℕ). x.1) (map pair_of cs)
numbers-pairs [] = refl
numbers-pairs (c ∷ cs) = ap (λ (ns : List ℕ). c.message.number ∷ ns) (numbers-pairs cs)

-- ---- one queue

abbrev is_spent : QueueHistory → ℕ → Bool
is_spent q n = option_map_or (λ p. nat_le p.max_receive_count (receive_count q.lines n)) (settings_of q.lines).redrive_policy false

abbrev kept_pairs : (ℕ → Bool) → (ℕ → Bool) → ℕ → List (ℕ × ℕ) → List (ℕ × ℕ)
kept_pairs test spent limit pairs = filter (λ (x : ℕ × ℕ). test x.1) (scanned_pairs spent limit most_departures pairs)

abbrev offer_known : ℕ → ℕ → ℕ → ℕ → KnownMessage → Option Offer
offer_known uid clock number receives k =
    option_map
    (λ content. record {
      number = number;
      receipt = min (receives + 1) greatest;
      id = option_map_or (λ origin. origin.id) k.origin (own_id uid number);
      sent = k.sent;
      first_receive = unwrap_or k.first_receive clock;
      source = option_map (λ origin. origin.name) k.origin;
      content = content;
    })
    k.content

abbrev offer_told : ℕ → ℕ → Summary → ℕ × ℕ → Option Offer
offer_told uid clock s pair = option_and_then (offer_known uid clock pair.1 (slice_index s.receives pair.1)) (s.known pair.1)

abbrev parcel_known : ℕ → List ℕ → ℕ → ℕ → KnownMessage → Option Parcel
parcel_known uid name number target k =
    option_map
    (λ content. record {
      origin = record { uid = uid; number = number; name = name; id = option_map_or (λ origin. origin.id) k.origin (own_id uid number); sent = k.sent };
      target = target;
      content = content;
    })
    k.content

abbrev parcel_told : ℕ → List ℕ → Summary → Transfer → Option Parcel
parcel_told uid name s t = option_and_then (parcel_known uid name t.number t.target) (s.known t.number)

module _ (q : QueueHistory) where
  abbrev summary : Summary
  summary = summary_of q.lines q.clock

  offer_is : (c : Candidate) → IsVisibleCandidate q.lines q.clock c → option_map (λ content. offer_of q c content) (content_of q.lines c.message) ≡ offer_told q.uid q.clock summary (pair_of c)
  offer_is c visible =
      let m : Message = c.message in
      let own = numbered_there q.lines q.clock m visible.message in
      let known = known_live q.lines q.clock m.number m own (live_in_state q.lines q.clock Visible (waiting_state q.lines q.clock m) (is_live q.lines q.clock m) visible.visible) in
      ap (λ (n : ℕ). offer_known q.uid q.clock m.number n (known_message q.lines q.clock None m)) (sym (receives_numbered q.lines q.clock m.number m own))
      ∙ sym (ap (option_and_then (offer_known q.uid q.clock m.number (slice_index summary.receives m.number))) known)

  offers_told : (maximum : ℕ) → offers_of q (offered_candidates q maximum) ≡ filter_map (offer_told q.uid q.clock summary) (map pair_of (offered_candidates q maximum))
  offers_told maximum =
      filter_map-map (λ c. option_map (λ content. offer_of q c content) (content_of q.lines c.message)) (offer_told q.uid q.clock summary) pair_of (offered_candidates q maximum)
      (recursion-weaker (λ c. IsVisibleCandidate q.lines q.clock c) (λ c. option_map (λ content. offer_of q c content) (content_of q.lines c.message) ≡ offer_told q.uid q.clock summary (pair_of c))
      (λ c visible. offer_is c visible) (offered_candidates q maximum)
      (recursion_from_All (λ c. IsVisibleCandidate q.lines q.clock c) (offered_candidates q maximum) (offered_visible q maximum)))

  offered_pairs : (maximum : ℕ) → map pair_of (offered_candidates q maximum) ≡ kept_pairs (λ n. not (is_spent q n)) (is_spent q) (offer_limit q maximum) (map pair_of (receive_order q.lines q.clock))
  offered_pairs maximum =
      map-filtered (λ n. not (is_spent q n)) (scanned_candidates q maximum)
      ∙ ap (filter (λ (x : ℕ × ℕ). not (is_spent q x.1))) (map-scanned (is_spent q) (offer_limit q maximum) most_departures (receive_order q.lines q.clock))

  leaving_pairs : (maximum : ℕ) → map pair_of (leaving_candidates q maximum) ≡ kept_pairs (is_spent q) (is_spent q) (offer_limit q maximum) (map pair_of (receive_order q.lines q.clock))
  leaving_pairs maximum =
      map-filtered (is_spent q) (scanned_candidates q maximum)
      ∙ ap (filter (λ (x : ℕ × ℕ). is_spent q x.1)) (map-scanned (is_spent q) (offer_limit q maximum) most_departures (receive_order q.lines q.clock))

  parcel_is : IsPendingOf q.lines → (t : Transfer) → Contains (pending_transfers q.lines) t → transferred_parcel q t ≡ parcel_told q.uid q.name summary t
  parcel_is pending t there =
      let waiting = pending.waiting t there in
      let m : Message = waiting.0 in
      ap (option_and_then (λ m. option_map (λ content. parcel_of q t m content) (content_of q.lines m))) waiting.1
      ∙ ap (λ (n : ℕ). parcel_known q.uid q.name n t.target (known_message q.lines q.clock (Some t.target) m)) (numbered-number q.lines t.number m waiting.1)
      ∙ sym (ap (option_and_then (parcel_known q.uid q.name t.number t.target)) (known_away q.lines q.clock t.number m t.target waiting.1 waiting.2))

  first_told : IsPendingOf q.lines → first_parcel_of q ≡ option_and_then (parcel_told q.uid q.name summary) (slice_get (pending_transfers q.lines) 0)
  first_told pending = by_first (slice_get (pending_transfers q.lines) 0) refl
    where
      by_first : (o : Option Transfer) → slice_get (pending_transfers q.lines) 0 ≡ o → option_and_then (λ t. transferred_parcel q t) o ≡ option_and_then (parcel_told q.uid q.name summary) o
      by_first None e = refl
      by_first (Some t) e = parcel_is pending t (Contains-at (pending_transfers q.lines) 0 t e)

-- ---- two journals of which the same messages are known

module _ (one another : List Line) (clock now : ℕ) (clocks : clock ≡ now) (receives : (summary_of one clock).receives ≡ (summary_of another now).receives)
    (kept : (summary_of one clock).known ≡ (summary_of another now).known) where
  live_alike : (n : ℕ) → is_numbered (λ m. is_live one clock m) one n ≡ is_numbered (λ m. is_live another now m) another n
  live_alike n = told_numbered one clock _ is_there (tells-live one clock) n ∙ (λ i. passes is_there (kept i) n) ∙ sym (told_numbered another now _ is_there (tells-live another now) n)

  state_alike : (state : MessageState) (n : ℕ) → is_numbered (λ m. is_in_state state one clock m) one n ≡ is_numbered (λ m. is_in_state state another now m) another n
  state_alike state n =
      told_numbered one clock _ (is_told_in state (summary_of one clock).receives clock) (tells-state one clock state) n
      ∙ (λ i. passes (is_told_in state (receives i) (clocks i)) (kept i) n)
      ∙ sym (told_numbered another now _ (is_told_in state (summary_of another now).receives now) (tells-state another now state) n)

  awaits_alike : (n : ℕ) → is_numbered (λ m. awaits_transfer one m) one n ≡ is_numbered (λ m. awaits_transfer another m) another n
  awaits_alike n =
      told_numbered one clock _ (λ k. is_some k.target) (tells-awaits one clock) n
      ∙ (λ i. passes (λ k. is_some k.target) (kept i) n)
      ∙ sym (told_numbered another now _ (λ k. is_some k.target) (tells-awaits another now) n)

  waiting_alike : (target : ℕ) → count_by (λ m. waits_for one target m) (messages one) ≡ count_by (λ m. waits_for another target m) (messages another)
  waiting_alike target =
      told_count one clock _ (waits_told target) (tells-waits one clock target)
      ∙ (λ i. count_by (passes (waits_told target) (kept i)) (range_with_len 0 (length (receives i))))
      ∙ sym (told_count another now _ (waits_told target) (tells-waits another now target))

  states_alike : (state : MessageState) → count_in_state state one clock ≡ count_in_state state another now
  states_alike state =
      told_count one clock _ (is_told_in state (summary_of one clock).receives clock) (tells-state one clock state)
      ∙ (λ i. count_by (passes (is_told_in state (receives i) (clocks i)) (kept i)) (range_with_len 0 (length (receives i))))
      ∙ sym (told_count another now _ (is_told_in state (summary_of another now).receives now) (tells-state another now state))

  age_alike : oldest_age one clock ≡ oldest_age another now
  age_alike =
      age_told one clock
      ∙ (λ i.
      option_map_or (λ came. (clocks i - came) / 1000) (option_map (came_told (kept i)) (find (passes (has_age_told (receives i)) (kept i)) (range_with_len 0 (length (receives i))))) 0)
      ∙ sym (age_told another now)

  pub gauges_alike : gauges_of one clock ≡ gauges_of another now
  gauges_alike = λ i. record { visible = states_alike Visible i; delayed = states_alike Delayed i; in_flight = states_alike InFlight i; age = age_alike i }

  pairs_alike : map pair_of (receive_order one clock) ≡ map pair_of (receive_order another now)
  pairs_alike =
      ascending_same (map pair_of (receive_order one clock)) (map pair_of (receive_order another now)) (order_ascending one clock) (order_ascending another now)
      (λ moment n.
      pairs_are one clock moment n
      ∙ told_numbered one clock _ (λ k. is_told_in Visible (summary_of one clock).receives clock k && (k.due == moment)) (tells-visible one clock moment) n
      ∙ (λ i. passes (λ k. is_told_in Visible (receives i) (clocks i) k && (k.due == moment)) (kept i) n)
      ∙ sym (told_numbered another now _ (λ k. is_told_in Visible (summary_of another now).receives now k && (k.due == moment)) (tells-visible another now moment) n)
      ∙ sym (pairs_are another now moment n))

  last_alike : (n : ℕ) → is_numbered (λ m. is_in_state InFlight another now m) another n ≡ true → last_receive_time one n ≡ last_receive_time another n
  last_alike n there =
      last_told one clock n (state_alike InFlight n ∙ there) ∙ (λ i. option_map_or (λ k. k.last_receive) (kept i n) 0) ∙ sym (last_told another now n there)

-- ---- two queues

-- a command adds the same entry to their journals as they stand, and has the same reply, but for the number of entries
pub record AnswersIn (q w : QueueHistory) (command : Command) : Type 0 where
  pub event : (outcome_in q command).event ≡ (outcome_in w command).event
  pub reply : without_lines (outcome_in q command).reply ≡ without_lines (outcome_in w command).reply

module _ (q w : QueueHistory) (sound : IsSound q.lines q.clock) (other : IsSound w.lines w.clock) (same : StandsFor q w) where
  pub receives_same : (summary q).receives ≡ (summary w).receives
  receives_same = ap (λ (x : Summary). x.receives) same.summary

  pub known_same : (summary q).known ≡ (summary w).known
  known_same = ap (λ (x : Summary). x.known) same.summary

  pub settings_same : settings_of q.lines ≡ settings_of w.lines
  settings_same = ap (λ (x : Summary). x.settings) same.summary

  pub created_same : created_time q.lines ≡ created_time w.lines
  created_same = ap (λ (x : Summary). x.created) same.summary

  pub modified_same : modified_time q.lines ≡ modified_time w.lines
  modified_same = ap (λ (x : Summary). x.modified) same.summary

  pub closed_same : is_closed q.lines ≡ is_closed w.lines
  closed_same = ap (λ (x : Summary). x.closed) same.summary

  pub count_same : message_count q.lines ≡ message_count w.lines
  count_same = sym (received-count q.lines q.clock) ∙ ap (λ (x : Summary). length x.receives) same.summary ∙ received-count w.lines w.clock

  pub received_same : (n : ℕ) → receive_count q.lines n ≡ receive_count w.lines n
  received_same n = elim (cases_lt n (message_count q.lines)) [
    | inl below ↦
        sym (receives_within q.lines q.clock n below)
        ∙ ap (λ (x : Summary). slice_index x.receives n) same.summary
        ∙ receives_within w.lines w.clock n (omega (arith, below, count_same))
    | inr past ↦ (sound.unborn n past).receives ∙ sym (other.unborn n (omega (arith, past, count_same))).receives
  ]

  pub accepted_same : (uid number : ℕ) → has_accepted q.lines uid number ≡ has_accepted w.lines uid number
  accepted_same uid number = sym (keys_any uid number q.lines) ∙ ap (λ (x : Summary). list_any (is_key uid number) x.accepted) same.summary ∙ keys_any uid number w.lines

  -- ---- messages

  state_numbered : (state : MessageState) (n : ℕ) → is_numbered (λ m. is_in_state state q.lines q.clock m) q.lines n ≡ is_numbered (λ m. is_in_state state w.lines w.clock m) w.lines n
  state_numbered state n = state_alike q.lines w.lines q.clock w.clock same.clock receives_same known_same state n

  states_same : (state : MessageState) → count_in_state state q.lines q.clock ≡ count_in_state state w.lines w.clock
  states_same state = states_alike q.lines w.lines q.clock w.clock same.clock receives_same known_same state

  pub gauges_same : gauges_of q.lines q.clock ≡ gauges_of w.lines w.clock
  gauges_same = gauges_alike q.lines w.lines q.clock w.clock same.clock receives_same known_same

  -- ---- the order of receives

  pairs_same : map pair_of (receive_order q.lines q.clock) ≡ map pair_of (receive_order w.lines w.clock)
  pairs_same = pairs_alike q.lines w.lines q.clock w.clock same.clock receives_same known_same

  spent_same : is_spent q ≡ is_spent w
  spent_same = λ i n. option_map_or (λ p. nat_le p.max_receive_count (received_same n i)) (settings_same i).redrive_policy false

  limit_same : (maximum : ℕ) → offer_limit q maximum ≡ offer_limit w maximum
  limit_same maximum = λ i. min maximum (same.in_flight i - states_same InFlight i)

  offered_same : (maximum : ℕ) → map pair_of (offered_candidates q maximum) ≡ map pair_of (offered_candidates w maximum)
  offered_same maximum =
      offered_pairs q maximum
      ∙ (λ i. kept_pairs (λ n. not (spent_same i n)) (spent_same i) (limit_same maximum i) (pairs_same i))
      ∙ sym (offered_pairs w maximum)

  leaving_same : (maximum : ℕ) → map pair_of (leaving_candidates q maximum) ≡ map pair_of (leaving_candidates w maximum)
  leaving_same maximum = leaving_pairs q maximum ∙ (λ i. kept_pairs (spent_same i) (spent_same i) (limit_same maximum i) (pairs_same i)) ∙ sym (leaving_pairs w maximum)

  offered_numbers : (maximum : ℕ) → numbers_of (offered_candidates q maximum) ≡ numbers_of (offered_candidates w maximum)
  offered_numbers maximum =
      numbers-pairs (offered_candidates q maximum) ∙ ap (map (λ (x : ℕ × ℕ). x.1)) (offered_same maximum) ∙ sym (numbers-pairs (offered_candidates w maximum))

  leaving_numbers : (maximum : ℕ) → numbers_of (leaving_candidates q maximum) ≡ numbers_of (leaving_candidates w maximum)
  leaving_numbers maximum =
      numbers-pairs (leaving_candidates q maximum) ∙ ap (map (λ (x : ℕ × ℕ). x.1)) (leaving_same maximum) ∙ sym (numbers-pairs (leaving_candidates w maximum))

  offers_same : (maximum : ℕ) → offers_of q (offered_candidates q maximum) ≡ offers_of w (offered_candidates w maximum)
  offers_same maximum = offers_told q maximum ∙ (λ i. filter_map (offer_told (same.uid i) (same.clock i) (same.summary i)) (offered_same maximum i)) ∙ sym (offers_told w maximum)

  -- ---- what waits

  pub transfers_same : pending_transfers q.lines ≡ pending_transfers w.lines
  transfers_same =
      sym (transfers_told q.lines q.clock sound.pending)
      ∙ ap (λ (x : Summary). map (transfer_told x) x.leaving) same.summary
      ∙ transfers_told w.lines w.clock other.pending

  pub first_same : first_parcel_of q ≡ first_parcel_of w
  first_same =
      first_told q sound.pending
      ∙ (λ i. option_and_then (parcel_told (same.uid i) (same.name i) (same.summary i)) (slice_get (transfers_same i) 0))
      ∙ sym (first_told w other.pending)

  -- ---- handles

  valid_same : (h : Handle) → is_valid_handle q h ≡ is_valid_handle w h
  valid_same h = λ i. (h.uid == same.uid i) && nat_lt h.number (count_same i) && nat_le 1 h.receipt && nat_le h.receipt (received_same h.number i)

  in_flight_same : (h : Handle) → holds_in_flight q h ≡ holds_in_flight w h
  in_flight_same h = λ i. state_numbered InFlight h.number i && (h.receipt == received_same h.number i)

  held_same : (h : Handle) → holds_live q h ≡ holds_live w h
  held_same h = λ i. live_alike q.lines w.lines q.clock w.clock same.clock receives_same known_same h.number i && (h.receipt == received_same h.number i)

  first_part : (a b : Bool) → (a && b) ≡ true → a ≡ true
  first_part true b h = refl
  first_part false b h = absurd (false≢true h)

  late_same : (h : Handle) (timeout : ℕ) → holds_in_flight w h ≡ true → passes_twelve_hours q h.number timeout ≡ passes_twelve_hours w h.number timeout
  late_same h timeout holds =
      let there : is_numbered (λ m. is_in_state InFlight w.lines w.clock m) w.lines h.number ≡ true = first_part _ (is_latest_handle w h) holds in
      let last : last_receive_time q.lines h.number ≡ last_receive_time w.lines h.number = last_alike q.lines w.lines q.clock w.clock same.clock receives_same known_same h.number there in
      λ i. nat_lt (last i + 43200000) (same.clock i + 1000 * timeout)

  abbrev behind_handle : Bool → Option Fault
  behind_handle late = cond late (Some InvalidParameterValue) None

  held_change : (h : Handle) (timeout : ℕ) → cond (holds_in_flight q h) (behind_handle (passes_twelve_hours q h.number timeout)) (Some MessageNotInflight)
      ≡ cond (holds_in_flight w h) (behind_handle (passes_twelve_hours w h.number timeout)) (Some MessageNotInflight)
  held_change h timeout =
      ap (λ (b : Bool). cond b (behind_handle (passes_twelve_hours q h.number timeout)) (Some MessageNotInflight)) (in_flight_same h) ∙ by_held (holds_in_flight w h) refl
    where
      by_held : (b : Bool) → holds_in_flight w h ≡ b → cond b (behind_handle (passes_twelve_hours q h.number timeout)) (Some MessageNotInflight)
          ≡ cond b (behind_handle (passes_twelve_hours w h.number timeout)) (Some MessageNotInflight)
      by_held true e = ap behind_handle (late_same h timeout e)
      by_held false e = refl

  change_same : (h : Handle) (timeout : ℕ) → change_refusal q h timeout ≡ change_refusal w h timeout
  change_same h timeout = λ i. cond (valid_same h i) (held_change h timeout i) (Some ReceiptHandleIsInvalid)

  -- ---- commands

  module _ (room_same : first_refusal q ≡ first_refusal w) where
    in_room : (one another : Outcome) → one ≡ another → with_room q one ≡ with_room w another
    in_room one another h = λ i. unless_refused (room_same i) (h i)

    send_same : (content : ContentText) (delay : Option ℕ) → send_outcome q content delay ≡ send_outcome w content delay
    send_same content delay =
        λ i.
        cond (nat_lt (settings_same i).maximum_message_size (content_size content)) (refusal InvalidParameterValue)
        (adding (Sent (unwrap_or delay (settings_same i).delay_seconds) content) (Ok (replies.Sent (record { number = count_same i; id = own_id (same.uid i) (count_same i) }))))

    receive_same : (maximum : ℕ) (timeout : Option ℕ) → receive_outcome q maximum timeout ≡ receive_outcome w maximum timeout
    receive_same maximum timeout =
        λ i.
        cond (nat_le (same.in_flight i) (states_same InFlight i)) (refusal OverLimit)
        (adding (Received (unwrap_or timeout (settings_same i).visibility_timeout) (offered_numbers maximum i) (leaving_numbers maximum i) (option_map_or (λ p. p.target) (settings_same i).redrive_policy 0))
        (Ok (replies.Received (offers_same maximum i))))

    -- in the journals as they stand
    answers : (command : Command) → outcome_in q command ≡ outcome_in w command → AnswersIn q w command
    answers command h = record { event = ap (λ (o : Outcome). o.event) h; reply = ap (λ (o : Outcome). without_lines o.reply) h }

    pub answers_in : (command : Command) → AnswersIn q w command
    answers_in (commands.Send content delay) = answers (commands.Send content delay) (in_room _ _ (send_same content delay))
    answers_in (commands.Receive maximum timeout) = answers (commands.Receive maximum timeout) (in_room _ _ (receive_same maximum timeout))
    answers_in (commands.Change handle timeout) =
        answers (commands.Change handle timeout) (in_room _ _ (λ i. refused_or (change_same handle timeout i) (done (Changed handle.number timeout))))
    answers_in (commands.Delete handle) =
        answers (commands.Delete handle)
        (in_room _ _ (λ i. cond (valid_same handle i) (done (cond (held_same handle i) (Deleted handle.number) DeletedAgain)) (refusal ReceiptHandleIsInvalid)))
    answers_in commands.Purge = answers commands.Purge (in_room _ _ refl)
    answers_in (commands.Set wish target) = answers (commands.Set wish target) (in_room _ _ (λ i. done (Set (settings_with (settings_same i) wish target))))
    answers_in (commands.Arrive parcel) =
        answers (commands.Arrive parcel)
        (in_room _ _
        (λ i.
        cond (accepted_same parcel.origin.uid parcel.origin.number i) (answering (Ok (replies.Arrived arrivals.Again)))
        (adding (Arrived parcel.origin parcel.content) (Ok (replies.Arrived arrivals.New)))))
    answers_in (commands.Settle number) =
        answers (commands.Settle number)
        (in_room _ _
        (λ i.
        cond (awaits_alike q.lines w.lines q.clock w.clock same.clock receives_same known_same number i) (adding (Settled number) (Ok (replies.Settled true)))
        (answering (Ok (replies.Settled false)))))
    answers_in (commands.Orphan target) =
        answers (commands.Orphan target) (in_room _ _ (λ i. adding (Orphaned target) (Ok (replies.Orphaned (waiting_alike q.lines w.lines q.clock w.clock same.clock receives_same known_same target i)))))
    answers_in commands.Close =
        answers commands.Close (λ i. cond (closed_same i) (uncounted_refusal QueueDoesNotExist) (adding Closed (Ok replies.Done)))
    answers_in commands.Look = record {
      event = refl;
      reply = λ i.
          Ok (replies.Looked (record {
            gauges = gauges_same i;
            settings = settings_same i;
            created = created_same i;
            modified = modified_same i;
            lines = 0;
            clock = same.clock i;
            closed = closed_same i;
          }));
    }
    answers_in commands.FirstParcel = answers commands.FirstParcel (λ i. answering (Ok (replies.Parcel (first_same i))))
