-- What the event of a command is about: it opens no queue and is no checkpoint, offers and lets leave visible messages, each once, gives live ones another due time, and confirms a transfer that waits.
use Rattle.std.proofs.Common.{◌≡◌, ℕ, suc, Bool, true, false, not, cond, eqb, List, [], ◌∷◌, Option, Some, None, refl, sym, ap, subst, inl, inr, ◌∙◌, arith}
use Rattle.std.specs.Prelude.{⊤, ◌≢◌, IfSome, nat_eq, nat_lt, nat_le, unwrap_or, filter, slice_get}
use Rattle.std.specs.Option.{option_map_or}
use Rattle.std.specs.List.{All, AllPairs}
use Rattle.std.proofs.lemmas.Option.{none-some, slice_get-get_or}
use Rattle.std.proofs.lemmas.List.Elements.{All-nil, All-cons, All-head, All-tail, All-take, All-filter}
use Rattle.std.proofs.lemmas.List.Kept.{AllPairs-cons}
use Rattle.std.proofs.lemmas.Bool.{false≢true, and_parts, eqb-true, eqb-false, ne_eqb, or_cases, or_parts, or_from}
use Rattle.message.specs.declared.fault.Fault.{Fault}
use Rattle.message.specs.declared.fault.Fault.TheVariants.{InvalidParameterValue, ReceiptHandleIsInvalid, MessageNotInflight, OverLimit}
use Rattle.message.specs.Content.{ContentText, content_size}
use Rattle.receipt_handle.specs.declared.handle.Handle.{Handle}
use Rattle.queue_config.specs.Settings.{settings_with}
use Rattle.journal.specs.declared.entry.Entry.{Entry}
use Rattle.journal.specs.declared.entry.Event.{Event}
use Rattle.journal.specs.declared.entry.Event.TheVariants.{Opened, Sent, Arrived, Received, Changed, Deleted, DeletedAgain, Purged, Set, Settled, Orphaned, Refused, Closed, Base}
use Rattle.queue_core.specs.declared.command.Command.{Command}
use Rattle.queue_core.specs.declared.command.Command.TheVariants as commands
use Rattle.queue_core.specs.declared.facts.Candidate.{Candidate}
use Rattle.queue_core.specs.declared.facts.Message.{Message}
use Rattle.queue_core.specs.declared.facts.MessageState.{MessageState}
use Rattle.queue_core.specs.declared.facts.MessageState.TheVariants.{Visible, InFlight}
use Rattle.queue_core.specs.Messages.{effect_of, contains_number, messages, settings_of, offers_number, opens, awaits_transfer, is_closed, has_accepted}
use Rattle.queue_core.specs.States.{is_live, waiting_state, same_state, is_in_state, message_numbered, is_numbered, receive_order}
use Rattle.queue_core.specs.Queue.{QueueHistory, Outcome, refusal, unless_refused, first_refusal, refused_or, done, send_outcome, receive_outcome, change_outcome, delete_outcome, change_refusal, is_valid_handle, is_latest_handle, holds_in_flight, passes_twelve_hours, holds_live, arrive_outcome, is_pending, settle_outcome, orphan_outcome, in_flight_count, is_exhausted, scanned_candidates, offered_candidates, leaving_candidates, received_event, numbers_of, policy_target, outcome_in}
use Rattle.queue_core.specs.Turns.{IsVisibleCandidate}
use Rattle.queue_core.specs.Legal.{IsCausedIn}
use Rattle.queue_core.proofs.commands.InPlaceLemmas.{added_in}
use Rattle.queue_core.proofs.Scans.{StandsAlone}
use Rattle.queue_core.proofs.entries.NumberLemmas.{or-false}
use Rattle.queue_core.proofs.OfferLemmas.{comes_to, scanned-take, scanned_once, order_visible, offered_visible}
use Rattle.queue_core.proofs.PushLemmas.{numbered-number}

-- what the event of a command is about
pub record IsAbout (q : QueueHistory) (event : Event ContentText) : Type 0 where
  pub unopened : opens event ≡ false
  pub alone : StandsAlone event
  pub rescheduled : (n : ℕ) → contains_number n (effect_of event).rescheduled ≡ true → is_numbered (λ m. is_live q.lines q.clock m) q.lines n ≡ true
  pub offered : (n : ℕ) → offers_number n event ≡ true → is_numbered (λ m. is_in_state Visible q.lines q.clock m) q.lines n ≡ true
  pub departing : (n : ℕ) → contains_number n (effect_of event).departures ≡ true → is_numbered (λ m. is_in_state Visible q.lines q.clock m) q.lines n ≡ true
  pub apart : (n : ℕ) → offers_number n event ≡ true → contains_number n (effect_of event).departures ≡ false
  pub departing_once : AllPairs (λ a b. nat_eq a b ≡ false) (effect_of event).departures
  pub offered_once : AllPairs (λ a b. nat_eq a b ≡ false) (effect_of event).offered
  pub confirmed : (n : ℕ) → (effect_of event).confirms n ≡ true → is_numbered (λ m. awaits_transfer q.lines m) q.lines n ≡ true

-- ---- numbers that differ

pub AllPairs-nil : {X : Type 0} (R : X → X → Type 0) → AllPairs R []
AllPairs-nil R = λ i j d h k. absurd (omega arith)

pub AllPairs-head : {X : Type 0} (R : X → X → Type 0) (x : X) (xs : List X) → AllPairs R (x ∷ xs) → All (R x) xs
AllPairs-head R x xs h = λ k d lt. h 0 (suc k) d (omega arith) (omega arith)

pub AllPairs-tail : {X : Type 0} (R : X → X → Type 0) (x : X) (xs : List X) → AllPairs R (x ∷ xs) → AllPairs R xs
AllPairs-tail R x xs h = λ i j d lt below. h (suc i) (suc j) d (omega arith) (omega arith)

-- each number once
abbrev AreApart : List ℕ → Type 0
AreApart [] = ⊤
AreApart (n ∷ ns) = (contains_number n ns ≡ false) × AreApart ns

absent-from_all : (n : ℕ) (ns : List ℕ) → All (λ k. n ≢ k) ns → contains_number n ns ≡ false
absent-from_all n [] h = refl
absent-from_all n (k ∷ ns) h =
    or_from (eqb k n) (contains_number n ns) (ne_eqb k n (λ e. All-head (λ i. n ≢ i) k ns h (sym e))) (absent-from_all n ns (All-tail (λ i. n ≢ i) k ns h))

all-from_absent : (n : ℕ) (ns : List ℕ) → contains_number n ns ≡ false → All (λ k. nat_eq n k ≡ false) ns
all-from_absent n [] h = All-nil (λ k. nat_eq n k ≡ false)
all-from_absent n (k ∷ ns) h =
    let parts = or_parts (eqb k n) (contains_number n ns) h in
    All-cons (λ i. nat_eq n i ≡ false) k ns (ne_eqb n k (λ e. eqb-false k n parts.0 (sym e))) (all-from_absent n ns parts.1)

AreApart-from_pairs : (ns : List ℕ) → AllPairs (λ a b. a ≢ b) ns → AreApart ns
AreApart-from_pairs [] h = tt
AreApart-from_pairs (n ∷ ns) h =
    (absent-from_all n ns (AllPairs-head (λ a b. a ≢ b) n ns h), AreApart-from_pairs ns (AllPairs-tail (λ a b. a ≢ b) n ns h))

pairs_from_AreApart : (ns : List ℕ) → AreApart ns → AllPairs (λ a b. nat_eq a b ≡ false) ns
pairs_from_AreApart [] h = AllPairs-nil (λ a b. nat_eq a b ≡ false)
pairs_from_AreApart (n ∷ ns) h = AllPairs-cons (λ a b. nat_eq a b ≡ false) n ns (all-from_absent n ns h.0) (pairs_from_AreApart ns h.1)

-- ---- some of the candidates

absent-cond : (b : Bool) (n : ℕ) (c : Candidate) (kept : List Candidate) → eqb c.message.number n ≡ false → contains_number n (numbers_of kept) ≡ false
    → contains_number n (numbers_of (cond b (c ∷ kept) kept)) ≡ false
absent-cond true n c kept h k = or_from (eqb c.message.number n) (contains_number n (numbers_of kept)) h k
absent-cond false n c kept h k = k

absent-kept : (p : Candidate → Bool) (n : ℕ) (cs : List Candidate) → contains_number n (numbers_of cs) ≡ false → contains_number n (numbers_of (filter p cs)) ≡ false
absent-kept p n [] h = refl
absent-kept p n (c ∷ cs) h =
    let parts = or_parts (eqb c.message.number n) (contains_number n (numbers_of cs)) h in
    absent-cond (p c) n c (filter p cs) parts.0 (absent-kept p n cs parts.1)

AreApart-cond : (b : Bool) (c : Candidate) (kept : List Candidate) → contains_number c.message.number (numbers_of kept) ≡ false → AreApart (numbers_of kept)
    → AreApart (numbers_of (cond b (c ∷ kept) kept))
AreApart-cond true c kept h k = (h, k)
AreApart-cond false c kept h k = k

AreApart-kept : (p : Candidate → Bool) (cs : List Candidate) → AreApart (numbers_of cs) → AreApart (numbers_of (filter p cs))
AreApart-kept p [] h = tt
AreApart-kept p (c ∷ cs) h = AreApart-cond (p c) c (filter p cs) (absent-kept p c.message.number cs h.0) (AreApart-kept p cs h.1)

apart-cond : (b : Bool) (n : ℕ) (c : Candidate) (left kept : List Candidate) → (contains_number n (numbers_of left) ≡ true → contains_number n (numbers_of kept) ≡ false)
    → (c.message.number ≡ n → contains_number n (numbers_of left) ≡ false) → (c.message.number ≡ n → contains_number n (numbers_of kept) ≡ false)
    → contains_number n (numbers_of (cond (not b) (c ∷ left) left)) ≡ true → contains_number n (numbers_of (cond b (c ∷ kept) kept)) ≡ false
apart-cond true n c left kept rest first second h =
    or_from (eqb c.message.number n) (contains_number n (numbers_of kept)) (ne_eqb c.message.number n (λ e. false≢true (sym (first e) ∙ h))) (rest h)
apart-cond false n c left kept rest first second h =
    elim (or_cases (eqb c.message.number n) (contains_number n (numbers_of left)) h) [ inl is ↦ second (eqb-true c.message.number n is) | inr is ↦ rest is ]

-- of candidates whose numbers differ, those that fail a test are others than those that pass it
apart-kept : (p : Candidate → Bool) (n : ℕ) (cs : List Candidate) → AreApart (numbers_of cs) → contains_number n (numbers_of (filter (λ c. not (p c)) cs)) ≡ true
    → contains_number n (numbers_of (filter (λ c. p c) cs)) ≡ false
apart-kept p n [] h k = absurd (false≢true k)
apart-kept p n (c ∷ cs) h k =
    let absent : c.message.number ≡ n → contains_number n (numbers_of cs) ≡ false = λ e. subst (λ (i : ℕ). contains_number i (numbers_of cs) ≡ false) e h.0 in
    apart-cond (p c) n c (filter (λ x. not (p x)) cs) (filter (λ x. p x) cs) (apart-kept p n cs h.1) (λ e. absent-kept (λ x. not (p x)) n cs (absent e)) (λ e. absent-kept (λ x. p x) n cs (absent e)) k

-- ---- the messages of candidates

module _ (lines : List (Entry ContentText)) (clock : ℕ) where
  visible_at : (c : Candidate) (k n : ℕ) → slice_get (messages lines) k ≡ Some c.message → k ≡ n → is_in_state Visible lines clock c.message ≡ true
      → is_numbered (λ m. is_in_state Visible lines clock m) lines n ≡ true
  visible_at c k n is same visible =
      subst (λ (i : ℕ). is_numbered (λ m. is_in_state Visible lines clock m) lines i ≡ true) same
      (ap (λ (o : Option Message). option_map_or (λ m. is_in_state Visible lines clock m) o false) is ∙ visible)

  visible_numbered : (c : Candidate) (n : ℕ) → IsVisibleCandidate lines clock c → c.message.number ≡ n → is_numbered (λ m. is_in_state Visible lines clock m) lines n ≡ true
  visible_numbered c n h e =
      let at = h.message in
      let is : slice_get (messages lines) at.0 ≡ Some c.message = slice_get-get_or (messages lines) at.0 c.message at.1 ∙ ap (λ (m : Message). Some m) at.2 in
      visible_at c at.0 n is (sym (numbered-number lines at.0 c.message is) ∙ e) h.visible

  candidates_visible : (n : ℕ) (cs : List Candidate) → All (λ c. IsVisibleCandidate lines clock c) cs → contains_number n (numbers_of cs) ≡ true
      → is_numbered (λ m. is_in_state Visible lines clock m) lines n ≡ true
  candidates_visible n [] h k = absurd (false≢true k)
  candidates_visible n (c ∷ cs) h k =
      elim (or_cases (eqb c.message.number n) (contains_number n (numbers_of cs)) k) [
        | inl is ↦ visible_numbered c n (All-head (λ x. IsVisibleCandidate lines clock x) c cs h) (eqb-true c.message.number n is)
        | inr is ↦ candidates_visible n cs (All-tail (λ x. IsVisibleCandidate lines clock x) c cs h) is
      ]

-- what is in a state is live
live_by_state : (live : Bool) (state own : MessageState) → option_map_or (λ s. same_state state s) (cond live (Some own) None) false ≡ true → live ≡ true
live_by_state true state own h = refl
live_by_state false state own h = absurd (false≢true h)

live_numbered : (state : MessageState) (lines : List (Entry ContentText)) (clock n : ℕ) → is_numbered (λ m. is_in_state state lines clock m) lines n ≡ true
    → is_numbered (λ m. is_live lines clock m) lines n ≡ true
live_numbered state lines clock n h = by_message (message_numbered lines n) h
  where
    by_message : (o : Option Message) → option_map_or (λ m. is_in_state state lines clock m) o false ≡ true → option_map_or (λ m. is_live lines clock m) o false ≡ true
    by_message None k = absurd (false≢true k)
    by_message (Some m) k = live_by_state (is_live lines clock m) state (waiting_state lines clock m) k

-- ---- a receive

module _ (q : QueueHistory) (maximum : ℕ) where
  scanned_visible : All (λ c. IsVisibleCandidate q.lines q.clock c) (scanned_candidates q maximum)
  scanned_visible =
      subst (λ (cs : List Candidate). All (λ c. IsVisibleCandidate q.lines q.clock c) cs) (scanned-take q maximum)
      (All-take (λ c. IsVisibleCandidate q.lines q.clock c) (comes_to q maximum) (receive_order q.lines q.clock) (order_visible q.lines q.clock))

  leaving_visible : All (λ c. IsVisibleCandidate q.lines q.clock c) (leaving_candidates q maximum)
  leaving_visible = All-filter (λ c. is_exhausted q c) (λ c. IsVisibleCandidate q.lines q.clock c) (scanned_candidates q maximum) scanned_visible

  scanned_apart : AreApart (numbers_of (scanned_candidates q maximum))
  scanned_apart = AreApart-from_pairs (numbers_of (scanned_candidates q maximum)) (scanned_once q maximum)

  offered_apart : AllPairs (λ a b. nat_eq a b ≡ false) (numbers_of (offered_candidates q maximum))
  offered_apart = pairs_from_AreApart (numbers_of (offered_candidates q maximum)) (AreApart-kept (λ c. not (is_exhausted q c)) (scanned_candidates q maximum) scanned_apart)

  leaving_apart : AllPairs (λ a b. nat_eq a b ≡ false) (numbers_of (leaving_candidates q maximum))
  leaving_apart = pairs_from_AreApart (numbers_of (leaving_candidates q maximum)) (AreApart-kept (λ c. is_exhausted q c) (scanned_candidates q maximum) scanned_apart)

about-parts : (q : QueueHistory) (timeout target : ℕ) (offered leaving : List ℕ)
    → ((n : ℕ) → contains_number n offered ≡ true → is_numbered (λ m. is_in_state Visible q.lines q.clock m) q.lines n ≡ true)
    → ((n : ℕ) → contains_number n leaving ≡ true → is_numbered (λ m. is_in_state Visible q.lines q.clock m) q.lines n ≡ true)
    → ((n : ℕ) → contains_number n offered ≡ true → contains_number n leaving ≡ false)
    → AllPairs (λ a b. nat_eq a b ≡ false) offered → AllPairs (λ a b. nat_eq a b ≡ false) leaving
    → IsAbout q (Received timeout offered leaving target)
about-parts q timeout target offered leaving there departing apart once leaving_once = record {
  unopened = refl;
  alone = refl;
  rescheduled = λ n is. live_numbered Visible q.lines q.clock n (there n is);
  offered = there;
  departing = departing;
  apart = apart;
  departing_once = leaving_once;
  offered_once = once;
  confirmed = λ n is. absurd (false≢true is);
}

pub about-received : (q : QueueHistory) (maximum : ℕ) (timeout : Option ℕ) → IsAbout q (received_event q maximum timeout)
about-received q maximum timeout =
    about-parts q (unwrap_or timeout (settings_of q.lines).visibility_timeout) (policy_target q) (numbers_of (offered_candidates q maximum)) (numbers_of (leaving_candidates q maximum))
    (λ n is. candidates_visible q.lines q.clock n (offered_candidates q maximum) (offered_visible q maximum) is)
    (λ n is. candidates_visible q.lines q.clock n (leaving_candidates q maximum) (leaving_visible q maximum) is)
    (λ n is. apart-kept (λ c. is_exhausted q c) n (scanned_candidates q maximum) (scanned_apart q maximum) is)
    (offered_apart q maximum) (leaving_apart q maximum)

-- ---- every other event

-- neither the opening of a queue nor a receive nor a change nor a checkpoint
abbrev IsPlain : Event ContentText → Type 0
IsPlain (Opened uid settings) = ⊥
IsPlain (Received timeout offered leaving target) = ⊥
IsPlain (Changed number timeout) = ⊥
IsPlain (Base base) = ⊥
IsPlain event = ⊤

about-plain : (q : QueueHistory) (event : Event ContentText) → IsPlain event
    → ((n : ℕ) → (effect_of event).confirms n ≡ true → is_numbered (λ m. awaits_transfer q.lines m) q.lines n ≡ true) → IsAbout q event
about-plain q (Opened uid settings) h k = absurd h
about-plain q (Received timeout offered leaving target) h k = absurd h
about-plain q (Changed number timeout) h k = absurd h
about-plain q (Base base) h k = absurd h
about-plain q event h k = record {
  unopened = refl;
  alone = refl;
  rescheduled = λ n is. absurd (false≢true is);
  offered = λ n is. absurd (false≢true is);
  departing = λ n is. absurd (false≢true is);
  apart = λ n is. refl;
  departing_once = AllPairs-nil (λ a b. nat_eq a b ≡ false);
  offered_once = AllPairs-nil (λ a b. nat_eq a b ≡ false);
  confirmed = k;
}

about-idle : (q : QueueHistory) (event : Event ContentText) → IsPlain event → ((n : ℕ) → (effect_of event).confirms n ≡ false) → IsAbout q event
about-idle q event h none = about-plain q event h (λ n is. absurd (false≢true (sym (none n) ∙ is)))

pub about-closed : (q : QueueHistory) → IsAbout q Closed
about-closed q = about-idle q Closed tt (λ n. refl)

-- a change is about a message that is live
about-changed : (q : QueueHistory) (number timeout : ℕ) → is_numbered (λ m. is_live q.lines q.clock m) q.lines number ≡ true → IsAbout q (Changed number timeout)
about-changed q number timeout live = record {
  unopened = refl;
  alone = refl;
  rescheduled = λ n is. subst (λ (i : ℕ). is_numbered (λ m. is_live q.lines q.clock m) q.lines i ≡ true) (eqb-true number n (sym (or-false (eqb number n)) ∙ is)) live;
  offered = λ n is. absurd (false≢true is);
  departing = λ n is. absurd (false≢true is);
  apart = λ n is. refl;
  departing_once = AllPairs-nil (λ a b. nat_eq a b ≡ false);
  offered_once = AllPairs-nil (λ a b. nat_eq a b ≡ false);
  confirmed = λ n is. absurd (false≢true is);
}

held-unrefused : (valid holds passes : Bool) → cond valid (cond holds (cond passes (Some InvalidParameterValue) None) (Some MessageNotInflight)) (Some ReceiptHandleIsInvalid) ≡ None → holds ≡ true
held-unrefused true true passes h = refl
held-unrefused true false passes h = absurd (none-some MessageNotInflight (sym h))
held-unrefused false holds passes h = absurd (none-some ReceiptHandleIsInvalid (sym h))

-- and so is what a change that is not refused is about
changed-live : (q : QueueHistory) (handle : Handle) (timeout : ℕ) → change_refusal q handle timeout ≡ None → is_numbered (λ m. is_live q.lines q.clock m) q.lines handle.number ≡ true
changed-live q handle timeout h =
    let held = held-unrefused (is_valid_handle q handle) (holds_in_flight q handle) (passes_twelve_hours q handle.number timeout) h in
    live_numbered InFlight q.lines q.clock handle.number (and_parts (is_numbered (λ m. is_in_state InFlight q.lines q.clock m) q.lines handle.number) (is_latest_handle q handle) held).0

-- ---- every command

-- what is to be shown where something is so of each event that a command adds, but for refusals
abbrev pub IsSoOfAdded : QueueHistory → (Event ContentText → Type 0) → Command → Type 0
IsSoOfAdded q P (commands.Send content delay) = P (Sent (unwrap_or delay (settings_of q.lines).delay_seconds) content)
IsSoOfAdded q P (commands.Receive maximum timeout) = P (received_event q maximum timeout)
IsSoOfAdded q P (commands.Change handle timeout) = change_refusal q handle timeout ≡ None → P (Changed handle.number timeout)
IsSoOfAdded q P (commands.Delete handle) = P (Deleted handle.number) × P DeletedAgain
IsSoOfAdded q P commands.Purge = P Purged
IsSoOfAdded q P (commands.Set wish target) = P (Set (settings_with (settings_of q.lines) wish target))
IsSoOfAdded q P (commands.Arrive parcel) = has_accepted q.lines parcel.origin.uid parcel.origin.number ≡ false → P (Arrived parcel.origin parcel.content)
IsSoOfAdded q P (commands.Settle number) = is_pending q number ≡ true → P (Settled number)
IsSoOfAdded q P (commands.Orphan target) = P (Orphaned target)
IsSoOfAdded q P commands.FirstParcel = ⊤
IsSoOfAdded q P commands.Close = P Closed
IsSoOfAdded q P commands.Look = ⊤

module _ (P : Event ContentText → Type 0) where
  pub added-unless_refused : (r : Option Fault) (o : Outcome) → IfSome o.event P → IfSome (unless_refused r o).event P
  added-unless_refused None o h = h
  added-unless_refused (Some fault) o h = tt

  pub added-cond : (b : Bool) (o p : Outcome) → (b ≡ true → IfSome o.event P) → (b ≡ false → IfSome p.event P) → IfSome (cond b o p).event P
  added-cond true o p h k = h refl
  added-cond false o p h k = k refl

  added-refused_or : (r : Option Fault) (o : Outcome) → ((fault : Fault) → P (Refused fault)) → (r ≡ None → IfSome o.event P) → IfSome (refused_or r o).event P
  added-refused_or None o f h = h refl
  added-refused_or (Some fault) o f h = f fault

  added-deletion : (b : Bool) (number : ℕ) → P (Deleted number) × P DeletedAgain → IfSome (done (cond b (Deleted number) DeletedAgain)).event P
  added-deletion true number h = h.0
  added-deletion false number h = h.1

  module _ (q : QueueHistory) (refused : (fault : Fault) → P (Refused fault)) where
    pub added : (command : Command) → IsSoOfAdded q P command → IfSome (outcome_in q command).event P
    added (commands.Send content delay) h =
        added-unless_refused (first_refusal q) (send_outcome q content delay)
        (added-cond (nat_lt (settings_of q.lines).maximum_message_size (content_size content)) (refusal InvalidParameterValue) _ (λ large. refused InvalidParameterValue) (λ fits. h))
    added (commands.Receive maximum timeout) h =
        added-unless_refused (first_refusal q) (receive_outcome q maximum timeout)
        (added-cond (nat_le q.limits.in_flight (in_flight_count q)) (refusal OverLimit) _ (λ full. refused OverLimit) (λ room. h))
    added (commands.Change handle timeout) h =
        added-unless_refused (first_refusal q) (change_outcome q handle timeout) (added-refused_or (change_refusal q handle timeout) (done (Changed handle.number timeout)) refused h)
    added (commands.Delete handle) h =
        added-unless_refused (first_refusal q) (delete_outcome q handle)
        (added-cond (is_valid_handle q handle) (done (cond (holds_live q handle) (Deleted handle.number) DeletedAgain)) (refusal ReceiptHandleIsInvalid)
        (λ valid. added-deletion (holds_live q handle) handle.number h) (λ invalid. refused ReceiptHandleIsInvalid))
    added commands.Purge h = added-unless_refused (first_refusal q) (done Purged) h
    added (commands.Set wish target) h = added-unless_refused (first_refusal q) (done (Set (settings_with (settings_of q.lines) wish target))) h
    added (commands.Arrive parcel) h =
        added-unless_refused (first_refusal q) (arrive_outcome q parcel) (added-cond (has_accepted q.lines parcel.origin.uid parcel.origin.number) _ _ (λ again. tt) h)
    added (commands.Settle number) h = added-unless_refused (first_refusal q) (settle_outcome q number) (added-cond (is_pending q number) _ _ h (λ none. tt))
    added (commands.Orphan target) h = added-unless_refused (first_refusal q) (orphan_outcome q target) h
    added commands.FirstParcel h = tt
    added commands.Close h = added-cond (is_closed q.lines) _ (done Closed) (λ closed. tt) (λ open_still. h)
    added commands.Look h = tt

-- what each is about
about-each : (q : QueueHistory) (command : Command) → IsSoOfAdded q (IsAbout q) command
about-each q (commands.Receive maximum timeout) = about-received q maximum timeout
about-each q (commands.Change handle timeout) = λ unrefused. about-changed q handle.number timeout (changed-live q handle timeout unrefused)
about-each q (commands.Delete handle) = (about-idle q (Deleted handle.number) tt (λ n. refl), about-idle q DeletedAgain tt (λ n. refl))
about-each q (commands.Arrive parcel) = λ first. about-idle q (Arrived parcel.origin parcel.content) tt (λ n. refl)
about-each q (commands.Settle number) = λ pending.
    about-plain q (Settled number) tt (λ n is. subst (λ (i : ℕ). is_numbered (λ m. awaits_transfer q.lines m) q.lines i ≡ true) (eqb-true number n is) pending)
about-each q commands.FirstParcel = tt
about-each q commands.Look = tt
about-each q command = about-idle q _ tt (λ n. refl)

pub about-outcome : (q : QueueHistory) (command : Command) → IfSome (outcome_in q command).event (IsAbout q)
about-outcome q command = added (IsAbout q) q (λ fault. about-idle q (Refused fault) tt (λ n. refl)) command (about-each q command)

pub about-caused : (q : QueueHistory) (event : Event ContentText) → IsCausedIn q event → IsAbout q event
about-caused q event caused = subst (λ (o : Option (Event ContentText)). IfSome o (IsAbout q)) (added_in q event caused) (about-outcome q caused.command)
