-- The transfers that are not confirmed are of the messages that wait for their dead-letter queue, each once.
use Rattle.std.proofs.Common.{◌≡◌, ℕ, ◌<◌, Bool, true, false, not, cond, ◌&&◌, ◌||◌, eqb, List, [], ◌∷◌, ◌++◌, map, Option, Some, None, refl, sym, ap, subst, inl, inr, ◌∙◌, append_assoc, arith}
use Rattle.std.specs.Prelude.{◌⊎◌, nat_eq, filter}
use Rattle.std.specs.Option.{option_map_or}
use Rattle.std.specs.List.{list_any, All, AllPairs, Contains}
use Rattle.std.proofs.lemmas.List.{append-nil}
use Rattle.std.proofs.lemmas.List.Elements.{All-head, All-tail, All-append, All-weaker, All-map, All-contains, All-contains_itself, filter-append, filter_agree, Contains-append_left, Contains-append_right, Contains-append_cases, Contains-push}
use Rattle.std.proofs.lemmas.List.Folds.{list_any-append, list_any-from_Any}
use Rattle.std.proofs.lemmas.List.Kept.{AllPairs-cons, AllPairs-filter}
use Rattle.std.proofs.lemmas.Bool.{false≢true, true≢false, not-true, not_from_false, eqb-true, eq-eqb, ne_eqb, or_cases, and_parts}
use Rattle.message.specs.Content.{ContentText}
use Rattle.queue_config.specs.Settings.{QueueSettings}
use Rattle.journal.specs.declared.entry.Entry.{Entry}
use Rattle.journal.specs.declared.entry.Event.{Event}
use Rattle.journal.specs.declared.entry.Event.TheVariants.{Opened, Received}
use Rattle.queue_core.specs.declared.facts.Message.{Message}
use Rattle.queue_core.specs.declared.facts.Course.{Course}
use Rattle.queue_core.specs.declared.facts.Transfer.{Transfer}
use Rattle.queue_core.specs.declared.facts.Status.{Status}
use Rattle.queue_core.specs.declared.facts.Status.TheVariants.{Present, Removed, Waiting, Transferred}
use Rattle.queue_core.specs.declared.facts.MessageState.{MessageState}
use Rattle.queue_core.specs.declared.facts.MessageState.TheVariants.{Visible}
use Rattle.queue_core.specs.Messages.{effect_of, contains_number, is_expired, is_present_status, is_present, status_after, course_of, loses, closes, departing, departures, ends_transfer, pending_transfers}
use Rattle.queue_core.specs.States.{is_live, waiting_state, same_state, is_in_state, is_numbered, message_numbered}
use Rattle.queue_core.specs.Queue.{QueueHistory}
use Rattle.queue_core.specs.Legal.{IsWhole, IsOpening}
use Rattle.queue_core.proofs.PushLemmas.{or_false, IsNew, numbered-cases, numbered-kept, course-kept, new_course, new_begun}
use Rattle.queue_core.proofs.OfferLemmas.{Contains-filter, Contains-from_filter}
use Rattle.queue_core.proofs.entries.PairLemmas.{AllPairs-map}
use Rattle.queue_core.proofs.CauseLemmas.{AllPairs-nil, AllPairs-head, AllPairs-tail, IsAbout, about-caused}
use Rattle.queue_core.proofs.entries.AlongLemmas.{holds_along}
use Rattle.queue_core.proofs.AloneLemmas.{departures-alone}

-- ---- one entry more

filter_twice-cond : {X : Type 0} (b : Bool) (q : X → Bool) (x : X) (kept both : List X) → filter q kept ≡ both → filter q (cond b (x ∷ kept) kept) ≡ cond (b && q x) (x ∷ both) both
filter_twice-cond true q x kept both h = ap (λ (ys : List _). cond (q x) (x ∷ ys) ys) h
filter_twice-cond false q x kept both h = h

filter_twice : {X : Type 0} (p q : X → Bool) (xs : List X) → filter q (filter p xs) ≡ filter (λ x. p x && q x) xs
filter_twice p q [] = refl
filter_twice p q (x ∷ xs) = filter_twice-cond (p x) q x (filter p xs) (filter (λ y. p y && q y) xs) (filter_twice p q xs)

pub filter_all : {X : Type 0} (xs : List X) → filter (λ x. true) xs ≡ xs
filter_all [] = refl
filter_all (x ∷ xs) = ap (λ (ys : List _). x ∷ ys) (filter_all xs)

not_or : (a b : Bool) → not (a || b) ≡ (not a && not b)
not_or true b = refl
not_or false b = refl

abbrev is_open : List (Entry ContentText) → Transfer → Bool
is_open es t = not (list_any (λ later. ends_transfer t later.event) es)

open-append : (es fs : List (Entry ContentText)) (t : Transfer) → is_open (es ++ fs) t ≡ (is_open es t && is_open fs t)
open-append es fs t =
    ap not (list_any-append (λ later. ends_transfer t later.event) es fs) ∙ not_or (list_any (λ later. ends_transfer t later.event) es) (list_any (λ later. ends_transfer t later.event) fs)

pub pending_transfers-append : (xs ys : List (Entry ContentText)) → pending_transfers (xs ++ ys) ≡ filter (is_open ys) (pending_transfers xs) ++ pending_transfers ys
pending_transfers-append [] ys = refl
pending_transfers-append (x ∷ xs) ys =
    let kept : Transfer → Bool = is_open ys in
    let begun : List Transfer = departures x.event in
    let here : filter (is_open (xs ++ ys)) begun ≡ filter kept (filter (is_open xs) begun) =
    filter_agree (is_open (xs ++ ys)) (λ t. is_open xs t && kept t) (open-append xs ys) begun ∙ sym (filter_twice (is_open xs) kept begun) in
    ap (λ (ts : List Transfer). ts ++ pending_transfers (xs ++ ys)) here
    ∙ ap (λ (ts : List Transfer). filter kept (filter (is_open xs) begun) ++ ts) (pending_transfers-append xs ys)
    ∙ sym (append_assoc (filter kept (filter (is_open xs) begun)) (filter kept (pending_transfers xs)) (pending_transfers ys))
    ∙ ap (λ (ts : List Transfer). ts ++ pending_transfers ys) (sym (filter-append kept (filter (is_open xs) begun) (pending_transfers xs)))

pub pending_transfers-push : (lines : List (Entry ContentText)) (e : Entry ContentText)
    → pending_transfers (lines ++ e ∷ []) ≡ filter (λ t. not (ends_transfer t e.event)) (pending_transfers lines) ++ departures e.event
pending_transfers-push lines e =
    pending_transfers-append lines (e ∷ [])
    ∙ (ap (λ (ts : List Transfer). ts ++ (filter (λ t. true) (departures e.event) ++ []))
    (filter_agree (is_open (e ∷ [])) (λ t. not (ends_transfer t e.event)) (λ t. ap not (or_false (ends_transfer t e.event))) (pending_transfers lines))
    ∙ ap (λ (ts : List Transfer). filter (λ t. not (ends_transfer t e.event)) (pending_transfers lines) ++ ts)
    (append-nil (filter (λ t. true) (departures e.event)) ∙ filter_all (departures e.event)))

-- ---- elements of lists

pub Contains-nil : {X : Type 0} (x : X) → Contains [] x → ⊥
Contains-nil x h = let lt : h.0 < 0 = h.1 in omega arith

AllPairs-append : {X : Type 0} (R : X → X → Type 0) (xs ys : List X) → AllPairs R xs → AllPairs R ys → All (λ x. All (R x) ys) xs → AllPairs R (xs ++ ys)
AllPairs-append R [] ys h k across = k
AllPairs-append R (x ∷ xs) ys h k across =
    AllPairs-cons R x (xs ++ ys) (All-append (R x) xs ys (AllPairs-head R x xs h) (All-head (λ y. All (R y) ys) x xs across))
    (AllPairs-append R xs ys (AllPairs-tail R x xs h) k (All-tail (λ y. All (R y) ys) x xs across))

-- ---- the transfers that an event begins

abbrev transfer : ℕ → ℕ → Transfer
transfer target number = record { number = number; target = target }

pub contains-number : (n : ℕ) (ns : List ℕ) → Contains ns n → contains_number n ns ≡ true
contains-number n ns h = list_any-from_Any (λ k. eqb k n) ns (h.0, n, h.1, h.2, eq-eqb n n refl)

Contains-transfer : (target n : ℕ) (ns : List ℕ) → contains_number n ns ≡ true → Contains (map (transfer target) ns) (transfer target n)
Contains-transfer target n [] h = absurd (false≢true h)
Contains-transfer target n (k ∷ ns) h =
    elim (or_cases (eqb k n) (contains_number n ns) h) [
      | inl is ↦ Contains-append_left (transfer target k ∷ []) (map (transfer target) ns) (transfer target n)
          (subst (λ (i : ℕ). Contains (transfer target k ∷ []) (transfer target i)) (eqb-true k n is) (Contains-push [] (transfer target k)))
      | inr later ↦ Contains-append_right (transfer target k ∷ []) (map (transfer target) ns) (transfer target n) (Contains-transfer target n ns later)
    ]

pub departed : (event : Event ContentText) (t : Transfer) → Contains (departing event) t → (contains_number t.number (effect_of event).departures ≡ true) × (t.target ≡ (effect_of event).target)
departed event t h =
    let ns : List ℕ = (effect_of event).departures in
    let target : ℕ = (effect_of event).target in
    All-contains (λ x. (contains_number x.number ns ≡ true) × (x.target ≡ target)) (departing event) t
    (All-map (λ x. (contains_number x.number ns ≡ true) × (x.target ≡ target)) (transfer target) ns
    (All-weaker (Contains ns) (λ n. (contains_number n ns ≡ true) × (target ≡ target)) (λ n is. (contains-number n ns is, refl)) ns (All-contains_itself ns))) h

-- ---- where a message stands

-- an event that lets messages leave removes none
leaves-removes : (n : ℕ) (event : Event ContentText) → contains_number n (effect_of event).departures ≡ true → (effect_of event).removes n ≡ false
leaves-removes n (Received timeout offered leaving target) h = refl
leaves-removes n event h = absurd (false≢true h)

pub status-leaving : (n : ℕ) (event : Event ContentText) → contains_number n (effect_of event).departures ≡ true → status_after n Present event ≡ Waiting (effect_of event).target
status-leaving n event h = rw (leaves-removes n event h, h) refl

kept_waiting : (confirms loses closes : Bool) (here : Status) → (confirms || loses || closes) ≡ false → cond loses Present (cond confirms Transferred (cond closes Removed here)) ≡ here
kept_waiting true loses closes here h = absurd (true≢false h)
kept_waiting false true closes here h = absurd (true≢false h)
kept_waiting false false true here h = absurd (true≢false h)
kept_waiting false false false here h = refl

pub status-kept : (t : Transfer) (event : Event ContentText) → ends_transfer t event ≡ false → status_after t.number (Waiting t.target) event ≡ Waiting t.target
status-kept t event h = kept_waiting ((effect_of event).confirms t.number) (loses t.target event) (closes event) (Waiting t.target) h

was_kept : (confirms loses closes : Bool) (own target : ℕ) → cond loses Present (cond confirms Transferred (cond closes Removed (Waiting own))) ≡ Waiting target
    → ((confirms || loses || closes) ≡ false) × (own ≡ target)
was_kept confirms true closes own target h = absurd cc
was_kept true false closes own target h = absurd cc
was_kept false false true own target h = absurd cc
was_kept false false false own target h = (refl, cc)

has_left : (removes leaves : Bool) (own target : ℕ) → cond removes Removed (cond leaves (Waiting own) Present) ≡ Waiting target → (leaves ≡ true) × (own ≡ target)
has_left true leaves own target h = absurd cc
has_left false true own target h = (refl, cc)
has_left false false own target h = absurd cc

removed_not_waiting : (closes : Bool) (target : ℕ) → cond closes Removed Transferred ≡ Waiting target → ⊥
removed_not_waiting true target h = absurd cc
removed_not_waiting false target h = absurd cc

-- a message that waits after an event has left by it, or waited before and the event did not end its transfer
waits_since : (n target : ℕ) (status : Status) (event : Event ContentText) → status_after n status event ≡ Waiting target
    → ((contains_number n (effect_of event).departures ≡ true) × ((effect_of event).target ≡ target)) ⊎ ((status ≡ Waiting target) × (ends_transfer (transfer target n) event ≡ false))
waits_since n target Present event h = inl (has_left ((effect_of event).removes n) (contains_number n (effect_of event).departures) (effect_of event).target target h)
waits_since n target Removed event h = absurd cc
waits_since n target (Waiting own) event h =
    let both = was_kept ((effect_of event).confirms n) (loses own event) (closes event) own target h in
    inr (ap (λ (i : ℕ). Waiting i) both.1, subst (λ (i : ℕ). ends_transfer (transfer i n) event ≡ false) both.1 both.0)
waits_since n target Transferred event h = absurd (removed_not_waiting (closes event) target h)

present-status : (status : Status) → is_present_status status ≡ true → status ≡ Present
present-status Present h = refl
present-status Removed h = absurd (false≢true h)
present-status (Waiting target) h = absurd (false≢true h)
present-status Transferred h = absurd (false≢true h)

live_in_state : (live : Bool) (wanted state : MessageState) → option_map_or (λ s. same_state wanted s) (cond live (Some state) None) false ≡ true → live ≡ true
live_in_state true wanted state h = refl
live_in_state false wanted state h = absurd (false≢true h)

not_both_statuses : (status : Status) (target : ℕ) → status ≡ Present → status ≡ Waiting target → ⊥
not_both_statuses status target h k = let e : Present ≡ Waiting target = sym h ∙ k in absurd cc

-- a message of a number that stands so
abbrev pub Stands : List (Entry ContentText) → ℕ → Status → Type 0
Stands lines n status = (m : Message) × (message_numbered lines n ≡ Some m) × ((course_of lines m).status ≡ status)

module _ (lines : List (Entry ContentText)) where
  pub live-present : (clock : ℕ) (m : Message) → is_live lines clock m ≡ true → (course_of lines m).status ≡ Present
  live-present clock m h = present-status (course_of lines m).status (and_parts (is_present lines m) (not (is_expired lines clock m)) h).0

  visible-present : (clock : ℕ) (m : Message) → is_in_state Visible lines clock m ≡ true → (course_of lines m).status ≡ Present
  visible-present clock m h = live-present clock m (live_in_state (is_live lines clock m) Visible (waiting_state lines clock m) h)

  present_at : (clock n : ℕ) (o : Option Message) → message_numbered lines n ≡ o → option_map_or (λ m. is_in_state Visible lines clock m) o false ≡ true → Stands lines n Present
  present_at clock n None is h = absurd (false≢true h)
  present_at clock n (Some m) is h = (m, is, visible-present clock m h)

  pub present_numbered : (clock n : ℕ) → is_numbered (λ m. is_in_state Visible lines clock m) lines n ≡ true → Stands lines n Present
  present_numbered clock n h = present_at clock n (message_numbered lines n) refl h

  apart_from_present : (n target : ℕ) → Stands lines n (Waiting target) → Stands lines n Present → ⊥
  apart_from_present n target waits here =
      let one : Message = waits.0 in
      let other : Message = here.0 in
      let same : one ≡ other = (let a : message_numbered lines n ≡ Some one = waits.1 in let b : message_numbered lines n ≡ Some other = here.1 in cc) in
      let status : (course_of lines other).status ≡ Waiting target = subst (λ (m : Message). (course_of lines m).status ≡ Waiting target) same waits.2 in
      not_both_statuses (course_of lines other).status target here.2 status

-- ---- one entry more of a legal journal

-- they are of the messages that wait for their dead-letter queue, each once
pub record IsPendingOf (lines : List (Entry ContentText)) : Type 0 where
  pub waiting : (t : Transfer) → Contains (pending_transfers lines) t → (m : Message) × (message_numbered lines t.number ≡ Some m) × ((course_of lines m).status ≡ Waiting t.target)
  pub pending : (n target : ℕ) (m : Message) → message_numbered lines n ≡ Some m → (course_of lines m).status ≡ Waiting target → Contains (pending_transfers lines) (record { number = n; target = target })
  pub once : AllPairs (λ (a b : Transfer). nat_eq a.number b.number ≡ false) (pending_transfers lines)

module _ (lines : List (Entry ContentText)) (e : Entry ContentText) where
  abbrev after : List (Entry ContentText)
  after = lines ++ e ∷ []

  abbrev still_open : List Transfer
  still_open = filter (λ t. not (ends_transfer t e.event)) (pending_transfers lines)

  pub status-push : (n : ℕ) (m : Message) → message_numbered lines n ≡ Some m → (course_of after m).status ≡ status_after n (course_of lines m).status e.event
  status-push n m h = ap (λ (c : Course). c.status) (course-kept lines e n m h)

  stands-push : (n : ℕ) (old new : Status) → status_after n old e.event ≡ new → Stands lines n old → Stands after n new
  stands-push n old new is h = (h.0, numbered-kept lines e n h.0 h.1, status-push n h.0 h.1 ∙ ap (λ (s : Status). status_after n s e.event) h.2 ∙ is)

abbrev HaveOtherNumbers : Transfer → Transfer → Type 0
HaveOtherNumbers a b = nat_eq a.number b.number ≡ false

module _ (q : QueueHistory) (e : Entry ContentText) (is : IsAbout q e.event) (before : IsPendingOf q.lines) where
  was_pending : (t : Transfer) → Contains (still_open q.lines e) t → Contains (pending_transfers q.lines) t × (not (ends_transfer t e.event) ≡ true)
  was_pending t h = Contains-from_filter (λ x. not (ends_transfer x e.event)) (pending_transfers q.lines) t h

  -- what leaves was there
  there_before : (t : Transfer) → Contains (departing e.event) t → Stands q.lines t.number Present
  there_before t h = present_numbered q.lines q.clock t.number (is.departing t.number (departed e.event t h).0)

  waiting_after : (t : Transfer) → Contains (still_open q.lines e) t ⊎ Contains (departing e.event) t → Stands (after q.lines e) t.number (Waiting t.target)
  waiting_after t (inl h) =
      let parts = was_pending t h in
      stands-push q.lines e t.number (Waiting t.target) (Waiting t.target) (status-kept t e.event (not-true (ends_transfer t e.event) parts.1)) (before.waiting t parts.0)
  waiting_after t (inr h) =
      let parts = departed e.event t h in
      stands-push q.lines e t.number Present (Waiting t.target) (status-leaving t.number e.event parts.0 ∙ ap (λ (i : ℕ). Waiting i) (sym parts.1)) (there_before t h)

  pending_old : (n target : ℕ) (m : Message) → message_numbered q.lines n ≡ Some m
      → ((contains_number n (effect_of e.event).departures ≡ true) × ((effect_of e.event).target ≡ target)) ⊎ (((course_of q.lines m).status ≡ Waiting target) × (ends_transfer (transfer target n) e.event ≡ false))
      → Contains (still_open q.lines e ++ departing e.event) (transfer target n)
  pending_old n target m h (inl left) =
      Contains-append_right (still_open q.lines e) (departing e.event) (transfer target n)
      (subst (λ (i : ℕ). Contains (departing e.event) (transfer i n)) left.1 (Contains-transfer (effect_of e.event).target n (effect_of e.event).departures left.0))
  pending_old n target m h (inr waits) =
      Contains-append_left (still_open q.lines e) (departing e.event) (transfer target n)
      (Contains-filter (λ t. not (ends_transfer t e.event)) (pending_transfers q.lines) (transfer target n) (not_from_false (ends_transfer (transfer target n) e.event) waits.1) (before.pending n target m h waits.0))

  pending_after : (n target : ℕ) (m : Message) → (message_numbered q.lines n ≡ Some m) ⊎ IsNew q.lines e n m
      → (course_of (after q.lines e) m).status ≡ Waiting target → Contains (still_open q.lines e ++ departing e.event) (transfer target n)
  pending_after n target m (inl old) h =
      pending_old n target m old (waits_since n target (course_of q.lines m).status e.event (sym (status-push q.lines e n m old) ∙ h))
  pending_after n target m (inr new) h = absurd (not_both_statuses (course_of (after q.lines e) m).status target (ap (λ (c : Course). c.status) (new_course q.lines e n m new) ∙ new_begun q.lines e n m is.alone new) h)

  apart_begun : (t d : Transfer) → Contains (still_open q.lines e) t → Contains (departing e.event) d → HaveOtherNumbers t d
  apart_begun t d h k =
      ne_eqb t.number d.number
      (λ same. apart_from_present q.lines d.number t.target (subst (λ (i : ℕ). Stands q.lines i (Waiting t.target)) same (before.waiting t (was_pending t h).0)) (there_before d k))

  once_after : AllPairs HaveOtherNumbers (still_open q.lines e ++ departing e.event)
  once_after =
      AllPairs-append HaveOtherNumbers (still_open q.lines e) (departing e.event) (AllPairs-filter HaveOtherNumbers (λ t. not (ends_transfer t e.event)) (pending_transfers q.lines) before.once)
      (AllPairs-map (transfer (effect_of e.event).target) HaveOtherNumbers (effect_of e.event).departures is.departing_once)
      (All-weaker (Contains (still_open q.lines e)) (λ t. All (HaveOtherNumbers t) (departing e.event))
      (λ t h. All-weaker (Contains (departing e.event)) (HaveOtherNumbers t) (λ d k. apart_begun t d h k) (departing e.event) (All-contains_itself (departing e.event)))
      (still_open q.lines e) (All-contains_itself (still_open q.lines e)))

  pub IsPendingOf-push : IsPendingOf (after q.lines e)
  IsPendingOf-push =
      let push = pending_transfers-push q.lines e ∙ ap (λ (ts : List Transfer). still_open q.lines e ++ ts) (departures-alone e.event is.alone) in
      record {
        waiting = λ t h. waiting_after t (Contains-append_cases (still_open q.lines e) (departing e.event) t (subst (λ (ts : List Transfer). Contains ts t) push h));
        pending = λ n target m h w.
            subst (λ (ts : List Transfer). Contains ts (transfer target n)) (sym push)
            (pending_after n target m (numbered-cases q.lines e n m h) w);
        once = subst (λ (ts : List Transfer). AllPairs HaveOtherNumbers ts) (sym push) once_after;
      }

-- ---- legal journals

pub IsPendingOf-opened : (at uid : ℕ) (settings : QueueSettings) → IsPendingOf (record { at = at; event = Opened uid settings } ∷ [])
IsPendingOf-opened at uid settings = record {
  waiting = λ t h. absurd (Contains-nil t h);
  pending = λ n target m h w. absurd cc;
  once = AllPairs-nil HaveOtherNumbers;
}

IsPendingOf-opening : (uid : ℕ) (e : Entry ContentText) → IsOpening uid e.event → IsPendingOf (e ∷ [])
IsPendingOf-opening uid e h =
    subst (λ (event : Event ContentText). IsPendingOf (record { at = e.at; event = event } ∷ [])) (sym h.opened) (IsPendingOf-opened e.at uid h.settings)

pub pending_legal : (q : QueueHistory) → IsWhole q → IsPendingOf q.lines
pending_legal q legal =
    holds_along q (λ lines. IsPendingOf lines) (IsPendingOf-opening q.uid)
    (λ lines e caused before. IsPendingOf-push (record q { clock = e.at; lines = lines }) e (about-caused (record q { clock = e.at; lines = lines }) e.event caused) before) q.lines legal.caused
