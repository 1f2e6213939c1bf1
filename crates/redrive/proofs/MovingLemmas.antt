-- A parcel that was handed over and accepted still waits first at its source, so that it can be confirmed.
use Rattle.std.proofs.Common.{◌≡◌, ℕ, ◌+◌, ◌≤◌, Bool, true, false, cond, List, [], ◌∷◌, ◌++◌, Option, Some, None, Result, Ok, Err, refl, sym, ap, subst, ◌∙◌, arith}
use Rattle.std.specs.Prelude.{nat_eq, filter, is_some, option_map, option_and_then}
use Rattle.std.specs.Option.{option_map_or}
use Rattle.std.proofs.lemmas.Bool.{eq-eqb, or_right, false≢true}
use Rattle.std.proofs.lemmas.List.{append-nil}
use Rattle.std.proofs.lemmas.Option.{none-some, option_and_then_some}
use Rattle.message.specs.declared.fault.Fault.{Fault}
use Rattle.message.specs.declared.fault.Fault.TheVariants.{QueueDoesNotExist}
use Rattle.message.specs.Fault.{Meets}
use Rattle.message.specs.Content.{ContentText}
use Rattle.journal.specs.declared.entry.Event.TheVariants.{Arrived}
use Rattle.queue_core.specs.declared.command.Command.{Command}
use Rattle.queue_core.specs.declared.command.Command.TheVariants.{Arrive, Orphan}
use Rattle.queue_core.specs.declared.facts.Message.{Message}
use Rattle.queue_core.specs.declared.facts.Transfer.{Transfer}
use Rattle.queue_core.specs.declared.parcel.Parcel.{Parcel}
use Rattle.queue_core.specs.declared.parcel.Arrival.TheVariants as arrivals
use Rattle.queue_core.specs.declared.reply.Reply.{Reply}
use Rattle.queue_core.specs.declared.reply.Reply.TheVariants as replies
use Rattle.queue_core.specs.Messages.{content_of, pending_transfers, accepts, has_accepted}
use Rattle.queue_core.specs.States.{message_numbered}
use Rattle.queue_core.specs.Queue.{QueueHistory, Outcome, adding, answering, at_moment, first_refusal, unless_refused, rebased_where, orphan_outcome, outcome_at, with_optional_event, after_answer, parcel_of, transferred_parcel, first_transfer, first_parcel_of}
use Rattle.queue_core.proofs.SoundLemmas.{IsSound}
use Rattle.queue_core.proofs.WholeLemmas.{acting_alike, parcel_alike}
use Rattle.redrive.specs.declared.moved.Moved.{Moved}
use Rattle.redrive.specs.declared.moved.Moved.TheVariants as moved
use Rattle.redrive.specs.House.{House, queue_of_uid, has_queue, first_parcel_in, AddressedCommand, delivery_of, as_moved, delivered_answer, arrive_answer, house_after_command, house_after_hand_over, needs_confirmation, is_accepted, accepted_number, confirm_answer, confirm_takes_memory, house_after_confirm, answer_of_halves, IsHandedOver, IsMoved}
use Rattle.redrive.specs.Cost.{hand_over_ticks, confirm_ticks, CostsMove}
use Rattle.queue_core.proofs.PushLemmas.{Line, accepted-push, content-push, numbered-kept}
use Rattle.queue_core.proofs.PendingLemmas.{filter_all, pending_transfers-push}
use Rattle.redrive.proofs.RegistryLemmas.{after_answer-uid, changed-queue}

-- ---- what an arrival leaves

arrived-accepts : (p : Parcel) → accepts p.origin.uid p.origin.number (Arrived p.origin p.content) ≡ true
arrived-accepts p = rw (eq-eqb p.origin.uid p.origin.uid refl, eq-eqb p.origin.number p.origin.number refl) refl

module _ (at : ℕ) (arrived : Parcel) where
  abbrev arrival : Line
  arrival = record { at = at; event = Arrived arrived.origin arrived.content }

  arrival-accepts : (lines : List Line) → has_accepted (lines ++ arrival ∷ []) arrived.origin.uid arrived.origin.number ≡ true
  arrival-accepts lines =
      accepted-push lines arrival arrived.origin.uid arrived.origin.number
      ∙ or_right (has_accepted lines arrived.origin.uid arrived.origin.number) (accepts arrived.origin.uid arrived.origin.number arrival.event) (arrived-accepts arrived)

  -- it begins and ends no transfer
  pending-arrival : (lines : List Line) → pending_transfers (lines ++ arrival ∷ []) ≡ pending_transfers lines
  pending-arrival lines = pending_transfers-push lines arrival ∙ append-nil (filter (λ t. true) (pending_transfers lines)) ∙ filter_all (pending_transfers lines)

  transferred-arrival : (q : QueueHistory) (t : Transfer) (p : Parcel) → transferred_parcel q t ≡ Some p → transferred_parcel (record q { lines = q.lines ++ arrival ∷ [] }) t ≡ Some p
  transferred-arrival q t p h =
      option_and_then_some _ (message_numbered q.lines t.number) p h (λ m is there. rw (numbered-kept q.lines arrival t.number m is) (with_content m (content_of q.lines m) refl there))
    where
      with_content : (m : Message) (o : Option ContentText) → content_of q.lines m ≡ o → option_map (λ content. parcel_of q t m content) o ≡ Some p
          → option_map (λ content. parcel_of q t m content) (content_of (q.lines ++ arrival ∷ []) m) ≡ Some p
      with_content m None here is = absurd (none-some p is)
      with_content m (Some content) here is = rw (content-push q.lines arrival m content here) is

  first-arrival : (q : QueueHistory) (p : Parcel) → first_parcel_of q ≡ Some p → first_parcel_of (record q { lines = q.lines ++ arrival ∷ [] }) ≡ Some p
  first-arrival q p h = option_and_then_some _ (first_transfer q) p h (λ t first is. rw (pending-arrival q.lines, first) (transferred-arrival q t p is))

abbrev pub again : QueueHistory → Outcome
again q = answering (Ok (replies.Arrived arrivals.Again))

abbrev pub new : QueueHistory → Parcel → Outcome
new q p = adding (Arrived p.origin p.content) (Ok (replies.Arrived arrivals.New))

-- an arrival that is not refused leaves the parcel accepted
arrival-accepted : (q : QueueHistory) (p : Parcel) (m : Moved) (refused : Option Fault) (accepted : Bool) → has_accepted q.lines p.origin.uid p.origin.number ≡ accepted
    → Ok m ≡ as_moved (unless_refused refused (cond accepted (again q) (new q p))).reply
    → has_accepted (with_optional_event q (unless_refused refused (cond accepted (again q) (new q p))).event).lines p.origin.uid p.origin.number ≡ true
arrival-accepted q p m (Some fault) accepted e h = absurd cc
arrival-accepted q p m None true e h = e
arrival-accepted q p m None false e h = arrival-accepts q.clock p q.lines

-- and no arrival ends a transfer
arrival-first : (q : QueueHistory) (p first : Parcel) (refused : Option Fault) (accepted : Bool) → first_parcel_of q ≡ Some first
    → first_parcel_of (with_optional_event q (unless_refused refused (cond accepted (again q) (new q p))).event) ≡ Some first
arrival-first q p first (Some fault) accepted h = h
arrival-first q p first None true h = h
arrival-first q p first None false h = first-arrival q.clock p q first h

-- ---- the house between the halves

-- an orphaning is nothing to be confirmed
orphaned-moved : (q : QueueHistory) (target : ℕ) (refused : Option Fault) (m : Moved) → Ok m ≡ as_moved (unless_refused refused (orphan_outcome q target)).reply → needs_confirmation (Ok m) ≡ true → ⊥
orphaned-moved q target (Some fault) m h k = absurd cc
orphaned-moved q target None m h k =
    let same : m ≡ moved.Orphaned = cc in
    false≢true (subst (λ (m : Moved). needs_confirmation (Ok m) ≡ true) same k)

present : (o : Option QueueHistory) → is_some o ≡ true → (q : QueueHistory) × (o ≡ Some q)
present None h = absurd cc
present (Some q) h = (q, refl)

abbrev pub delivery : House → ℕ → Parcel → Bool → AddressedCommand
delivery w source p there = cond there (record { uid = p.target; command = Arrive p }) (record { uid = source; command = Orphan p.target })

-- a parcel is there, and its queue was answered so
pub answered-parcel : (w : House) (source at : ℕ) (m : Moved) (there : Bool) (o : Option Parcel) → (m ≡ moved.None → ⊥)
    → Ok m ≡ cond there (option_map_or (λ p. delivered_answer w at (delivery_of w source p)) o (Ok moved.None)) (Err QueueDoesNotExist)
    → (p : Parcel) × (o ≡ Some p) × (Ok m ≡ delivered_answer w at (delivery_of w source p))
answered-parcel w source at m false o some k = absurd cc
answered-parcel w source at m true None some k = absurd (some cc)
answered-parcel w source at m true (Some p) some k = (p, refl, k)

-- the queue that a command comes to, with a checkpoint where one came first
abbrev pub acting_at : QueueHistory → ℕ → Command → QueueHistory
acting_at q at command = rebased_where (outcome_at q at command).rebases (at_moment q at)

module _ (w : House) (source at : ℕ) (m : Moved) (confirmed : needs_confirmation (Ok m) ≡ true) (sound : (s : QueueHistory) → queue_of_uid w source ≡ Some s → IsSound s.lines s.clock) where
  module _ (p : Parcel) (t s : QueueHistory) (there : queue_of_uid w p.target ≡ Some t) (here : queue_of_uid w source ≡ Some s) (first : first_parcel_of s ≡ Some p)
      (answered : Ok m ≡ as_moved (outcome_at t at (Arrive p)).reply) where
    abbrev arrived : QueueHistory → QueueHistory
    arrived q = after_answer {T = Moved} q at (Arrive p) (Ok m)

    abbrev received : House
    received = house_after_command w p.target at (Arrive p) (Ok m)

    first-between : (own : Bool) → nat_eq p.target source ≡ own → first_parcel_in received source ≡ Some p
    first-between true e =
        ap (λ (o : Option QueueHistory). option_and_then (λ q. first_parcel_of q) o)
        (changed-queue w p.target source arrived true (λ q. after_answer-uid at (Arrive p) (Ok m) q) e ∙ ap (λ (o : Option QueueHistory). option_map arrived o) here)
        ∙ arrival-first (acting_at s at (Arrive p)) p p (first_refusal (acting_at s at (Arrive p))) (has_accepted (acting_at s at (Arrive p)).lines p.origin.uid p.origin.number)
        (parcel_alike (acting_at s at (Arrive p)) (at_moment s at) (acting_alike s at (Arrive p) (sound s here)) ∙ first)
    first-between false e =
        ap (λ (o : Option QueueHistory). option_and_then (λ q. first_parcel_of q) o)
        (changed-queue w p.target source arrived false (λ q. after_answer-uid at (Arrive p) (Ok m) q) e ∙ here)
        ∙ first

    accepted-between : is_accepted received p ≡ true
    accepted-between =
        ap (λ (o : Option QueueHistory). option_map_or (λ q. has_accepted q.lines p.origin.uid p.origin.number) o false)
        (changed-queue w p.target p.target arrived true (λ q. after_answer-uid at (Arrive p) (Ok m) q) (eq-eqb p.target p.target refl) ∙ ap (λ (o : Option QueueHistory). option_map arrived o) there)
        ∙ arrival-accepted (acting_at t at (Arrive p)) p m (first_refusal (acting_at t at (Arrive p))) (has_accepted (acting_at t at (Arrive p)).lines p.origin.uid p.origin.number) refl answered

    number-between : accepted_number received source ≡ Some p.origin.number
    number-between = rw (first-between (nat_eq p.target source) refl, accepted-between) refl

  delivered-number : (p : Parcel) (s : QueueHistory) (there : Bool) (o : Option QueueHistory) → queue_of_uid w p.target ≡ o → is_some o ≡ there
      → queue_of_uid w source ≡ Some s → first_parcel_of s ≡ Some p → Ok m ≡ delivered_answer w at (delivery w source p there)
      → accepted_number (house_after_command w (delivery w source p there).uid at (delivery w source p there).command (Ok m)) source ≡ Some p.origin.number
  delivered-number p s true None is there here first h = absurd cc
  delivered-number p s true (Some t) is there here first h = number-between p t s is here first (rw is at h)
  delivered-number p s false o is there here first h = absurd (orphaned-moved (acting_at s at (Orphan p.target)) p.target (first_refusal (acting_at s at (Orphan p.target))) m (rw here at h) confirmed)

  at-source : (p : Parcel) → first_parcel_in w source ≡ Some p → (s : QueueHistory) × ((queue_of_uid w source ≡ Some s) × (first_parcel_of s ≡ Some p))
  at-source p h = option_and_then_some _ (queue_of_uid w source) p h (λ s here first. (s, (here, first)))

  pub moved-number : Ok m ≡ arrive_answer w source at
      → (p : Parcel) × ((first_parcel_in w source ≡ Some p) × (accepted_number (house_after_hand_over {T = Moved} w source at (Ok m)) source ≡ Some p.origin.number))
  moved-number h =
      let handed = answered-parcel w source at m (has_queue w source) (first_parcel_in w source) (λ none. false≢true (subst (λ (m : Moved). needs_confirmation (Ok m) ≡ true) none confirmed)) h in
      let p = handed.0 in
      let found = at-source p handed.1 in
      let left : Option Parcel → House = λ o. option_map_or (λ p. house_after_command {T = Moved} w (delivery_of w source p).uid at (delivery_of w source p).command (Ok m)) o w in
      (p, (handed.1, ap (λ (o : Option Parcel). accepted_number (left o) source) handed.1 ∙ (delivered-number p found.0 (has_queue w p.target) (queue_of_uid w p.target) refl refl found.1.0 found.1.1 handed.2)))

-- ---- the whole move

pub needs-Ok : (answer : Result Moved Fault) → needs_confirmation answer ≡ true → (m : Moved) × (answer ≡ Ok m)
needs-Ok (Ok m) h = (m, refl)
needs-Ok (Err fault) h = absurd cc

pub handed-Ok : (old between : House) (source at : ℕ) (m : Moved) → IsHandedOver old source at (Ok m) between → between ≡ house_after_hand_over {T = Moved} old source at (Ok m)
handed-Ok old between source at m h = h.left

module _ (old between new : House) (source at : ℕ) (sound : (s : QueueHistory) → queue_of_uid old source ≡ Some s → IsSound s.lines s.clock) (half : Result Moved Fault) (meets : Meets half (arrive_answer old source at)) (first_half : IsHandedOver old source at half between) where
  -- with a confirmation
  abbrev pub IsMoved-confirmed : (m : Moved) (answer : Result Moved Fault) (confirmed : Result Reply Fault) → half ≡ Ok m → needs_confirmation (Ok m) ≡ true
      → Meets confirmed (confirm_answer between source at) → (confirm_takes_memory between source at ≡ false → confirmed ≡ confirm_answer between source at)
      → answer ≡ answer_of_halves (Ok m) confirmed → new ≡ house_after_confirm between source at confirmed
      → IsMoved old source at answer new
  IsMoved-confirmed m answer confirmed is needs second exact answered left =
      let same : between ≡ house_after_hand_over {T = Moved} old source at (Ok m) = handed-Ok old between source at m (subst (λ (r : Result Moved Fault). IsHandedOver old source at r between) is first_half) in
      let number = moved-number old source at m needs sound (subst (λ (r : Result Moved Fault). Meets r (arrive_answer old source at)) is meets) in
      record {
        handed_over = half;
        between = between;
        meets = meets;
        first_half = first_half;
        second_half = λ h. record {
          number = number.0.origin.number;
          first = ap (λ (o : Option Parcel). option_map (λ p. p.origin.number) o) number.1.0;
          accepted = rw same (number.1.1);
          confirmed = confirmed;
          meets = second;
          exact = exact;
          answered = rw is answered;
          left = left;
        };
        no_second_half = λ h. absurd (false≢true (sym h ∙ rw is needs));
      }

  pub CostsMove-confirmed : (m : Moved) (answer : Result Moved Fault) (confirmed : Result Reply Fault) → half ≡ Ok m → needs_confirmation (Ok m) ≡ true
      → Meets confirmed (confirm_answer between source at) → (confirm_takes_memory between source at ≡ false → confirmed ≡ confirm_answer between source at)
      → answer ≡ answer_of_halves (Ok m) confirmed → new ≡ house_after_confirm between source at confirmed
      → (begun spent spent' : ℕ) → spent ≤ begun + hand_over_ticks old source at half → spent' ≤ spent + confirm_ticks between source at confirmed
      → CostsMove old source at answer new begun spent'
  CostsMove-confirmed m answer confirmed is needs second exact answered left begun spent spent' first_cost second_cost =
      let yes : needs_confirmation half ≡ true = ap needs_confirmation is ∙ needs in
      let same : confirm_ticks between source at answer ≡ confirm_ticks between source at confirmed = ap (λ (r : Result Moved Fault). confirm_ticks between source at r) answered ∙ as-confirmed m confirmed in
      record {
        move = IsMoved-confirmed m answer confirmed is needs second exact answered left;
        within = subst (λ (b : Bool). spent' ≤ begun + hand_over_ticks old source at half + cond b (confirm_ticks between source at answer) 0) (sym yes)
            (two-halves begun spent spent' (hand_over_ticks old source at half) (confirm_ticks between source at confirmed) (confirm_ticks between source at answer) first_cost second_cost same);
      }
    where
      as-confirmed : (m : Moved) (confirmed : Result Reply Fault) → confirm_ticks {T = Moved} between source at (answer_of_halves (Ok m) confirmed) ≡ confirm_ticks {T = Reply} between source at confirmed
      as-confirmed m (Ok reply) = refl
      as-confirmed m (Err fault) = refl

      two-halves : (begun spent spent' a b b' : ℕ) → spent ≤ begun + a → spent' ≤ spent + b → b' ≡ b → spent' ≤ begun + a + b'
      two-halves begun spent spent' a b b' h k same = omega arith

-- with none
pub CostsMove-unconfirmed : (old new : House) (source at : ℕ) (half answer : Result Moved Fault) → Meets half (arrive_answer old source at) → IsHandedOver old source at half new
    → needs_confirmation half ≡ false → answer ≡ half → (begun spent : ℕ) → spent ≤ begun + hand_over_ticks old source at half → CostsMove old source at answer new begun spent
CostsMove-unconfirmed old new source at half answer meets first_half never same begun spent cost = record {
  move = record {
    handed_over = half;
    between = new;
    meets = meets;
    first_half = first_half;
    second_half = λ h. absurd (false≢true (sym never ∙ h));
    no_second_half = λ h. (same, refl);
  };
  within = subst (λ (b : Bool). spent ≤ begun + hand_over_ticks old source at half + cond b (confirm_ticks new source at answer) 0) (sym never) (alone begun spent (hand_over_ticks old source at half) cost);
}
  where
    alone : (begun spent a : ℕ) → spent ≤ begun + a → spent ≤ begun + a + 0
    alone begun spent a h = omega arith
