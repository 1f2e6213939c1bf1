-- What waits in a queue: a move that finds a parcel and is not refused leaves less.
use Rattle.std.proofs.Common.{◌≡◌, ℕ, ◌<◌, ◌≤◌, ◌≢◌, Bool, true, false, not, cond, nat_eq, List, [], ◌∷◌, ◌++◌, length, get_or, Option, Some, None, Result, Ok, Err, refl, sym, ap, subst, inl, inr, ◌∙◌, arith}
use Rattle.std.specs.Prelude.{filter, map, slice_get, is_some, option_map, option_and_then}
use Rattle.std.specs.Option.{option_map_or, ForSome}
use Rattle.std.specs.List.{list_any, All, AllPairs, Contains}
use Rattle.std.proofs.lemmas.Bool.{eq-eqb, eqb-true, or_cases, not_from_true, false≢true}
use Rattle.std.proofs.lemmas.List.{append-nil, length-map, get_or-map}
use Rattle.std.proofs.lemmas.List.Elements.{All-head, All-tail, All-map, All-weaker, All-contains_itself}
use Rattle.std.proofs.lemmas.Map.Keys.{IsDistinct-from_apart}
use Rattle.std.proofs.lemmas.Map.Steps.{length-le_from_distinct_below}
use Rattle.std.proofs.lemmas.Option.{none-some, same_Some}
use Rattle.message.specs.declared.fault.Fault.{Fault}
use Rattle.message.specs.declared.fault.Fault.TheVariants.{QueueDoesNotExist}
use Rattle.message.specs.Fault.{Meets}
use Rattle.message.specs.Content.{ContentText}
use Rattle.journal.specs.declared.entry.Event.{Event}
use Rattle.journal.specs.declared.entry.Event.TheVariants.{Arrived, Settled, Orphaned}
use Rattle.queue_core.specs.declared.command.Command.{Command}
use Rattle.queue_core.specs.declared.command.Command.TheVariants.{Arrive, Settle, Orphan}
use Rattle.queue_core.specs.declared.facts.Message.{Message}
use Rattle.queue_core.specs.declared.facts.Status.TheVariants.{Waiting}
use Rattle.queue_core.specs.declared.facts.Transfer.{Transfer}
use Rattle.queue_core.specs.declared.parcel.Parcel.{Parcel}
use Rattle.queue_core.specs.declared.reply.Reply.{Reply}
use Rattle.queue_core.specs.declared.reply.Reply.TheVariants as replies
use Rattle.queue_core.specs.Messages.{message_count, awaits_status, awaits_transfer, departures, ends_transfer, pending_transfers, has_accepted}
use Rattle.queue_core.specs.Queue.{QueueHistory, Outcome, adding, answering, at_moment, first_refusal, unless_refused, orphan_outcome, is_pending, waiting_count, outcome_at, with_optional_event, after_answer, transferred_parcel, first_parcel_of}
use Rattle.queue_core.specs.Legal.{IsLegal}
use Rattle.queue_core.proofs.PushLemmas.{numbered-below}
use Rattle.queue_core.proofs.PendingLemmas.{Stands, filter_all, pending_transfers-push}
use Rattle.queue_core.proofs.SoundLemmas.{IsSound}
use Rattle.queue_core.proofs.LegalSoundLemmas.{sound_legal}
use Rattle.queue_core.proofs.WholeLemmas.{AreAlike, acting_alike, sound_after, transfers_alike}
use Rattle.redrive.specs.declared.moved.Moved.{Moved}
use Rattle.redrive.specs.declared.moved.Moved.TheVariants as moved
use Rattle.redrive.specs.House.{House, queue_of_uid, has_queue, first_parcel_in, delivery_of, as_moved, queue_answer, delivered_answer, arrive_answer, house_after_command, needs_confirmation, accepted_number, confirm_answer, house_after_confirm, answer_of_halves, IsHandedOver, IsConfirmed, IsMoved}
use Rattle.redrive.specs.Waiting.{waiting_in}
use Rattle.redrive.proofs.RegistryLemmas.{after_answer-uid, changed-queue}
use Rattle.redrive.proofs.MovingLemmas.{again, new, acting_at, delivery, answered-parcel, needs-Ok, handed-Ok}
use Rattle.redrive.proofs.transfers.Journals.{Line, Lines, more}
use Rattle.redrive.proofs.transfers.Commands.{some_first, handed}

-- ---- a list without what a test refuses

count_kept : {X : Type 0} (p : X → Bool) (xs : List X) → length (filter p xs) ≤ length xs
count_kept p [] = omega arith
count_kept p (x ∷ xs) = by_test (p x) (count_kept p xs) where
  by_test : (b : Bool) → length (filter p xs) ≤ length xs → length (cond b (x ∷ filter p xs) (filter p xs)) ≤ length (x ∷ xs)
  by_test true h = omega arith
  by_test false h = omega arith

fewer_kept : {X : Type 0} (p : X → Bool) (xs : List X) (x : X) → slice_get xs 0 ≡ Some x → p x ≡ false → length (filter p xs) < length xs
fewer_kept p [] x first h = absurd (none-some x first)
fewer_kept p (y ∷ xs) x first h =
    let same : y ≡ x = same_Some y x first in
    by_test (p y) (ap p same ∙ h) where
      by_test : (b : Bool) → b ≡ false → length (cond b (y ∷ filter p xs) (filter p xs)) < length (y ∷ xs)
      by_test true e = absurd (false≢true (sym e))
      by_test false e = omega (arith, count_kept p xs)

-- ---- one entry more, by which no message leaves

-- each transfer that is not confirmed is of a message that waits
abbrev AllAwait : Lines → Type 0
AllAwait lines = (t : Transfer) → Contains (pending_transfers lines) t → Stands lines t.number (Waiting t.target)

-- less waits after it
pub record Fewer (before : Lines) (after : QueueHistory) : Type 0 where
  pub fewer : length (pending_transfers after.lines) < length (pending_transfers before)
  pub sound : IsSound after.lines after.clock

-- as much waits after it
record Same (before : Lines) (after : QueueHistory) : Type 0 where
  same : pending_transfers after.lines ≡ pending_transfers before
  sound : IsSound after.lines after.clock

module _ (lines : Lines) (e : Line) (none : departures e.event ≡ []) where
  abbrev kept : Transfer → Bool
  kept t = not (ends_transfer t e.event)

  pending-left : pending_transfers (more lines e) ≡ filter kept (pending_transfers lines)
  pending-left = pending_transfers-push lines e ∙ ap (λ (ts : List Transfer). filter kept (pending_transfers lines) ++ ts) none ∙ append-nil (filter kept (pending_transfers lines))

  fewer-ended : (t : Transfer) → slice_get (pending_transfers lines) 0 ≡ Some t → ends_transfer t e.event ≡ true → length (pending_transfers (more lines e)) < length (pending_transfers lines)
  fewer-ended t first ended = rw pending-left (fewer_kept kept (pending_transfers lines) t first (not_from_true (ends_transfer t e.event) ended))

-- ---- what a command of a move adds to the journal that it comes to

module _ (a : QueueHistory) where
  abbrev then : Event ContentText → Line
  then event = record { at = a.clock; event = event }

  -- a parcel that arrives here
  arrived-by : (p : Parcel) (refused : Option Fault) (accepted : Bool)
      → pending_transfers (with_optional_event a (unless_refused refused (cond accepted (again a) (new a p))).event).lines ≡ pending_transfers a.lines
  arrived-by p (Some fault) accepted = refl
  arrived-by p None true = refl
  arrived-by p None false = pending-left a.lines (then (Arrived p.origin p.content)) refl ∙ filter_all (pending_transfers a.lines)

  module _ (t : Transfer) (first : slice_get (pending_transfers a.lines) 0 ≡ Some t) where
    -- its confirmation
    first_pending : AllAwait a.lines → (n : ℕ) → t.number ≡ n → is_pending a n ≡ true
    first_pending h n is =
        let waits : Stands a.lines t.number (Waiting t.target) = h t (some_first a.lines t first) in
        subst (λ (i : ℕ). is_pending a i ≡ true) is (ap (λ (o : Option Message). option_map_or (λ m. awaits_transfer a.lines m) o false) waits.1 ∙ ap awaits_status waits.2)

    abbrev settling : ℕ → Bool → Outcome
    settling n b = cond b (adding (Settled n) (Ok (replies.Settled true))) (answering (Ok (replies.Settled false)))

    settled-by : (n : ℕ) (r : Reply) (refused : Option Fault) (b : Bool) → t.number ≡ n → b ≡ true → Ok r ≡ (unless_refused refused (settling n b)).reply
        → length (pending_transfers (with_optional_event a (unless_refused refused (settling n b)).event).lines) < length (pending_transfers a.lines)
    settled-by n r (Some fault) b is pending k = absurd cc
    settled-by n r None false is pending k = absurd (false≢true pending)
    settled-by n r None true is pending k = fewer-ended a.lines (then (Settled n)) refl t first (rw (eq-eqb n t.number (sym is)) refl)

    -- everything that waits for a queue that is gone comes back
    orphaned-by : (target : ℕ) (m : Moved) (refused : Option Fault) → t.target ≡ target → Ok m ≡ as_moved (unless_refused refused (orphan_outcome a target)).reply
        → length (pending_transfers (with_optional_event a (unless_refused refused (orphan_outcome a target)).event).lines) < length (pending_transfers a.lines)
    orphaned-by target m (Some fault) is k = absurd cc
    orphaned-by target m None is k = fewer-ended a.lines (then (Orphaned target)) refl t first (rw (eq-eqb target t.target (sym is)) refl)

-- ---- what it leaves of a queue

module _ (q : QueueHistory) (at : ℕ) (sound : IsSound q.lines q.clock) where
  Same-arrived : (p : Parcel) (m : Moved) → Same q.lines (after_answer {T = Moved} q at (Arrive p) (Ok m))
  Same-arrived p m =
      let a : QueueHistory = acting_at q at (Arrive p) in
      record {
        same = arrived-by a p (first_refusal a) (has_accepted a.lines p.origin.uid p.origin.number) ∙ transfers_alike a (at_moment q at) (acting_alike q at (Arrive p) sound);
        sound = sound_after {T = Moved} q at (Arrive p) (Ok m) sound;
      }

  fewer_after : {T : Type 0} (command : Command) (answer : Result T Fault) (before : List Transfer) → before ≡ pending_transfers q.lines
      → length (pending_transfers (after_answer q at command answer).lines) < length before → Fewer q.lines (after_answer q at command answer)
  fewer_after command answer before same less = record {
    fewer = subst (λ (ts : List Transfer). length (pending_transfers (after_answer q at command answer).lines) < length ts) same less;
    sound = sound_after q at command answer sound;
  }

  module _ (t : Transfer) (first : slice_get (pending_transfers q.lines) 0 ≡ Some t) where
    Fewer-settled : (n : ℕ) (r : Reply) → t.number ≡ n → Ok r ≡ (outcome_at q at (Settle n)).reply → Fewer q.lines (after_answer {T = Reply} q at (Settle n) (Ok r))
    Fewer-settled n r is k =
        let a : QueueHistory = acting_at q at (Settle n) in
        let alike : AreAlike a (at_moment q at) = acting_alike q at (Settle n) sound in
        let same : pending_transfers a.lines ≡ pending_transfers q.lines = transfers_alike a (at_moment q at) alike in
        let there : slice_get (pending_transfers a.lines) 0 ≡ Some t = ap (λ (ts : List Transfer). slice_get ts 0) same ∙ first in
        fewer_after (Settle n) (Ok r) (pending_transfers a.lines) same
        (settled-by a t there n r (first_refusal a) (is_pending a n) is (first_pending a t there (λ t h. alike.sound.pending.waiting t h) n is) k)

    Fewer-orphaned : (target : ℕ) (m : Moved) → t.target ≡ target → Ok m ≡ as_moved (outcome_at q at (Orphan target)).reply → Fewer q.lines (after_answer {T = Moved} q at (Orphan target) (Ok m))
    Fewer-orphaned target m is k =
        let a : QueueHistory = acting_at q at (Orphan target) in
        let same : pending_transfers a.lines ≡ pending_transfers q.lines = transfers_alike a (at_moment q at) (acting_alike q at (Orphan target) sound) in
        fewer_after (Orphan target) (Ok m) (pending_transfers a.lines) same
        (orphaned-by a t (ap (λ (ts : List Transfer). slice_get ts 0) same ∙ first) target m (first_refusal a) is k)

-- ---- a move

-- the transfer of a parcel
abbrev transfer_of : Parcel → Transfer
transfer_of p = record { number = p.origin.number; target = p.target }

-- less waits in the queue of a uid
pub record LeavesFewer (s : QueueHistory) (new : House) (source : ℕ) : Type 0 where
  pub queue : QueueHistory
  pub there : queue_of_uid new source ≡ Some queue
  pub less : Fewer s.lines queue

record LeavesSame (s : QueueHistory) (new : House) (source : ℕ) : Type 0 where
  queue : QueueHistory
  there : queue_of_uid new source ≡ Some queue
  as_much : Same s.lines queue

-- what a command leaves of the queue of the uid that it comes to
pub left-own : {T : Type 0} → (w : House) (uid at : ℕ) (command : Command) (answer : Result T Fault) (s : QueueHistory) → queue_of_uid w uid ≡ Some s
    → queue_of_uid (house_after_command w uid at command answer) uid ≡ Some (after_answer s at command answer)
left-own w uid at command answer s here =
    changed-queue w uid uid (λ q. after_answer q at command answer) true (λ q. after_answer-uid at command answer q) (eq-eqb uid uid refl)
    ∙ ap (λ (o : Option QueueHistory). option_map (λ q. after_answer q at command answer) o) here

module _ (w : House) (source at : ℕ) (s : QueueHistory) (here : queue_of_uid w source ≡ Some s) (sound : IsSound s.lines s.clock) where
  module _ (m : Moved) (p : Parcel) (parcel : first_parcel_of s ≡ Some p) where
    -- its queue is there
    arrived-there : (t : QueueHistory) (own : Bool) → nat_eq p.target source ≡ own → LeavesSame s (house_after_command {T = Moved} w p.target at (Arrive p) (Ok m)) source
    arrived-there t true e = record {
      queue = after_answer {T = Moved} s at (Arrive p) (Ok m);
      there =
          changed-queue w p.target source (λ q. after_answer {T = Moved} q at (Arrive p) (Ok m)) true (λ q. after_answer-uid at (Arrive p) (Ok m) q) e
          ∙ ap (λ (o : Option QueueHistory). option_map (λ q. after_answer {T = Moved} q at (Arrive p) (Ok m)) o) here;
      as_much = Same-arrived s at sound p m;
    }
    arrived-there t false e = record {
      queue = s;
      there = changed-queue w p.target source (λ q. after_answer {T = Moved} q at (Arrive p) (Ok m)) false (λ q. after_answer-uid at (Arrive p) (Ok m) q) e ∙ here;
      as_much = record { same = refl; sound = sound };
    }

    arrival-needs : (q : QueueHistory) (refused : Option Fault) (accepted : Bool) → Ok m ≡ as_moved (unless_refused refused (cond accepted (again q) (new q p))).reply → needs_confirmation (Ok m) ≡ true
    arrival-needs q (Some fault) accepted k = absurd cc
    arrival-needs q None true k = let same : m ≡ moved.Again = cc in rw same refl
    arrival-needs q None false k = let same : m ≡ moved.Arrived = cc in rw same refl

    orphaned-needs : (refused : Option Fault) (count : ℕ) (event : Event ContentText) → Ok m ≡ as_moved (unless_refused refused (adding event (Ok (replies.Orphaned count)))).reply
        → needs_confirmation (Ok m) ≡ false
    orphaned-needs (Some fault) count event k = absurd cc
    orphaned-needs None count event k = let same : m ≡ moved.Orphaned = cc in rw same refl

    -- what a hand-over leaves: as much where its queue is there, and less where that is gone
    handed-same : (there : Bool) (o : Option QueueHistory) → queue_of_uid w p.target ≡ o → is_some o ≡ there → needs_confirmation (Ok m) ≡ true
        → Ok m ≡ delivered_answer w at (delivery w source p there)
        → LeavesSame s (house_after_command {T = Moved} w (delivery w source p there).uid at (delivery w source p there).command (Ok m)) source
    handed-same true None is there needs k = absurd (false≢true there)
    handed-same true (Some t) is there needs k = arrived-there t (nat_eq p.target source) refl
    handed-same false o is there needs k =
        absurd (false≢true (sym (orphaned-needs (first_refusal (acting_at s at (Orphan p.target))) (waiting_count (acting_at s at (Orphan p.target)) p.target) (Orphaned p.target) (rw here at k)) ∙ needs))

    handed-fewer : (there : Bool) (o : Option QueueHistory) → queue_of_uid w p.target ≡ o → is_some o ≡ there → needs_confirmation (Ok m) ≡ false
        → Ok m ≡ delivered_answer w at (delivery w source p there)
        → LeavesFewer s (house_after_command {T = Moved} w (delivery w source p there).uid at (delivery w source p there).command (Ok m)) source
    handed-fewer true None is there needs k = absurd (false≢true there)
    handed-fewer true (Some t) is there needs k =
        absurd (false≢true (sym needs ∙ arrival-needs (acting_at t at (Arrive p)) (first_refusal (acting_at t at (Arrive p))) (has_accepted (acting_at t at (Arrive p)).lines p.origin.uid p.origin.number) (rw is at k)))
    handed-fewer false o is there needs k =
        record {
          queue = after_answer {T = Moved} s at (Orphan p.target) (Ok m);
          there = left-own w source at (Orphan p.target) (Ok m) s here;
          less = Fewer-orphaned s at sound (transfer_of p) (handed s p parcel).first p.target m refl (rw here at k);
        }

  -- a confirmation, of which the number is that of the first parcel
  confirmed-fewer : (between : House) (same : LeavesSame s between source) (p : Parcel) (n : ℕ) (r : Reply) → first_parcel_of s ≡ Some p → p.origin.number ≡ n
      → accepted_number between source ≡ Some n → Ok r ≡ confirm_answer between source at
      → LeavesFewer s (house_after_confirm {T = Reply} between source at (Ok r)) source
  confirmed-fewer between same p n r parcel is accepted k =
      let q : QueueHistory = same.queue in
      let first : slice_get (pending_transfers q.lines) 0 ≡ Some (transfer_of p) = ap (λ (ts : List Transfer). slice_get ts 0) same.as_much.same ∙ (handed s p parcel).first in
      let answered : Ok r ≡ (outcome_at q at (Settle n)).reply =
      k ∙ ap (λ (o : Option ℕ). option_map_or (λ number. queue_answer between source at (Settle number)) o (Ok (replies.Settled false))) accepted
      ∙ ap (λ (o : Option QueueHistory). option_map_or (λ q. (outcome_at q at (Settle n)).reply) o (Err QueueDoesNotExist)) same.there in
      let less : Fewer q.lines (after_answer {T = Reply} q at (Settle n) (Ok r)) = Fewer-settled q at same.as_much.sound (transfer_of p) first n r is answered in
      record {
        queue = after_answer {T = Reply} q at (Settle n) (Ok r);
        there = rw accepted (left-own between source at (Settle n) (Ok r) q same.there);
        less = record { fewer = subst (λ (ts : List Transfer). length (pending_transfers (after_answer {T = Reply} q at (Settle n) (Ok r)).lines) < length ts) same.as_much.same less.fewer; sound = less.sound };
      }

  module _ (new : House) where
    -- the second half
    second : (between : House) (y x : Moved) (c : IsConfirmed w between source at (Ok y) (Ok x) new) (p : Parcel) → LeavesSame s between source → first_parcel_in w source ≡ Some p → first_parcel_of s ≡ Some p
        → (confirmed : Result Reply Fault) → c.confirmed ≡ confirmed → LeavesFewer s new source
    second between y x c p same there parcel (Err fault) is =
        absurd (let e : Ok x ≡ Err fault = c.answered ∙ ap (answer_of_halves (Ok y)) is in cc)
    second between y x c p same there parcel (Ok r) is =
        let n : p.origin.number ≡ c.number = same_Some p.origin.number c.number (ap (λ (o : Option Parcel). option_map (λ p. p.origin.number) o) (sym there) ∙ c.first) in
        let answered : Ok r ≡ confirm_answer between source at = subst (λ (a : Result Reply Fault). Meets a (confirm_answer between source at)) is c.meets in
        let left : new ≡ house_after_confirm {T = Reply} between source at (Ok r) = c.left ∙ ap (house_after_confirm between source at) is in
        subst (λ (v : House). LeavesFewer s v source) (sym left) (confirmed-fewer between same p c.number r parcel n c.accepted answered)

    own-parcel : (p : Parcel) → first_parcel_in w source ≡ Some p → first_parcel_of s ≡ Some p
    own-parcel p there = rw here at there

    handed-to : (half : Moved) (between : House) (o : Option Parcel) (p : Parcel) → first_parcel_in w source ≡ Some p → IsHandedOver w source at (Ok half) between
        → between ≡ house_after_command {T = Moved} w (delivery_of w source p).uid at (delivery_of w source p).command (Ok half)
    handed-to half between o p there halved =
        handed-Ok w between source at half halved
        ∙ ap (λ (o : Option Parcel). option_map_or (λ p. house_after_command {T = Moved} w (delivery_of w source p).uid at (delivery_of w source p).command (Ok half)) o w) there

    move-by : (x : Moved) (m : IsMoved w source at (Ok x) new) → (x ≡ moved.None → ⊥) → (needs : Bool) → needs_confirmation m.handed_over ≡ needs → LeavesFewer s new source
    move-by x m some false e =
        let ends = m.no_second_half e in
        let half : m.handed_over ≡ Ok x = sym ends.0 in
        let answered : Ok x ≡ arrive_answer w source at = subst (λ (a : Result Moved Fault). Meets a (arrive_answer w source at)) half m.meets in
        let found = answered-parcel w source at x (has_queue w source) (first_parcel_in w source) some answered in
        let p : Parcel = found.0 in
        let left = handed-to x m.between None p found.1 (subst (λ (a : Result Moved Fault). IsHandedOver w source at a m.between) half m.first_half) in
        subst (λ (v : House). LeavesFewer s v source) (sym (ends.1 ∙ left))
        (handed-fewer x p (own-parcel p found.1) (has_queue w p.target) (queue_of_uid w p.target) refl refl (ap needs_confirmation (sym half) ∙ e) found.2)
    move-by x m some true e =
        let yes = needs-Ok m.handed_over e in
        let y : Moved = yes.0 in
        let half : m.handed_over ≡ Ok y = yes.1 in
        let needs : needs_confirmation (Ok y) ≡ true = ap needs_confirmation (sym half) ∙ e in
        let answered : Ok y ≡ arrive_answer w source at = subst (λ (a : Result Moved Fault). Meets a (arrive_answer w source at)) half m.meets in
        let found = answered-parcel w source at y (has_queue w source) (first_parcel_in w source) (λ none. false≢true (ap (λ (m : Moved). needs_confirmation (Ok m)) (sym none) ∙ needs)) answered in
        let p : Parcel = found.0 in
        let left = handed-to y m.between None p found.1 (subst (λ (a : Result Moved Fault). IsHandedOver w source at a m.between) half m.first_half) in
        let same : LeavesSame s m.between source =
        subst (λ (v : House). LeavesSame s v source) (sym left)
        (handed-same y p (own-parcel p found.1) (has_queue w p.target) (queue_of_uid w p.target) refl refl needs found.2) in
        let c = m.second_half e in
        second m.between y x (subst (λ (a : Result Moved Fault). IsConfirmed w m.between source at a (Ok x) new) half c) p same found.1 (own-parcel p found.1) _ refl

    pub moved-fewer : (x : Moved) → IsMoved w source at (Ok x) new → (x ≡ moved.None → ⊥) → LeavesFewer s new source
    moved-fewer x m some = move-by x m some (needs_confirmation m.handed_over) refl

-- ---- what waits

waiting-there : (w : House) (source : ℕ) (s : QueueHistory) → queue_of_uid w source ≡ Some s → waiting_in w source ≡ pending_transfers s.lines
waiting-there w source s here = ap (λ (o : Option QueueHistory). option_map_or (λ q. pending_transfers q.lines) o []) here

absent-moved : (old new : House) (source at : ℕ) (x : Moved) → queue_of_uid old source ≡ None → IsMoved old source at (Ok x) new → ⊥
absent-moved old new source at x none m = by_half m.handed_over refl where
  refused : arrive_answer old source at ≡ Err QueueDoesNotExist
  refused = rw none refl

  by_half : (a : Result Moved Fault) → m.handed_over ≡ a → ⊥
  by_half (Ok y) is =
      let e : Ok y ≡ Err QueueDoesNotExist = subst (λ (a : Result Moved Fault). Meets a (arrive_answer old source at)) is m.meets ∙ refused in cc
  by_half (Err fault) is = let e : Ok x ≡ Err fault = (m.no_second_half (ap needs_confirmation is)).0 ∙ is in cc

pub waiting-fewer : (old new : House) (source at : ℕ) (x : Moved) → x ≢ moved.None → ForSome (queue_of_uid old source) (λ q. IsLegal q) → IsMoved old source at (Ok x) new
    → length (waiting_in new source) < length (waiting_in old source)
waiting-fewer old new source at x some legal m = by_queue (queue_of_uid old source) refl where
  by_queue : (o : Option QueueHistory) → queue_of_uid old source ≡ o → length (waiting_in new source) < length (waiting_in old source)
  by_queue None is = absurd (absent-moved old new source at x is m)
  by_queue (Some s) is =
      let left = moved-fewer old source at s is (sound_legal s (legal s is)) new x m some in
      let less = left.less.fewer in
      let before = waiting-there old source s is in
      let after = waiting-there new source left.queue left.there in
      rw (before, after) less

-- ---- none waits

-- no more wait than there ever were messages
one_below : (count q : ℕ) (ns : List ℕ) → All (λ n. n < count) ns → list_any (nat_eq q) ns ≡ true → q < count
one_below count q [] h k = absurd (false≢true k)
one_below count q (n ∷ ns) h k =
    elim (or_cases (nat_eq q n) (list_any (nat_eq q) ns) k) [
      | inl here ↦ subst (λ (i : ℕ). i < count) (sym (eqb-true q n here)) (All-head (λ n. n < count) n ns h)
      | inr later ↦ one_below count q ns (All-tail (λ n. n < count) n ns h) later
    ]

numbers-apart : (ts : List Transfer) → AllPairs (λ (a b : Transfer). nat_eq a.number b.number ≡ false) ts → (i j d : ℕ) → i < j → j < length (map (λ t. t.number) ts)
    → nat_eq (get_or (map (λ t. t.number) ts) i d) (get_or (map (λ t. t.number) ts) j d) ≡ false
numbers-apart ts once i j d before within =
    let none : Transfer = record { number = d; target = 0 } in
    let long : length (map (λ t. t.number) ts) ≡ length ts = length-map ts (λ (t : Transfer). t.number) in
    let one : get_or (map (λ t. t.number) ts) i d ≡ (get_or ts i none).number = get_or-map (λ (t : Transfer). t.number) ts i none d (omega arith) in
    let other : get_or (map (λ t. t.number) ts) j d ≡ (get_or ts j none).number = get_or-map (λ (t : Transfer). t.number) ts j none d (omega arith) in
    rw (one, other) (once i j none before (omega arith))

pub waiting-count : (q : QueueHistory) → IsLegal q → length (pending_transfers q.lines) ≤ message_count q.lines
waiting-count q legal =
    let is = (sound_legal q legal).pending in
    let ts : List Transfer = pending_transfers q.lines in
    let ns : List ℕ = map (λ t. t.number) ts in
    let count : ℕ = message_count q.lines in
    let below : All (λ n. n < count) ns =
    All-map (λ n. n < count) (λ t. t.number) ts
    (All-weaker (Contains ts) (λ t. t.number < count) (λ t h. let w = is.waiting t h in numbered-below q.lines t.number w.0 w.1) ts (All-contains_itself ts)) in
    let long : length ns ≡ length ts = length-map ts (λ (t : Transfer). t.number) in
    let most : length ns ≤ count = length-le_from_distinct_below ns count (IsDistinct-from_apart nat_eq ns (numbers-apart ts is.once)) (λ n h. one_below count n ns below h) in
    omega arith

arrived-some : (q : QueueHistory) (p : Parcel) (refused : Option Fault) (accepted : Bool) → Ok moved.None ≡ as_moved (unless_refused refused (cond accepted (again q) (new q p))).reply → ⊥
arrived-some q p (Some fault) accepted h = cc
arrived-some q p None true h = cc
arrived-some q p None false h = cc

orphaned-some : (refused : Option Fault) (count : ℕ) (event : Event ContentText) → Ok moved.None ≡ as_moved (unless_refused refused (adding event (Ok (replies.Orphaned count)))).reply → ⊥
orphaned-some (Some fault) count event h = cc
orphaned-some None count event h = cc

module _ (w : House) (source at : ℕ) (s : QueueHistory) (here : queue_of_uid w source ≡ Some s) where
  delivered-some : (p : Parcel) (there : Bool) (o : Option QueueHistory) → queue_of_uid w p.target ≡ o → is_some o ≡ there → Ok moved.None ≡ delivered_answer w at (delivery w source p there) → ⊥
  delivered-some p true None is there k = false≢true there
  delivered-some p true (Some t) is there k = arrived-some (acting_at t at (Arrive p)) p (first_refusal (acting_at t at (Arrive p))) (has_accepted (acting_at t at (Arrive p)).lines p.origin.uid p.origin.number) (rw is at k)
  delivered-some p false o is there k = orphaned-some (first_refusal (acting_at s at (Orphan p.target))) (waiting_count (acting_at s at (Orphan p.target)) p.target) (Orphaned p.target) (rw here at k)

  none-by : (there : Bool) (o : Option Parcel) → Ok moved.None ≡ cond there (option_map_or (λ p. delivered_answer w at (delivery_of w source p)) o (Ok moved.None)) (Err QueueDoesNotExist) → o ≡ None
  none-by false o k = absurd cc
  none-by true None k = refl
  none-by true (Some p) k = absurd (delivered-some p (has_queue w p.target) (queue_of_uid w p.target) refl refl k)

  -- where a hand-over finds no parcel, there is none
  pub none-handed : Ok moved.None ≡ arrive_answer w source at → first_parcel_in w source ≡ None
  none-handed k = none-by (has_queue w source) (first_parcel_in w source) k

-- and where nothing waits
pub none-waiting : (s : QueueHistory) → length (pending_transfers s.lines) ≤ 0 → first_parcel_of s ≡ None
none-waiting s h = at_first (pending_transfers s.lines) h where
  at_first : (ts : List Transfer) → length ts ≤ 0 → option_and_then (λ t. transferred_parcel s t) (slice_get ts 0) ≡ None
  at_first [] h = refl
  at_first (t ∷ ts) h = absurd (omega arith)
