-- Each departure from an open queue has its fate, and what is among the pending transfers waits.
use Rattle.std.proofs.Common.{◌≡◌, ℕ, zero, suc, ◌<◌, ◌≤◌, Bool, true, false, not, ◌||◌, cond, [], ◌∷◌, length, drop, Option, Some, None, refl, sym, ap, subst, inl, inr, ◌∙◌, arith, eqb-true, List}
use Rattle.std.specs.Prelude.{◌⊎◌, ◌-◌, nat_lt, slice_get, filter}
use Rattle.std.specs.Option.{option_map_or, option_or}
use Rattle.std.specs.List.{list_any, Contains}
use Rattle.std.proofs.lemmas.Bool.{ltb-false, or_parts, or_right, not-true, false≢true}
use Rattle.std.proofs.lemmas.List.{drop-append-le, drop_all, length-append}
use Rattle.std.proofs.lemmas.List.Elements.{Contains-append_cases}
use Rattle.std.proofs.lemmas.List.Folds.{find-append}
use Rattle.std.proofs.lemmas.Option.{none-some, same_Some, slice_get_within}
use Rattle.message.specs.Content.{ContentText}
use Rattle.journal.specs.declared.entry.Event.{Event}
use Rattle.journal.specs.declared.entry.Event.TheVariants.{Opened, Received, Settled, Closed}
use Rattle.queue_core.specs.declared.facts.Course.{Course}
use Rattle.queue_core.specs.declared.facts.Message.{Message}
use Rattle.queue_core.specs.declared.facts.Status.{Status}
use Rattle.queue_core.specs.declared.facts.Status.TheVariants.{Present, Removed, Waiting, Transferred}
use Rattle.queue_core.specs.declared.facts.Transfer.{Transfer}
use Rattle.queue_core.specs.Messages.{effect_of, contains_number, status_after, course_of, returns, is_returned, loses, departures, ends_transfer, pending_transfers, closes, has_accepted}
use Rattle.queue_core.specs.States.{message_numbered, is_numbered}
use Rattle.redrive.specs.Places.{status_numbered, end_of, IsDeparture, StillWaits, CameBack}
use Rattle.queue_core.proofs.PushLemmas.{slice_get-append, slice_get-only, numbered-kept, course-kept}
use Rattle.queue_core.proofs.OfferLemmas.{Contains-from_filter}
use Rattle.queue_core.proofs.PendingLemmas.{Contains-nil, departed, status-leaving, status-kept}
use Rattle.redrive.proofs.transfers.Journals.{Line, Lines, more, stands_from, stands_gives, stands_once, stands_kept, accepted_kept}
use Rattle.queue_core.proofs.Scans.{StandsAlone, StandAlone}
use Rattle.queue_core.proofs.AloneLemmas.{alone-push, departures-alone}
use Rattle.redrive.proofs.transfers.Views.{View, IsSettling, IsStep, step_alone, Grows, IsOpened, Change, Stays, Steps, Opens, Closes, by_uid, by_growth}

-- ---- fates in one journal

-- the transfer was confirmed and accepted
pub record WasConfirmed (accepted : ℕ → ℕ → Bool) (lines : Lines) (t : Transfer) (later : Lines) : Type 0 where
  pub entry : Line
  pub ended : end_of t later ≡ Some entry
  pub confirmed : (effect_of entry.event).confirms t.number ≡ true
  pub transferred : status_numbered lines t.number ≡ Some Transferred
  pub accepted_there : accepted t.target t.number ≡ true

abbrev pub Fate : (ℕ → ℕ → Bool) → Lines → Transfer → Lines → Type 0
Fate accepted lines t later = StillWaits lines t later ⊎ (WasConfirmed accepted lines t later ⊎ CameBack lines t later)

-- no entry is a checkpoint, and each departure has its fate, where it is known which queue has accepted which number
abbrev pub AreFates : (ℕ → ℕ → Bool) → Lines → Type 0
AreFates accepted lines = StandAlone lines × ((place : ℕ) (t : Transfer) → IsDeparture lines place t → Fate accepted lines t (drop (suc place) lines))

-- more may be accepted
fate-weaker : (a b : ℕ → ℕ → Bool) → ((target n : ℕ) → a target n ≡ true → b target n ≡ true) → (lines : Lines) (t : Transfer) (later : Lines) → Fate a lines t later → Fate b lines t later
fate-weaker a b f lines t later (inl h) = inl h
fate-weaker a b f lines t later (inr (inl h)) =
    inr (inl (record { entry = h.entry; ended = h.ended; confirmed = h.confirmed; transferred = h.transferred; accepted_there = f t.target t.number h.accepted_there }))
fate-weaker a b f lines t later (inr (inr h)) = inr (inr h)

-- ---- pending transfers

none-found : (t : Transfer) (xs : Lines) → list_any (λ e. ends_transfer t e.event) xs ≡ false → end_of t xs ≡ None
none-found t [] h = refl
none-found t (x ∷ xs) h =
    let k = or_parts (ends_transfer t x.event) (list_any (λ e. ends_transfer t e.event) xs) h in
    ap (λ b. cond b (Some x) (end_of t xs)) k.0 ∙ none-found t xs k.1

-- a pending transfer is a departure that nothing has ended
pub record IsPendingAt (lines : Lines) (t : Transfer) : Type 0 where
  pub place : ℕ
  pub departure : IsDeparture lines place t
  pub unended : end_of t (drop (suc place) lines) ≡ None

pub pending_at : (lines : Lines) (t : Transfer) → StandAlone lines → Contains (pending_transfers lines) t → IsPendingAt lines t
pending_at [] t alone h = absurd (Contains-nil t h)
pending_at (e ∷ es) t alone h = pending_in (Contains-append_cases (filter (λ t. not (list_any (λ later. ends_transfer t later.event) es)) (departures e.event)) (pending_transfers es) t h) (pending_at es t alone.1)
  where
    pending_in : Contains (filter (λ t. not (list_any (λ later. ends_transfer t later.event) es)) (departures e.event)) t ⊎ Contains (pending_transfers es) t
        → (Contains (pending_transfers es) t → IsPendingAt es t) → IsPendingAt (e ∷ es) t
    pending_in (inl k) f =
        let x = Contains-from_filter (λ t. not (list_any (λ later. ends_transfer t later.event) es)) (departures e.event) t k in
        let y = departed e.event t (subst (λ (ts : List Transfer). Contains ts t) (departures-alone e.event alone.0) x.0) in
        record {
          place = 0;
          departure = record { entry = e; stands = refl; leaves = y.0; target = sym y.1 };
          unended = none-found t es (not-true (list_any (λ later. ends_transfer t later.event) es) x.1);
        }
    pending_in (inr k) f =
        let x = f k in
        record {
          place = suc x.place;
          departure = record { entry = x.departure.entry; stands = x.departure.stands; leaves = x.departure.leaves; target = x.departure.target };
          unended = x.unended;
        }

-- what is pending waits
pub pending-waits : (accepted : ℕ → ℕ → Bool) (lines : Lines) (t : Transfer) → AreFates accepted lines → Contains (pending_transfers lines) t → status_numbered lines t.number ≡ Some (Waiting t.target)
pending-waits accepted lines t fates h =
    let p = pending_at lines t fates.0 h in
    by_fate p.unended (fates.1 p.place t p.departure)
  where
    by_fate : {later : Lines} → end_of t later ≡ None → Fate accepted lines t later → status_numbered lines t.number ≡ Some (Waiting t.target)
    by_fate none (inl k) = k.waits
    by_fate none (inr (inl k)) = absurd (none-some k.entry (sym none ∙ k.ended))
    by_fate none (inr (inr k)) = absurd (none-some k.entry (sym none ∙ k.ended))

-- ---- an entry more, in an open queue

pub open_stays : (v : View) (u : ℕ) (event : Event ContentText) → IsStep v u event → closes event ≡ false
open_stays v u (Opened uid settings) step = absurd step
open_stays v u Closed step = absurd step
open_stays v u event step = refl

pub confirmed-settling : (v : View) (u n : ℕ) (event : Event ContentText) → IsStep v u event → (effect_of event).confirms n ≡ true → IsSettling v u n
confirmed-settling v u n (Settled number) step h = subst (IsSettling v u) (eqb-true number n h) step
confirmed-settling v u n event step h = absurd (false≢true h)

departing : (v : View) (u n : ℕ) (event : Event ContentText) → IsStep v u event → contains_number n (effect_of event).departures ≡ true
    → (status_numbered (v.lines u) n ≡ Some Present) × (status_after n Present event ≡ Waiting (effect_of event).target)
departing v u n (Received timeout offered leaving target) step h = (step n h, status-leaving n (Received timeout offered leaving target) h)
departing v u n event step h = absurd (false≢true h)

-- what ends a transfer in an open queue
data Ends (t : Transfer) (event : Event ContentText) : Type 0 where
  Loses : loses t.target event ≡ true → Ends t event
  Confirms : loses t.target event ≡ false → (effect_of event).confirms t.number ≡ true → Ends t event

ends_by : (t : Transfer) (event : Event ContentText) → closes event ≡ false → ends_transfer t event ≡ true → Ends t event
ends_by t event stays h = by_tests (loses t.target event) ((effect_of event).confirms t.number) ((effect_of event).closes) refl refl stays h
  where
    by_tests : (a b c : Bool) → loses t.target event ≡ a → (effect_of event).confirms t.number ≡ b → c ≡ false → (b || a || c) ≡ true → Ends t event
    by_tests true b c e f g k = Loses e
    by_tests false true c e f g k = Confirms e f
    by_tests false false c e f g k = absurd (false≢true (sym g ∙ k))

end_more : (t : Transfer) (later : Lines) (e : Line) → end_of t (more later e) ≡ option_or (end_of t later) (cond (ends_transfer t e.event) (Some e) None)
end_more t later e = find-append (λ x. ends_transfer t x.event) later (e ∷ [])

end_kept : (t : Transfer) (later : Lines) (e entry : Line) → end_of t later ≡ Some entry → end_of t (more later e) ≡ Some entry
end_kept t later e entry h = end_more t later e ∙ ap (λ (o : Option Line). option_or o (cond (ends_transfer t e.event) (Some e) None)) h

end_now : (t : Transfer) (later : Lines) (e : Line) (b : Bool) → end_of t later ≡ None → ends_transfer t e.event ≡ b → end_of t (more later e) ≡ cond b (Some e) None
end_now t later e b h k = end_more t later e ∙ (ap (λ (o : Option Line). option_or o (cond (ends_transfer t e.event) (Some e) None)) h ∙ ap (λ b. cond b (Some e) None) k)

-- whether the message of a number was brought back
returned_numbered : (lines : Lines) (n : ℕ) (m : Message) → message_numbered lines n ≡ Some m → (course_of lines m).returned ≡ true → is_numbered (λ m. is_returned lines m) lines n ≡ true
returned_numbered lines n m is h = ap (λ (o : Option Message). option_map_or (λ m. is_returned lines m) o false) is ∙ h

returned_message : (lines : Lines) (o : Option Message) → option_map_or (λ m. is_returned lines m) o false ≡ true → (m : Message) × (o ≡ Some m) × ((course_of lines m).returned ≡ true)
returned_message lines None h = absurd (false≢true h)
returned_message lines (Some m) h = (m, refl, h)

module _ (lines : Lines) (e : Line) (n : ℕ) where
  -- a course that has begun to be one that was brought back stays so
  returned_kept : is_numbered (λ m. is_returned lines m) lines n ≡ true → is_numbered (λ m. is_returned (more lines e) m) (more lines e) n ≡ true
  returned_kept h =
      let x = returned_message lines (message_numbered lines n) h in
      returned_numbered (more lines e) n x.0 (numbered-kept lines e n x.0 x.1)
      (ap (λ (c : Course). c.returned) (course-kept lines e n x.0 x.1) ∙ or_right (returns (course_of lines x.0).status e.event) (course_of lines x.0).returned x.2)

  returned_now : (target : ℕ) → status_numbered lines n ≡ Some (Waiting target) → loses target e.event ≡ true → is_numbered (λ m. is_returned (more lines e) m) (more lines e) n ≡ true
  returned_now target h lost =
      let x = stands_from lines n (Waiting target) h in
      returned_numbered (more lines e) n x.0 (numbered-kept lines e n x.0 x.1.numbered)
      (ap (λ (c : Course). c.returned) (course-kept lines e n x.0 x.1.numbered)
      ∙ (ap (λ (s : Status). returns s e.event || (course_of lines x.0).returned) x.1.status ∙ ap (λ b. b || (course_of lines x.0).returned) lost))

  status_kept : (s : Status) → status_numbered lines n ≡ Some s → status_numbered (more lines e) n ≡ Some (status_after n s e.event)
  status_kept s h =
      let x = stands_from lines n s h in
      stands_gives (more lines e) n x.0 (status_after n s e.event) (stands_kept lines e n x.0 s x.1)

-- ---- fates after an entry more

-- which transfers from the queue of a uid were accepted
abbrev pub accepted_from : View → ℕ → ℕ → ℕ → Bool
accepted_from v u target n = has_accepted (v.lines target) u n

abbrev pub HasFates : View → Type 0
HasFates v = (u : ℕ) → v.is_open u ≡ true → AreFates (accepted_from v u) (v.lines u)

module _ (v : View) (u : ℕ) (e : Line) (step : IsStep v u e.event) (fates : AreFates (accepted_from v u) (v.lines u)) where
  fate-confirmed : (t : Transfer) (later : Lines) → StillWaits (v.lines u) t later → end_of t (more later e) ≡ Some e → loses t.target e.event ≡ false → (effect_of e.event).confirms t.number ≡ true
      → WasConfirmed (accepted_from v u) (more (v.lines u) e) t (more later e)
  fate-confirmed t later w ended kept h =
      let s : IsSettling v u t.number = confirmed-settling v u t.number e.event step h in
      let other = stands_from (v.lines u) t.number (Waiting s.target) (pending-waits (accepted_from v u) (v.lines u) (record { number = t.number; target = s.target }) fates s.pending) in
      let mine = stands_from (v.lines u) t.number (Waiting t.target) w.waits in
      let same : s.target ≡ t.target = (let k : Waiting s.target ≡ Waiting t.target = stands_once (v.lines u) t.number other.0 mine.0 (Waiting s.target) (Waiting t.target) other.1 mine.1 in cc) in
      let after : status_after t.number (Waiting t.target) e.event ≡ Transferred = rw (kept, h) refl in
      record {
        entry = e;
        ended = ended;
        confirmed = h;
        transferred = status_kept (v.lines u) e t.number (Waiting t.target) w.waits ∙ ap Some after;
        accepted_there = subst (λ (i : ℕ). has_accepted (v.lines i) u t.number ≡ true) same s.accepted;
      }

  fate-ended : (t : Transfer) (later : Lines) → StillWaits (v.lines u) t later → end_of t (more later e) ≡ Some e → Ends t e.event → Fate (accepted_from v u) (more (v.lines u) e) t (more later e)
  fate-ended t later w ended (Loses h) = inr (inr (record { entry = e; ended = ended; lost = h; returned = returned_now (v.lines u) e t.number t.target w.waits h }))
  fate-ended t later w ended (Confirms kept h) = inr (inl (fate-confirmed t later w ended kept h))

  fate-waiting : (t : Transfer) (later : Lines) (b : Bool) → ends_transfer t e.event ≡ b → StillWaits (v.lines u) t later → Fate (accepted_from v u) (more (v.lines u) e) t (more later e)
  fate-waiting t later true k w =
      fate-ended t later w (end_now t later e true w.unended k) (ends_by t e.event (open_stays v u e.event step) k)
  fate-waiting t later false k w =
      inl (record {
        unended = end_now t later e false w.unended k;
        waits = status_kept (v.lines u) e t.number (Waiting t.target) w.waits ∙ ap Some (status-kept t e.event k);
      })

  fate-more : (t : Transfer) (later : Lines) → Fate (accepted_from v u) (v.lines u) t later → Fate (accepted_from v u) (more (v.lines u) e) t (more later e)
  fate-more t later (inl w) = fate-waiting t later (ends_transfer t e.event) refl w
  fate-more t later (inr (inl k)) =
      let stays : status_after t.number Transferred e.event ≡ Transferred = ap (λ b. cond b Removed Transferred) (open_stays v u e.event step) in
      inr (inl (record {
        entry = k.entry;
        ended = end_kept t later e k.entry k.ended;
        confirmed = k.confirmed;
        transferred = status_kept (v.lines u) e t.number Transferred k.transferred ∙ ap Some stays;
        accepted_there = k.accepted_there;
      }))
  fate-more t later (inr (inr k)) =
      inr (inr (record { entry = k.entry; ended = end_kept t later e k.entry k.ended; lost = k.lost; returned = returned_kept (v.lines u) e t.number k.returned }))

  -- a departure by the new entry
  fate-new : (t : Transfer) → contains_number t.number (effect_of e.event).departures ≡ true → (effect_of e.event).target ≡ t.target → Fate (accepted_from v u) (more (v.lines u) e) t []
  fate-new t h target =
      let d = departing v u t.number e.event step h in
      inl (record { unended = refl; waits = status_kept (v.lines u) e t.number Present d.0 ∙ (ap Some d.1 ∙ ap (λ (i : ℕ). Some (Waiting i)) target) })

  fates-at : (place : ℕ) (t : Transfer) (entry : Line) → contains_number t.number (effect_of entry.event).departures ≡ true → (effect_of entry.event).target ≡ t.target
      → (b : Bool) → nat_lt place (length (v.lines u)) ≡ b → cond b (slice_get (v.lines u) place) (slice_get (e ∷ []) (place - length (v.lines u))) ≡ Some entry
      → Fate (accepted_from v u) (more (v.lines u) e) t (drop (suc place) (more (v.lines u) e))
  fates-at place t entry leaves target true before stands =
      let within : place < length (v.lines u) = slice_get_within (v.lines u) place entry stands in
      subst (Fate (accepted_from v u) (more (v.lines u) e) t) (sym (drop-append-le (suc place) (v.lines u) (e ∷ []) within))
      (fate-more t (drop (suc place) (v.lines u)) (fates.1 place t (record { entry = entry; stands = stands; leaves = leaves; target = target })))
  fates-at place t entry leaves target false behind same =
      let only = slice_get-only e entry (place - length (v.lines u)) same in
      let is : entry ≡ e = sym only.1 in
      let past : length (v.lines u) ≤ place = ltb-false place (length (v.lines u)) behind in
      let end : place ≡ length (v.lines u) = omega (arith, only.0) in
      subst (Fate (accepted_from v u) (more (v.lines u) e) t) (sym (drop_all (suc place) (more (v.lines u) e) (rw length-append (omega arith))))
      (fate-new t (subst (λ (x : Line). contains_number t.number (effect_of x.event).departures ≡ true) is leaves) (subst (λ (x : Line). (effect_of x.event).target ≡ t.target) is target))

  fates-more : AreFates (accepted_from v u) (more (v.lines u) e)
  fates-more = (alone-push (v.lines u) e fates.0 (step_alone v u e.event step), λ place t d. fates-at place t d.entry d.leaves d.target (nat_lt place (length (v.lines u))) refl (sym (slice_get-append (v.lines u) (e ∷ []) place) ∙ d.stands))

-- ---- fates after a step

fates-weaker : (a b : ℕ → ℕ → Bool) → ((target n : ℕ) → a target n ≡ true → b target n ≡ true) → (lines : Lines) → AreFates a lines → AreFates b lines
fates-weaker a b f lines h = (h.0, λ place t d. fate-weaker a b f lines t (drop (suc place) lines) (h.1 place t d))

-- what was accepted stays accepted
abbrev pub Keeps : View → View → Type 0
Keeps v v' = (u target n : ℕ) → accepted_from v u target n ≡ true → accepted_from v' u target n ≡ true

pub keeps-same : (v v' : View) → ((w : ℕ) → v'.lines w ≡ v.lines w) → Keeps v v'
keeps-same v v' same u target n h = ap (λ (ls : Lines). has_accepted ls u n) (same target) ∙ h

pub keeps-grown : (v v' : View) (own : ℕ) (e : Line) → Grows v v' own e → Keeps v v'
keeps-grown v v' own e g u target n = by_growth v v' own e g (λ one other. has_accepted one u n ≡ true → has_accepted other u n ≡ true) (accepted_kept (v.lines own) e u n) (λ ls h. h) target

fates-same : (v v' : View) (u : ℕ) → Keeps v v' → v'.lines u ≡ v.lines u → AreFates (accepted_from v u) (v.lines u) → AreFates (accepted_from v' u) (v'.lines u)
fates-same v v' u keeps same h =
    subst (AreFates (accepted_from v' u)) (sym same) (fates-weaker (accepted_from v u) (accepted_from v' u) (λ target n k. keeps u target n k) (v.lines u) h)

no-departures : (event opening : Event ContentText) (n : ℕ) → event ≡ opening → contains_number n (effect_of opening).departures ≡ false → contains_number n (effect_of event).departures ≡ false
no-departures event opening n e h = ap (λ (x : Event ContentText). contains_number n (effect_of x).departures) e ∙ h

fates-first : (accepted : ℕ → ℕ → Bool) (e : Line) → StandsAlone e.event → ((n : ℕ) → contains_number n (effect_of e.event).departures ≡ false) → AreFates accepted (e ∷ [])
fates-first accepted e alone none = ((alone, tt), at)
  where
    at : (place : ℕ) (t : Transfer) → IsDeparture (e ∷ []) place t → Fate accepted (e ∷ []) t (drop (suc place) (e ∷ []))
    at zero t d =
        absurd (false≢true (sym (none t.number) ∙ subst (λ (x : Line). contains_number t.number (effect_of x.event).departures ≡ true) (sym (same_Some e d.entry d.stands)) d.leaves))
    at (suc place) t d = absurd (none-some d.entry d.stands)

module _ (v v' : View) where
  pub fates-opened : (u : ℕ) (e : Line) → Grows v v' u e → IsOpened v v' u e → HasFates v → HasFates v'
  fates-opened u e g o fates w there =
      by_uid w u (λ i. AreFates (accepted_from v' i) (v'.lines i))
      (subst (AreFates (accepted_from v' u)) (sym (g.here ∙ ap (λ (ls : Lines). more ls e) o.unused))
      (fates-first (accepted_from v' u) e (ap (λ (x : Event ContentText). (effect_of x).since) o.opening) (λ n. no-departures e.event (Opened u o.settings) n o.opening refl)))
      (λ differs. fates-same v v' w (keeps-grown v v' u e g) (g.others w differs) (fates w (sym (o.others w differs) ∙ there)))

  pub fates-after : {ending : ℕ → Type 0} → Change ending v v' → HasFates v → HasFates v'
  fates-after (Stays lines gates) fates = λ w there. fates-same v v' w (keeps-same v v' lines) (lines w) (fates w (sym (gates w) ∙ there))
  fates-after (Steps u e g gates here step) fates = λ w there.
      by_uid w u (λ i. AreFates (accepted_from v' i) (v'.lines i))
      (subst (AreFates (accepted_from v' u)) (sym g.here)
      (fates-weaker (accepted_from v u) (accepted_from v' u) (λ target n k. keeps-grown v v' u e g u target n k) (more (v.lines u) e) (fates-more v u e step (fates u here))))
      (λ differs. fates-same v v' w (keeps-grown v v' u e g) (g.others w differs) (fates w (sym (gates w) ∙ there)))
  fates-after (Opens u e g o) fates = fates-opened u e g o fates
  fates-after (Closes u e g c ends) fates = λ w.
      by_uid w u (λ i. v'.is_open i ≡ true → AreFates (accepted_from v' i) (v'.lines i)) (λ there. absurd (false≢true (sym c.is_closed ∙ there)))
      (λ differs there. fates-same v v' w (keeps-grown v v' u e g) (g.others w differs) (fates w (sym (c.others w differs) ∙ there)))
