-- What each event makes of an index of messages, from what its changes make of the records.
use Rattle.std.proofs.Common.{◌≡◌, ℕ, zero, suc, ◌+◌, ◌-◌, ◌*◌, ◌≤◌, Bool, true, false, not, cond, ◌||◌, ◌&&◌, ◌==◌, List, [], ◌∷◌, ◌++◌, length, refl, sym, ap, ◌∙◌, subst, inl, inr, ◌⊎◌, eqb, arith, nat_eq, filter, slice_index, Option, Some, None, option_map, option_and_then, append-nil, length-append}
use Rattle.std.specs.Prelude.{nat_lt, slice_get}
use Rattle.std.specs.VecDeque.{deque_capacity}
use Rattle.std.proofs.lemmas.List.{get_or_append_left, get_or-append_right, get_or_past}
use Rattle.std.proofs.lemmas.Option.{slice_get_past}
use Rattle.std.proofs.lemmas.Bool.{ltb-false, lt-ltb, le-ltb, cases_lt, eqb-true, eq-eqb, ne_eqb, cases_eq, true≢false, both_ways, and_parts, false_from_ne_true}
use Rattle.std.proofs.lemmas.List.Kept.{AllPairs-filter}
use Rattle.message.specs.Content.{ContentText}
use Rattle.queue_config.specs.Settings.{QueueSettings}
use Rattle.journal.specs.declared.entry.Event.{Event}
use Rattle.journal.specs.declared.entry.Event.TheVariants.{Received, Changed, Deleted, DeletedAgain, Purged, Set, Settled, Orphaned, Closed}
use Rattle.queue_core.specs.declared.effect.Change.TheVariants.{Nothing}
use Rattle.queue_core.specs.private.Effects.{changed_by}
use Rattle.queue_core.specs.private.Tally.{births}
use Rattle.queue_core.specs.Messages.{Birth, Effect, effect_of, contains_number, offers_number, loses, closes, closes_period}
use Rattle.queue_core.specs.declared.slot.Stay.{Stay}
use Rattle.queue_core.specs.declared.slot.Stay.TheVariants.{Hidden, Shown, Left}
use Rattle.queue_core.specs.declared.record.Record.{Record}
use Rattle.queue_core.specs.declared.index.MessageIndex.{MessageIndex}
use Rattle.queue_core.specs.private.Slots.{is_here, is_left, is_left_stay}
use Rattle.queue_core.specs.private.Records.{records_in, slots_in, born_in, with_stay, hidden_until, received_at, back_at, is_left_record, offered_after, rescheduled_after, here_after, left_after, record_after, record_after_stay, born_record, record_of_birth, record_begun, records_after, Records, HasIndices, IsIndexed}
use Rattle.queue_core.specs.private.Applying.{CanApply, counted_if, HaveReceived, HaveCounted, HasChanged, among, where_here, where_left, where_left_stay, ended_by, returned_from}
use Rattle.queue_core.proofs.entries.NumberLemmas.{AreOnce, or-false, contains-append, contains-filter, filter_same, filter_alike, filter_none, once-append}
use Rattle.queue_core.proofs.PushLemmas.{mapped_some}
use Rattle.queue_core.proofs.records.ChangeLemmas.{and_then-some, and_then-same, left_stay-none, changed-then, changed-same, outside}

-- all that an event makes of an index
pub record IsApplied (s : QueueSettings) (at : ℕ) (event : Event ContentText) (x y : MessageIndex) : Type 0 where
  pub indexed : IsIndexed y
  pub records : (n : ℕ) → records_in y n ≡ records_after s at event (born_in x) (records_in x) n
  pub receives : HaveReceived event x.receives.items y.receives.items
  pub leaving : y.leaving.items ≡ filter (λ n. is_left (slots_in y n)) x.leaving.items ++ (effect_of event).departures

-- ---- one record, by where it stands

by-stay : (s : QueueSettings) (at : ℕ) (event : Event ContentText) (n : ℕ) (r : Record) (o : Option Record)
    → (is_left_record r ≡ false → here_after at event n r ≡ o) → ((target : ℕ) (ran_out : Bool) → r.slot.stay ≡ Left target ran_out → left_after s at event n target ran_out r ≡ o)
    → record_after s at event n r ≡ o
by-stay s at event n r o here left =
    elim r.slot.stay as (λ (stay : Stay). r.slot.stay ≡ stay → record_after_stay s at event n stay r ≡ o) [
      | Hidden ↦ λ e. here (ap is_left_stay e)
      | Shown ↦ λ e. here (ap is_left_stay e)
      | Left target ran_out ↦ λ e. left target ran_out e
    ] refl

-- one that has left, and stays so
left-kept : (r : Record) (target : ℕ) (ran_out : Bool) → r.slot.stay ≡ Left target ran_out → Some (with_stay (Left target (ran_out || false)) r) ≡ Some r
left-kept r target ran_out is = ap (λ (stay : Stay). Some (with_stay stay r)) (ap (λ b. Left target b) (or-false ran_out) ∙ sym is)

left-record : (r : Record) (target : ℕ) (ran_out : Bool) → r.slot.stay ≡ Left target ran_out → is_left_record r ≡ true
left-record r target ran_out is = ap is_left_stay is

-- ---- all records

no-record : (o : Option Record) → option_map (λ r. r.slot) o ≡ None → o ≡ None
no-record None h = refl
no-record (Some r) h = absurd cc

-- where none begins
unborn : (s : QueueSettings) (at : ℕ) (event : Event ContentText) (x : MessageIndex) → HasIndices x → (effect_of event).births ≡ []
    → (n : ℕ) → records_after s at event (born_in x) (records_in x) n ≡ option_and_then (λ r. record_after s at event n r) (records_in x n)
unborn s at event x is none n =
    elim (nat_lt n (born_in x)) as (λ (b : Bool). nat_lt n (born_in x) ≡ b
    → cond b (option_and_then (λ r. record_after s at event n r) (records_in x n)) (record_begun at event (born_in x) n) ≡ option_and_then (λ r. record_after s at event n r) (records_in x n)) [
      | true ↦ λ e. refl
      | false ↦ λ e. let past : records_in x n ≡ None = no-record (records_in x n) (is.indices.few n (ltb-false n (born_in x) e)) in
          ap (λ (bs : List (Birth ContentText)). option_and_then (record_of_birth at) (slice_get bs (n - born_in x))) none
          ∙ sym (ap (λ (o : Option Record). option_and_then (λ r. record_after s at event n r) o) past)
    ] refl

-- what has left after an event had left before it or leaves with it
moved : (due at : ℕ) (offers reschedules : Bool) (r : Record) → is_left_record r ≡ false
    → is_left_record (cond reschedules (hidden_until due (cond offers (received_at at r) r)) (cond offers (received_at at r) r)) ≡ false
moved due at offers true r h = refl
moved due at true false r h = h
moved due at false false r h = h

here-left : (removes departs : Bool) (gone stays : Record) → is_left_record stays ≡ false
    → is_left (option_map (λ x. x.slot) (cond removes None (Some (cond departs gone stays)))) ≡ true → departs ≡ true
here-left true departs gone stays h e = absurd (true≢false (sym e))
here-left false true gone stays h e = refl
here-left false false gone stays h e = absurd (both_ways (is_left_record stays) h e)

left-before : (s : QueueSettings) (at : ℕ) (event : Event ContentText) (n : ℕ) (r : Record) → is_left (option_map (λ x. x.slot) (record_after s at event n r)) ≡ true
    → (is_left_record r ≡ true) ⊎ (contains_number n (effect_of event).departures ≡ true)
left-before s at event n r =
    let stays : Record = rescheduled_after at event n (offered_after at event n r) in
    let there : is_left_record r ≡ false → is_left (option_map (λ x. x.slot) (here_after at event n r)) ≡ true → contains_number n (effect_of event).departures ≡ true =
    λ h. here-left ((effect_of event).removes n) (contains_number n (effect_of event).departures) (with_stay (Left (effect_of event).target false) stays) stays
    (moved (at + 1000 * (effect_of event).timeout) at (offers_number n event) (contains_number n (effect_of event).rescheduled) r h) in
    elim r.slot.stay as (λ (stay : Stay). r.slot.stay ≡ stay → is_left (option_map (λ x. x.slot) (record_after_stay s at event n stay r)) ≡ true
    → (is_left_record r ≡ true) ⊎ (contains_number n (effect_of event).departures ≡ true)) [
      | Hidden ↦ λ e h. inr (there (ap is_left_stay e) h)
      | Shown ↦ λ e h. inr (there (ap is_left_stay e) h)
      | Left target ran_out ↦ λ e h. inl (left-record r target ran_out e)
    ] refl

left-before-all : (s : QueueSettings) (at : ℕ) (event : Event ContentText) (n : ℕ) (o : Option Record)
    → is_left (option_map (λ x. x.slot) (option_and_then (λ r. record_after s at event n r) o)) ≡ true
    → (is_left (option_map (λ x. x.slot) o) ≡ true) ⊎ (contains_number n (effect_of event).departures ≡ true)
left-before-all s at event n None h = inl h
left-before-all s at event n (Some r) h = left-before s at event n r h

here-or-left : (o : Option Record) → is_here (option_map (λ x. x.slot) o) ≡ true → is_left (option_map (λ x. x.slot) o) ≡ true → ⊥
here-or-left None h l = true≢false (sym l)
here-or-left (Some r) h l = true≢false (sym h ∙ ap not l)

both : (after before departs : Bool) → (departs ≡ true → after ≡ true) → (after ≡ true → (before ≡ true) ⊎ (departs ≡ true)) → ((after && before) || departs) ≡ after
both true true departs f g = refl
both true false true f g = refl
both true false false f g = elim (g refl) [ inl e ↦ absurd (true≢false (sym e)) | inr e ↦ absurd (true≢false (sym e)) ]
both false before true f g = sym (f refl)
both false before false f g = refl

-- ---- an event that begins no message

module _ (s : QueueSettings) (at : ℕ) (event : Event ContentText) (f : ℕ → Record → Option Record) (x y : MessageIndex) (is : IsIndexed x) (none : (effect_of event).births ≡ []) (changed : HasChanged f x y)
    (after : (n : ℕ) (r : Record) → records_in x n ≡ Some r → f n r ≡ record_after s at event n r) where
  records-are : (n : ℕ) → records_in y n ≡ option_and_then (λ r. record_after s at event n r) (records_in x n)
  records-are n = (changed-same f (λ n r. record_after s at event n r) x y after changed).records n

  pub applied : HaveReceived event x.receives.items y.receives.items → y.leaving.items ≡ filter (λ n. is_left (slots_in y n)) x.leaving.items ++ (effect_of event).departures
      → AreOnce (effect_of event).departures → ((n : ℕ) → contains_number n (effect_of event).departures ≡ true → (is_here (slots_in x n) ≡ true) × (is_left (slots_in y n) ≡ true)) → IsApplied s at event x y
  applied receives leaving once departing =
      let stays : ℕ → Bool = λ n. is_left (slots_in y n) in
      let before : (n : ℕ) → stays n ≡ true → (is_left (slots_in x n) ≡ true) ⊎ (contains_number n (effect_of event).departures ≡ true) =
      λ n h. left-before-all s at event n (records_in x n) (sym (ap (λ (o : Option Record). is_left (option_map (λ r. r.slot) o)) (records-are n)) ∙ h) in
      let apart : (n : ℕ) → contains_number n (filter stays x.leaving.items) ≡ true → contains_number n (effect_of event).departures ≡ false =
      λ n h. false_from_ne_true (contains_number n (effect_of event).departures)
      (λ e. here-or-left (records_in x n) (departing n e).0 (sym (is.leaving n) ∙ (and_parts (stays n) (contains_number n x.leaving.items) (sym (contains-filter n stays x.leaving.items) ∙ h)).1)) in
      record {
        indexed = record {
          indices = changed.indices;
          leaving = λ n. ap (λ (xs : List ℕ). contains_number n xs) leaving ∙ contains-append n (filter stays x.leaving.items) (effect_of event).departures
              ∙ ap (λ b. b || contains_number n (effect_of event).departures) (contains-filter n stays x.leaving.items ∙ ap (λ b. stays n && b) (is.leaving n))
              ∙ both (stays n) (is_left (slots_in x n)) (contains_number n (effect_of event).departures) (λ e. (departing n e).1) (before n);
          once = subst AreOnce (sym leaving)
              (once-append (filter stays x.leaving.items) (effect_of event).departures (AllPairs-filter (λ a b. nat_eq a b ≡ false) stays x.leaving.items is.once) once apart);
        };
        records = λ n. records-are n ∙ sym (unborn s at event x is.indices none n);
        receives = receives;
        leaving = leaving;
      }

-- ---- what stays

unreceived : (event : Event ContentText) (old new : List ℕ) → (effect_of event).births ≡ [] → ((n : ℕ) → offers_number n event ≡ false) → new ≡ old → HaveReceived event old new
unreceived event old new none offers same =
    let n : length new ≡ length old = ap length same in
    let b : births event ≡ 0 = ap (λ (bs : List (Birth ContentText)). length bs) none in
    record {
      len = omega arith;
      counts = λ k h. ap (λ (xs : List ℕ). slice_index xs k) same ∙ sym (ap (λ (b : Bool). counted_if b (slice_index old k)) (offers k));
      begun = λ k h. get_or_past new k 0 (omega arith);
    }

left-stays : (f : ℕ → Record → Option Record) (n : ℕ) (o : Option Record) → ((r : Record) → is_left_record r ≡ true → is_left (option_map (λ x. x.slot) (f n r)) ≡ true)
    → is_left (option_map (λ x. x.slot) o) ≡ true → is_left (option_map (λ x. x.slot) (option_and_then (f n) o)) ≡ true
left-stays f n None h l = l
left-stays f n (Some r) h l = h r l

-- those that have left stay so
pub leaving-stays : (f : ℕ → Record → Option Record) (x y : MessageIndex) → IsIndexed x → HasChanged f x y
    → ((n : ℕ) (r : Record) → is_left_record r ≡ true → is_left (option_map (λ x. x.slot) (f n r)) ≡ true) → x.leaving.items ≡ filter (λ n. is_left (slots_in y n)) x.leaving.items
leaving-stays f x y is changed h =
    sym (filter_same (λ n. is_left (slots_in y n)) x.leaving.items
    (λ n k. ap (λ (o : Option Record). is_left (option_map (λ r. r.slot) o)) (changed.records n) ∙ left-stays f n (records_in x n) (h n) (sym (is.leaving n) ∙ k)))

among-here : (numbers : List ℕ) (change : Record → Option Record) (n : ℕ) (r : Record) → is_left_record r ≡ true → among numbers (where_here change) n r ≡ Some r
among-here numbers change n r left =
    ap (λ l. cond (contains_number n numbers) (cond l (Some r) (change r)) (Some r)) left
    ∙ elim (contains_number n numbers) as (λ (b : Bool). cond b (Some r) (Some r) ≡ Some r) [ true ↦ refl | false ↦ refl ]

among-left : (numbers : List ℕ) (change : ℕ → Bool → Record → Option Record) (n : ℕ) (r : Record) → is_left_record r ≡ false → among numbers (where_left change) n r ≡ Some r
among-left numbers change n r here =
    ap (λ (o : Option Record). cond (contains_number n numbers) o (Some r)) (left_stay-none change r.slot.stay r here)
    ∙ elim (contains_number n numbers) as (λ (b : Bool). cond b (Some r) (Some r) ≡ Some r) [ true ↦ refl | false ↦ refl ]

slot-left : (o : Option Record) (r : Record) → o ≡ Some r → is_left_record r ≡ true → is_left (option_map (λ x. x.slot) o) ≡ true
slot-left o r is left = ap (λ (p : Option Record). is_left (option_map (λ x. x.slot) p)) is ∙ left

-- an event that leaves what has left where it is, and lets nothing leave
module _ (s : QueueSettings) (at : ℕ) (event : Event ContentText) (f : ℕ → Record → Option Record) (x y : MessageIndex) (is : IsIndexed x) (none : (effect_of event).births ≡ [])
    (offers : (n : ℕ) → offers_number n event ≡ false) (departures : (effect_of event).departures ≡ []) (changed : HasChanged f x y)
    (after : (n : ℕ) (r : Record) → records_in x n ≡ Some r → f n r ≡ record_after s at event n r) (receives : y.receives.items ≡ x.receives.items) where
  pub applied-leaving : y.leaving.items ≡ filter (λ n. is_left (slots_in y n)) x.leaving.items → IsApplied s at event x y
  applied-leaving leaving =
      applied s at event f x y is none changed after (unreceived event x.receives.items y.receives.items none offers receives)
      (leaving ∙ sym (append-nil (filter (λ n. is_left (slots_in y n)) x.leaving.items)) ∙ ap (λ (xs : List ℕ). filter (λ n. is_left (slots_in y n)) x.leaving.items ++ xs) (sym departures))
      (subst AreOnce (sym departures) (λ i j d l h. absurd (omega arith)))
      (λ n h. absurd (true≢false (sym h ∙ ap (λ (xs : List ℕ). contains_number n xs) departures)))

  pub applied-kept : y.leaving.items ≡ x.leaving.items → ((n : ℕ) (r : Record) → is_left_record r ≡ true → is_left (option_map (λ x. x.slot) (f n r)) ≡ true) → IsApplied s at event x y
  applied-kept leaving h = applied-leaving (leaving ∙ leaving-stays f x y is changed h)

-- ---- the events

module _ (s : QueueSettings) (at : ℕ) (x y : MessageIndex) (is : IsIndexed x) where
  after-changed : (number timeout n : ℕ) (r : Record) → among (number ∷ []) (where_here (λ r. Some (hidden_until (at + 1000 * timeout) r))) n r ≡ record_after s at (Changed number timeout) n r
  after-changed number timeout n r =
      let f = among (number ∷ []) (where_here (λ r. Some (hidden_until (at + 1000 * timeout) r))) n r in
      let there : (b l : Bool) → l ≡ false → Some (cond (b || false) (hidden_until (at + 1000 * timeout) r) r) ≡ cond (b || false) (cond l (Some r) (Some (hidden_until (at + 1000 * timeout) r))) (Some r) =
      λ b l. elim b as (λ (v : Bool). l ≡ false → Some (cond (v || false) (hidden_until (at + 1000 * timeout) r) r) ≡ cond (v || false) (cond l (Some r) (Some (hidden_until (at + 1000 * timeout) r))) (Some r)) [
        | true ↦ λ h. ap (λ v. cond v (Some r) (Some (hidden_until (at + 1000 * timeout) r))) (sym h)
        | false ↦ λ h. refl
      ] in
      sym (by-stay s at (Changed number timeout) n r f (there (eqb number n) (is_left_record r))
      (λ target ran_out e. left-kept r target ran_out e ∙ sym (among-here (number ∷ []) (λ r. Some (hidden_until (at + 1000 * timeout) r)) n r (left-record r target ran_out e))))

  pub changed-applied : (number timeout : ℕ) → HasChanged (among (number ∷ []) (where_here (λ r. Some (hidden_until (at + 1000 * timeout) r)))) x y
      → y.receives.items ≡ x.receives.items → y.leaving.items ≡ x.leaving.items → IsApplied s at (Changed number timeout) x y
  changed-applied number timeout changed receives leaving =
      applied-kept s at (Changed number timeout) (among (number ∷ []) (where_here (λ r. Some (hidden_until (at + 1000 * timeout) r)))) x y is refl (λ n. refl) refl changed
      (λ n r e. after-changed number timeout n r) receives leaving
      (λ n r l. slot-left _ r (among-here (number ∷ []) (λ r. Some (hidden_until (at + 1000 * timeout) r)) n r l) l)

  after-deleted : (number n : ℕ) (r : Record) → among (number ∷ []) (where_here (λ r. None)) n r ≡ record_after s at (Deleted number) n r
  after-deleted number n r =
      let there : (b l : Bool) → l ≡ false → cond b None (Some r) ≡ cond (b || false) (cond l (Some r) None) (Some r) =
      λ b l. elim b as (λ (v : Bool). l ≡ false → cond v None (Some r) ≡ cond (v || false) (cond l (Some r) None) (Some r)) [
        | true ↦ λ h. ap (λ v. cond v (Some r) None) (sym h)
        | false ↦ λ h. refl
      ] in
      sym (by-stay s at (Deleted number) n r (among (number ∷ []) (where_here (λ r. None)) n r) (there (eqb number n) (is_left_record r))
      (λ target ran_out e. left-kept r target ran_out e ∙ sym (among-here (number ∷ []) (λ r. None) n r (left-record r target ran_out e))))

  pub deleted-applied : (number : ℕ) → HasChanged (among (number ∷ []) (where_here (λ r. None))) x y → y.receives.items ≡ x.receives.items → y.leaving.items ≡ x.leaving.items
      → IsApplied s at (Deleted number) x y
  deleted-applied number changed receives leaving =
      applied-kept s at (Deleted number) (among (number ∷ []) (where_here (λ r. None))) x y is refl (λ n. refl) refl changed (λ n r e. after-deleted number n r) receives leaving
      (λ n r l. slot-left _ r (among-here (number ∷ []) (λ r. None) n r l) l)

  purged-left : (r : Record) → is_left_record r ≡ true → where_here (λ r. None) r ≡ Some r
  purged-left r l = ap (λ b. cond b (Some r) None) l

  pub purged-applied : HasChanged (λ n. where_here (λ r. None)) x y → y.receives.items ≡ x.receives.items → y.leaving.items ≡ x.leaving.items → IsApplied s at Purged x y
  purged-applied changed receives leaving =
      applied-kept s at Purged (λ n. where_here (λ r. None)) x y is refl (λ n. refl) refl changed
      (λ n r e. sym (by-stay s at Purged n r (where_here (λ r. None) r) (λ h. ap (λ b. cond b (Some r) None) (sym h))
      (λ target ran_out e. left-kept r target ran_out e ∙ sym (purged-left r (left-record r target ran_out e)))))
      receives leaving (λ n r l. slot-left _ r (purged-left r l) l)

  ended-stays : (stay : Stay) (r : Record) → is_left_stay stay ≡ true → is_left (option_map (λ x. x.slot) (where_left_stay (ended_by s.retention_seconds at) stay r)) ≡ true
  ended-stays Hidden r h = absurd (true≢false (sym h))
  ended-stays Shown r h = absurd (true≢false (sym h))
  ended-stays (Left target ran_out) r h = refl

  pub set-applied : (settings : QueueSettings) → HasChanged (λ n. where_left (ended_by s.retention_seconds at)) x y
      → y.receives.items ≡ x.receives.items → y.leaving.items ≡ x.leaving.items → IsApplied s at (Set settings) x y
  set-applied settings changed receives leaving =
      applied-kept s at (Set settings) (λ n. where_left (ended_by s.retention_seconds at)) x y is refl (λ n. refl) refl changed
      (λ n r e. sym (by-stay s at (Set settings) n r (where_left (ended_by s.retention_seconds at) r) (λ h. sym (left_stay-none (ended_by s.retention_seconds at) r.slot.stay r h))
      (λ target ran_out e. sym (ap (λ (stay : Stay). where_left_stay (ended_by s.retention_seconds at) stay r) e))))
      receives leaving (λ n r l. ended-stays r.slot.stay r l)

  abbrev going : ℕ → Bool → Record → Option Record
  going target ran_out r = None

  after-settled : (number n : ℕ) (r : Record) → among (number ∷ []) (where_left going) n r ≡ record_after s at (Settled number) n r
  after-settled number n r =
      let out : (b : Bool) (o : Option Record) → o ≡ None → cond b None (Some r) ≡ cond (b || false) o (Some r) =
      λ b o. elim b as (λ (v : Bool). o ≡ None → cond v None (Some r) ≡ cond (v || false) o (Some r)) [ true ↦ λ h. sym h | false ↦ λ h. refl ] in
      sym (by-stay s at (Settled number) n r (among (number ∷ []) (where_left going) n r) (λ h. sym (among-left (number ∷ []) going n r h))
      (λ target ran_out e. ap (λ (o : Option Record). cond (eqb number n) None o) (left-kept r target ran_out e)
      ∙ out (eqb number n) (where_left going r) (ap (λ (stay : Stay). where_left_stay going stay r) e)))

  going-none : (stay : Stay) (r : Record) → is_left_stay stay ≡ true → where_left_stay going stay r ≡ None
  going-none Hidden r h = absurd (true≢false (sym h))
  going-none Shown r h = absurd (true≢false (sym h))
  going-none (Left target ran_out) r h = refl

  -- what is left of those that had left: all but the one whose transfer is confirmed
  settled-left : (number n : ℕ) (o : Option Record) → is_left (option_map (λ x. x.slot) o) ≡ true
      → not (eqb n number) ≡ is_left (option_map (λ x. x.slot) (option_and_then (among (number ∷ []) (where_left going) n) o))
  settled-left number n None h = absurd (true≢false (sym h))
  settled-left number n (Some r) h =
      elim (cases_eq n number) [
        | inl same ↦
            ap not (eq-eqb n number same)
            ∙ sym (ap (λ b. is_left (option_map (λ x. x.slot) (cond (b || false) (where_left going r) (Some r)))) (eq-eqb number n (sym same))
            ∙ ap (λ (o : Option Record). is_left (option_map (λ x. x.slot) o)) (going-none r.slot.stay r h))
        | inr other ↦
            ap not (ne_eqb n number other)
            ∙ sym (ap (λ b. is_left (option_map (λ x. x.slot) (cond (b || false) (where_left going r) (Some r)))) (ne_eqb number n (λ e. other (sym e))) ∙ h)
      ]

  pub settled-applied : (number : ℕ) → HasChanged (among (number ∷ []) (where_left (λ target ran_out r. None))) x y → y.receives.items ≡ x.receives.items
      → y.leaving.items ≡ filter (λ n. not (n == number)) x.leaving.items → IsApplied s at (Settled number) x y
  settled-applied number changed receives leaving =
      applied-leaving s at (Settled number) (among (number ∷ []) (where_left going)) x y is refl (λ n. refl) refl changed (λ n r e. after-settled number n r) receives
      (leaving ∙ filter_alike (λ n. not (eqb n number)) (λ n. is_left (slots_in y n)) x.leaving.items
      (λ n h. settled-left number n (records_in x n) (sym (is.leaving n) ∙ h) ∙ sym (ap (λ (o : Option Record). is_left (option_map (λ r. r.slot) o)) (changed.records n))))

  pub orphaned-applied : (lost : ℕ) → HasChanged (λ n. where_left (returned_from lost at)) x y
      → y.receives.items ≡ x.receives.items → y.leaving.items ≡ filter (λ n. is_left (slots_in y n)) x.leaving.items → IsApplied s at (Orphaned lost) x y
  orphaned-applied lost changed receives leaving =
      applied-leaving s at (Orphaned lost) (λ n. where_left (returned_from lost at)) x y is refl (λ n. refl) refl changed
      (λ n r e. sym (by-stay s at (Orphaned lost) n r (where_left (returned_from lost at) r) (λ h. sym (left_stay-none (returned_from lost at) r.slot.stay r h))
      (λ target ran_out e. ap (λ (o : Option Record). cond (eqb lost target) (cond ran_out None (Some (back_at at r))) o) (left-kept r target ran_out e)
      ∙ sym (ap (λ (stay : Stay). where_left_stay (returned_from lost at) stay r) e))))
      receives leaving

  none-left : (o : Option Record) → is_left (option_map (λ r. r.slot) (option_and_then {U = Record} (λ (r : Record). None) o)) ≡ false
  none-left None = refl
  none-left (Some r) = refl

  pub closed-applied : HasChanged (λ n r. None) x y → y.receives.items ≡ x.receives.items → y.leaving.items ≡ [] → IsApplied s at Closed x y
  closed-applied changed receives leaving =
      applied-leaving s at Closed (λ n r. None) x y is refl (λ n. refl) refl changed (λ n r e. sym (by-stay s at Closed n r None (λ h. refl) (λ target ran_out e. refl))) receives
      (leaving ∙ sym (filter_none (λ n. is_left (slots_in y n)) x.leaving.items
      (λ n h. ap (λ (o : Option Record). is_left (option_map (λ r. r.slot) o)) (changed.records n) ∙ none-left (records_in x n))))

-- ---- an event that changes no message

pub deleted_again-applied : (s : QueueSettings) (at : ℕ) (x : MessageIndex) → IsIndexed x → IsApplied s at DeletedAgain x x
deleted_again-applied s at x is =
    applied-kept s at DeletedAgain (λ n r. Some r) x x is refl (λ n. refl) refl (record { indices = is.indices; records = λ n. sym (and_then-some (records_in x n)) })
    (λ n r e. sym (by-stay s at DeletedAgain n r (Some r) (λ h. refl) (λ target ran_out e. left-kept r target ran_out e))) refl refl (λ n r l. l)

-- ---- events that begin a message

zero-alone : (k : ℕ) → slice_index (0 ∷ []) k ≡ 0
zero-alone zero = refl
zero-alone (suc k) = refl

begun-receives : (event : Event ContentText) (old new : List ℕ) → births event ≡ 1 → ((n : ℕ) → offers_number n event ≡ false) → new ≡ old ++ 0 ∷ [] → HaveReceived event old new
begun-receives event old new one offers is =
    let n : length new ≡ length old + 1 = ap length is ∙ length-append old (0 ∷ []) in
    record {
      len = omega arith;
      counts = λ k h. ap (λ (xs : List ℕ). slice_index xs k) is ∙ get_or_append_left old (0 ∷ []) 0 k h ∙ sym (ap (λ (b : Bool). counted_if b (slice_index old k)) (offers k));
      begun = λ k h. ap (λ (xs : List ℕ). slice_index xs k) is ∙ get_or-append_right old (0 ∷ []) (length old) k 0 refl h ∙ zero-alone (k - length old);
    }

-- what is there behind a birth, by number
begun-alone : (count n : ℕ) (kept : Record) (old : Option Record) → (count ≤ n → old ≡ None)
    → cond (nat_eq n count) (Some kept) old ≡ cond (nat_lt n count) old (option_map (λ (k : Record). k) (slice_get (kept ∷ []) (n - count)))
begun-alone count n kept old past = elim (cases_lt n count) [
  | inl before ↦ rw (ne_eqb n count (λ e. omega arith), lt-ltb n count before) refl
  | inr behind ↦ rw (le-ltb n count behind) (elim (cases_eq n count) [
    | inl same ↦ let first : n - count ≡ 0 = omega arith in rw (eq-eqb n count same, first) refl
    | inr other ↦ rw (ne_eqb n count other) (past behind ∙ ap (option_map (λ (k : Record). k)) (sym (slice_get_past (kept ∷ []) (n - count) (omega arith))))
  ])
]

-- what begins has not left
born-here : (at : ℕ) (birth : Birth ContentText) (content : Option ContentText) (kept : Record) → option_map (born_record at birth) content ≡ Some kept → is_left_record kept ≡ false
born-here at birth content kept h = let text = mapped_some (born_record at birth) content kept h in ap is_left_record (sym text.2)

module _ (s : QueueSettings) (at : ℕ) (event : Event ContentText) (birth : Birth ContentText) (settings : Option QueueSettings) (opens : Bool) (kept : Record) (x y : MessageIndex) (is : IsIndexed x)
    (told : effect_of event ≡ record (changed_by Nothing (Some birth)) { settings = settings; opens = opens }) (born : record_of_birth at birth ≡ Some kept) where
  pub birth-applied : HasIndices y → ((n : ℕ) → records_in y n ≡ cond (nat_eq n (born_in x)) (Some kept) (records_in x n)) → y.receives.items ≡ x.receives.items ++ 0 ∷ []
      → y.leaving.items ≡ x.leaving.items → IsApplied s at event x y
  birth-applied indices records receives leaving =
      let after : (n : ℕ) (r : Record) → Some r ≡ record_after s at event n r =
      λ n r. sym (by-stay s at event n r (Some r) (λ h. rw (told, offers_number) refl) (λ target ran_out e. rw (told, loses, closes, closes_period) (left-kept r target ran_out e))) in
      let left : (n : ℕ) → is_left (slots_in y n) ≡ is_left (slots_in x n) =
      λ n. ap (λ (o : Option Record). is_left (option_map (λ r. r.slot) o)) (records n)
      ∙ elim (nat_eq n (born_in x)) as (λ (b : Bool). nat_eq n (born_in x) ≡ b → is_left (option_map (λ r. r.slot) (cond b (Some kept) (records_in x n))) ≡ is_left (slots_in x n)) [
        | true ↦ λ e. let same : n ≡ born_in x = eqb-true n (born_in x) e in born-here at birth birth.content kept born ∙ sym (ap is_left (is.indices.indices.few n (omega arith)))
        | false ↦ λ e. refl
      ] refl in
      let begun : (n : ℕ) → option_map (λ (k : Record). k) (slice_get (kept ∷ []) (n - born_in x)) ≡ record_begun at event (born_in x) n =
      λ n. one-begun (n - born_in x) ∙ sym (ap (λ (e : Effect ContentText). option_and_then (record_of_birth at) (slice_get e.births (n - born_in x))) told) in
      record {
        indexed = record {
          indices = indices;
          leaving = λ n. ap (λ (xs : List ℕ). contains_number n xs) leaving ∙ is.leaving n ∙ sym (left n);
          once = subst AreOnce (sym leaving) is.once;
        };
        records = λ n. records n
            ∙ begun-alone (born_in x) n kept (records_in x n) (λ past. no-record (records_in x n) (is.indices.indices.few n past))
            ∙ ap (λ (o : Option Record). cond (nat_lt n (born_in x)) (records_in x n) o) (begun n)
            ∙ ap (λ (o : Option Record). cond (nat_lt n (born_in x)) o (record_begun at event (born_in x) n)) (sym (and_then-some (records_in x n)) ∙ and_then-same (λ r. Some r) (λ r. record_after s at event n r) (records_in x n) (λ r e. after n r));
        receives = begun-receives event x.receives.items y.receives.items (ap (λ (e : Effect ContentText). length e.births) told) (λ n. ap (λ (e : Effect ContentText). contains_number n e.offered) told) receives;
        leaving = leaving ∙ sym (filter_same (λ n. is_left (slots_in y n)) x.leaving.items (λ n h. left n ∙ sym (is.leaving n) ∙ h))
            ∙ sym (append-nil (filter (λ n. is_left (slots_in y n)) x.leaving.items)) ∙ ap (λ (xs : List ℕ). filter (λ n. is_left (slots_in y n)) x.leaving.items ++ xs) (sym (ap (λ (e : Effect ContentText). e.departures) told));
      }
    where
      one-begun : (i : ℕ) → option_map (λ (k : Record). k) (slice_get (kept ∷ []) i) ≡ option_and_then (record_of_birth at) (slice_get (birth ∷ []) i)
      one-begun zero = sym born
      one-begun (suc i) = refl

-- ---- messages that are received

module _ (s : QueueSettings) (at timeout target : ℕ) (offered leaving : List ℕ) (x mid y : MessageIndex) (is : IsIndexed x) (about : CanApply (Received timeout offered leaving target) x) where
  abbrev departs : ℕ → Record → Option Record
  departs = among leaving (λ r. Some (with_stay (Left target false) r))

  abbrev offers : ℕ → Record → Option Record
  offers = among offered (λ r. Some (hidden_until (at + 1000 * timeout) (received_at at r)))

  not_offered : (n : ℕ) → is_left (slots_in x n) ≡ true → contains_number n offered ≡ false
  not_offered n left = false_from_ne_true (contains_number n offered) (λ e. here-or-left (records_in x n) (about.offered n e) left)

  not_leaving : (n : ℕ) → is_left (slots_in x n) ≡ true → contains_number n leaving ≡ false
  not_leaving n left = false_from_ne_true (contains_number n leaving) (λ e. here-or-left (records_in x n) (about.departing n e) left)

  one-received : (leaves offers : Bool) (r : Record) → (offers ≡ true → leaves ≡ false)
      → Some (cond leaves (with_stay (Left target false) (cond offers (hidden_until (at + 1000 * timeout) (cond offers (received_at at r) r)) (cond offers (received_at at r) r))) (cond offers (hidden_until (at + 1000 * timeout) (cond offers (received_at at r) r)) (cond offers (received_at at r) r)))
      ≡ option_and_then (λ x. cond offers (Some (hidden_until (at + 1000 * timeout) (received_at at x))) (Some x)) (cond leaves (Some (with_stay (Left target false) r)) (Some r))
  one-received true true r h = absurd (true≢false (h refl))
  one-received true false r h = refl
  one-received false true r h = refl
  one-received false false r h = refl

  untouched : (n : ℕ) (r : Record) → contains_number n leaving ≡ false → contains_number n offered ≡ false → option_and_then (offers n) (departs n r) ≡ Some r
  untouched n r l o =
      ap (λ b. option_and_then (offers n) (cond b (Some (with_stay (Left target false) r)) (Some r))) l ∙ ap (λ b. cond b (Some (hidden_until (at + 1000 * timeout) (received_at at r))) (Some r)) o

  departed : (n : ℕ) (o : Option Record) → is_here (option_map (λ r. r.slot) o) ≡ true → contains_number n leaving ≡ true → contains_number n offered ≡ false
      → is_left (option_map (λ r. r.slot) (option_and_then (λ r. option_and_then (offers n) (departs n r)) o)) ≡ true
  departed n None h l o = absurd (true≢false (sym h))
  departed n (Some r) h l o =
      ap (λ b. is_left (option_map (λ x. x.slot) (option_and_then (offers n) (cond b (Some (with_stay (Left target false) r)) (Some r))))) l
      ∙ ap (λ b. is_left (option_map (λ x. x.slot) (cond b (Some (hidden_until (at + 1000 * timeout) (received_at at (with_stay (Left target false) r)))) (Some (with_stay (Left target false) r))))) o

  after-received : (n : ℕ) (r : Record) → records_in x n ≡ Some r → option_and_then (offers n) (departs n r) ≡ record_after s at (Received timeout offered leaving target) n r
  after-received n r is_r =
      sym (by-stay s at (Received timeout offered leaving target) n r (option_and_then (offers n) (departs n r))
      (λ h. one-received (contains_number n leaving) (contains_number n offered) r (about.apart n))
      (λ own ran_out e. let left : is_left (slots_in x n) ≡ true = slot-left (records_in x n) r is_r (left-record r own ran_out e) in
      left-kept r own ran_out e ∙ sym (untouched n r (not_leaving n left) (not_offered n left))))

  pub received-applied : HasChanged (among leaving (λ r. Some (with_stay (Left target false) r))) x mid
      → HasChanged (among offered (λ r. Some (hidden_until (at + 1000 * timeout) (received_at at r)))) mid y
      → HaveCounted offered x.receives.items y.receives.items → y.leaving.items ≡ x.leaving.items ++ leaving → IsApplied s at (Received timeout offered leaving target) x y
  received-applied first second counted queue =
      let changed = changed-then departs offers x mid y first second in
      let stays : (n : ℕ) → contains_number n x.leaving.items ≡ true → is_left (slots_in y n) ≡ true =
      λ n h. let left : is_left (slots_in x n) ≡ true = sym (is.leaving n) ∙ h in
      ap (λ (o : Option Record). is_left (option_map (λ r. r.slot) o))
      (outside (λ r. Some (hidden_until (at + 1000 * timeout) (received_at at r))) offered n mid y second (not_offered n left)
      ∙ outside (λ r. Some (with_stay (Left target false) r)) leaving n x mid first (not_leaving n left)) ∙ left in
      let received : HaveReceived (Received timeout offered leaving target) x.receives.items y.receives.items = record {
        len = let n = counted.len in omega arith;
        counts = counted.counts;
        begun = λ n h. let l = counted.len in get_or_past y.receives.items n 0 (omega arith);
      } in
      applied s at (Received timeout offered leaving target) (λ n r. option_and_then (offers n) (departs n r)) x y is refl changed after-received received
      (queue ∙ ap (λ (xs : List ℕ). xs ++ leaving) (sym (filter_same (λ n. is_left (slots_in y n)) x.leaving.items stays)))
      about.departing_once
      (λ n h. (
        about.departing n h,
        ap (λ (o : Option Record). is_left (option_map (λ r. r.slot) o)) (changed.records n)
            ∙ departed n (records_in x n) (about.departing n h) h (false_from_ne_true (contains_number n offered) (λ e. both_ways (contains_number n leaving) (about.apart n e) h)),
      ))

-- ---- an effect

-- an event whose effect is another's, but for settings and opening
module _ (s : QueueSettings) (at : ℕ) (event other : Event ContentText) (settings : Option QueueSettings) (opens : Bool) (all : effect_of event ≡ record (effect_of other) { settings = settings; opens = opens }) where
  stay-alike : (n : ℕ) (stay : Stay) (r : Record) → record_after_stay s at other n stay r ≡ record_after_stay s at event n stay r
  stay-alike n Hidden r = rw (all, offers_number) refl
  stay-alike n Shown r = rw (all, offers_number) refl
  stay-alike n (Left target ran_out) r = rw (all, loses, closes, closes_period) refl

  records-alike : (count n : ℕ) (records : Records) → records_after s at other count records n ≡ records_after s at event count records n
  records-alike count n records =
      ap (λ (o : Option Record). cond (nat_lt n count) o (record_begun at other count n)) (and_then-same (λ r. record_after s at other n r) (λ r. record_after s at event n r) (records n) (λ r e. stay-alike n r.slot.stay r))
      ∙ ap (λ (e : Effect ContentText). cond (nat_lt n count) (option_and_then (λ r. record_after s at event n r) (records n)) (option_and_then (record_of_birth at) (slice_get e.births (n - count)))) (sym all)

  pub can_apply-alike : (x : MessageIndex) → CanApply event x → CanApply other x
  can_apply-alike x can = record {
    offered = λ n h. can.offered n (ap (λ (e : Effect ContentText). contains_number n e.offered) all ∙ h);
    departing = λ n h. can.departing n (ap (λ (e : Effect ContentText). contains_number n e.departures) all ∙ h);
    apart = λ n h. sym (ap (λ (e : Effect ContentText). contains_number n e.departures) all) ∙ can.apart n (ap (λ (e : Effect ContentText). contains_number n e.offered) all ∙ h);
    departing_once = subst (λ (e : Effect ContentText). AreOnce e.departures) all can.departing_once;
    offered_once = subst (λ (e : Effect ContentText). AreOnce e.offered) all can.offered_once;
    alone = sym (ap (λ (e : Effect ContentText). e.since) all) ∙ can.alone;
    room = subst (λ (e : Effect ContentText). length x.leaving.items + length e.departures ≤ deque_capacity x.leaving) all can.room;
  }

  pub alike-applied : (x y : MessageIndex) → IsApplied s at other x y → IsApplied s at event x y
  alike-applied x y done = record {
    indexed = done.indexed;
    records = λ n. done.records n ∙ records-alike (born_in x) n (records_in x);
    receives = record { len = rw all done.receives.len; counts = λ n h. rw (all, offers_number) (done.receives.counts n h); begun = done.receives.begun };
    leaving = rw all done.leaving;
  }
