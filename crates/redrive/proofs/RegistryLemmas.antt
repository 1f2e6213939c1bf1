-- What is true of every registry stays true as queues are added and changed.
use Rattle.std.proofs.Common.{◌≡◌, ◌≢◌, ℕ, ◌+◌, ◌<◌, ◌≤◌, Bool, true, false, not, cond, List, [], ◌∷◌, ◌++◌, length, get_or, set, take, drop, map, Option, Some, None, Result, Ok, Err, refl, sym, ap, subst, ◌∙◌, arith, Decides, append_assoc, eqb-true}
use Rattle.std.specs.Prelude.{nat_eq, OnOk, OnErr, IfOk}
use Rattle.std.specs.List.{find, position, IsDistinct}
use Rattle.std.specs.Option.{option_map, option_or}
use Rattle.std.specs.Str.{bytes_eq}
use Rattle.std.proofs.lemmas.Cmp.{nat_eq_equiv}
use Rattle.std.proofs.lemmas.List.{map-append, length-map, length-append, length-take-le, drop_more, get_or_at, set_at, map_more}
use Rattle.std.proofs.lemmas.List.Elements.{All-nil, All-filter, All-push, All-map, All-weaker}
use Rattle.std.proofs.lemmas.List.Filters.{length-filter_both}
use Rattle.std.proofs.lemmas.List.Folds.{find-append}
use Rattle.std.proofs.lemmas.Slice.Eq.{bytes_eq-Decides}
use Rattle.message.specs.declared.fault.Fault.{Fault}
use Rattle.message.specs.declared.fault.Fault.TheVariants.{QueueDoesNotExist}
use Rattle.message.specs.Fault.{Meets, is_out_of_memory}
use Rattle.message.specs.Content.{ContentText}
use Rattle.queue_config.specs.AlarmRules.{Rule}
use Rattle.queue_config.specs.Limits.{QueueLimits, default_limits}
use Rattle.queue_config.specs.Settings.{QueueSettings, default_settings}
use Rattle.journal.specs.declared.entry.Event.{Event}
use Rattle.queue_core.specs.declared.command.Command.{Command}
use Rattle.queue_core.specs.Messages.{is_closed}
use Rattle.queue_core.specs.Queue.{QueueHistory, at_moment, leaves_clock, reached, outcome_at, with_event, with_optional_event, after_answer, rebased, rebased_where}
use Rattle.queue_core.specs.Whole.{without_limit, is_journal_full, whole_after}
use Rattle.redrive.specs.declared.place.QueuePlace.{QueuePlace}
use Rattle.redrive.specs.House.{House, has_no_place, empty_house, queue_named, queue_of_uid, found_uid, StandsAt, with_queue, next_queue, without_queue, queue_answer, with_queue_changed, house_after_command, house_at_moment, IsRegistry}
use Rattle.redrive.specs.Keys.{KeyLists}
use Rattle.redrive.specs.private.ByPlace.{closes_queue, IsKept}
use Rattle.redrive.proofs.KeyedLemmas.{find-map, find-passes, places_left, IsDistinct-push, IsDistinct-filter, map-key, find-unused, filter-absent, find-position, find-no_position, map-absent, placed-by}
use Rattle.redrive.proofs.ClosingLemmas.{unclosed-after_answer}

pub IsRegistry-empty : (limits : QueueLimits) → IsRegistry (empty_house limits)
unfolding IsDistinct
IsRegistry-empty limits = record { count = omega arith; names = tt; uids = tt; used = All-nil _; first = All-nil _; begun = omega arith; last = omega arith; limits = All-nil _; unclosed = All-nil _ }

-- ---- one queue more

pub IsRegistry-with_queue : (w : House) (q : QueueHistory) → IsRegistry w → queue_named w q.name ≡ None → q.uid ≡ w.next_uid → q.limits ≡ w.limits
    → is_closed q.lines ≡ false → has_no_place w ≡ false → IsRegistry (with_queue w q)
IsRegistry-with_queue w q h none uid limits unclosed place =
    let left = places_left (length w.queues) w.next_uid place in
    let few = left.0 in
    let below = left.1 in
    record {
      count = omega (arith, length-append w.queues (q ∷ []));
      names = IsDistinct-push bytes_eq (λ (x : QueueHistory). x.name) w.queues q h.names none;
      uids = IsDistinct-push nat_eq (λ (x : QueueHistory). x.uid) w.queues q h.uids (rw uid (find-unused (λ (x : QueueHistory). x.uid) w.next_uid w.queues h.used));
      used = All-push (λ x. x.uid < w.next_uid + 1) w.queues q (All-weaker (λ x. x.uid < w.next_uid) (λ x. x.uid < w.next_uid + 1) (λ x l. omega arith) w.queues h.used) (omega arith);
      first = All-push (λ x. 1 ≤ x.uid) w.queues q h.first (let begun = h.begun in omega arith);
      begun = omega arith;
      last = omega arith;
      limits = All-push (λ x. x.limits ≡ w.limits) w.queues q h.limits limits;
      unclosed = All-push (λ x. is_closed x.lines ≡ false) w.queues q h.unclosed unclosed;
    }

pub IsRegistry-opened : (w new : House) (at : ℕ) (name : List ℕ) (settings : QueueSettings) (rules : List Rule) (r : Result ℕ Fault) → IsRegistry w → queue_named w name ≡ None
    → has_no_place w ≡ false → OnOk r (new ≡ with_queue w (next_queue w at name settings rules)) → OnErr r (new ≡ w) → IsRegistry new
IsRegistry-opened w new at name settings rules (Ok uid) h none place ok err = rw ok (IsRegistry-with_queue w (next_queue w at name settings rules) h none refl refl refl place)
IsRegistry-opened w new at name settings rules (Err fault) h none place ok err = rw err h

-- ---- queues changed, each under its uid, name and limits

module _ (f : QueueHistory → QueueHistory) where
  pub IsRegistry-map : (w : House) → ((q : QueueHistory) → (f q).uid ≡ q.uid) → ((q : QueueHistory) → (f q).name ≡ q.name) → ((q : QueueHistory) → (f q).limits ≡ q.limits)
      → ((q : QueueHistory) → is_closed q.lines ≡ false → is_closed (f q).lines ≡ false) → IsRegistry w → IsRegistry (record w { queues = map f w.queues })
  IsRegistry-map w uid name limits unclosed h = record {
    count = rw (length-map w.queues f) h.count;
    names = subst (λ names. IsDistinct bytes_eq names) (sym (map-key bytes_eq (λ (q : QueueHistory). q.name) f name w.queues)) h.names;
    uids = subst (λ uids. IsDistinct nat_eq uids) (sym (map-key nat_eq (λ (q : QueueHistory). q.uid) f uid w.queues)) h.uids;
    used = All-map (λ q. q.uid < w.next_uid) f w.queues (All-weaker (λ q. q.uid < w.next_uid) (λ q. (f q).uid < w.next_uid) (λ q l. rw (uid q) l) w.queues h.used);
    first = All-map (λ q. 1 ≤ q.uid) f w.queues (All-weaker (λ q. 1 ≤ q.uid) (λ q. 1 ≤ (f q).uid) (λ q l. rw (uid q) l) w.queues h.first);
    begun = h.begun;
    last = h.last;
    unclosed = All-map (λ q. is_closed q.lines ≡ false) f w.queues (All-weaker (λ q. is_closed q.lines ≡ false) (λ q. is_closed (f q).lines ≡ false) unclosed w.queues h.unclosed);
    limits = All-map (λ q. q.limits ≡ w.limits) f w.queues (All-weaker (λ q. q.limits ≡ w.limits) (λ q. (f q).limits ≡ w.limits) (λ q e. limits q ∙ e) w.queues h.limits);
  }

-- a command keeps its queue's uid, name and limits
module _ {K : Type 0} (key : QueueHistory → K) (clock : (q : QueueHistory) (at : ℕ) → key (at_moment q at) ≡ key q)
    (entry : (q : QueueHistory) (event : Event ContentText) → key (with_event q event) ≡ key q) (based : (q : QueueHistory) → key (rebased q) ≡ key q) where
  based-keeps : (rebases : Bool) (q : QueueHistory) → key (rebased_where rebases q) ≡ key q
  based-keeps true q = based q
  based-keeps false q = refl

  left-keeps : (b rebases : Bool) (q : QueueHistory) (event : Option (Event ContentText)) → key (cond b q (with_optional_event (rebased_where rebases q) event)) ≡ key q
  left-keeps true rebases q event = refl
  left-keeps false rebases q None = based-keeps rebases q
  left-keeps false rebases q (Some event) = entry (rebased_where rebases q) event ∙ based-keeps rebases q

  reached-keeps : (b : Bool) (q : QueueHistory) (at : ℕ) → key (cond b q (at_moment q at)) ≡ key q
  reached-keeps true q at = refl
  reached-keeps false q at = clock q at

  after_answer-keeps : {T : Type 0} (at : ℕ) (command : Command) (answer : Result T Fault) (q : QueueHistory) → key (after_answer q at command answer) ≡ key q
  after_answer-keeps at command answer q =
      left-keeps (is_out_of_memory answer) (outcome_at q at command).rebases (reached q at command) (outcome_at q at command).event ∙ reached-keeps (leaves_clock command) q at

pub at_uid-keeps : {K : Type 0} (key : QueueHistory → K) (b : Bool) (q next : QueueHistory) → key next ≡ key q → key (cond b next q) ≡ key q
at_uid-keeps key true q next h = h
at_uid-keeps key false q next h = refl

pub after_answer-uid : {T : Type 0} (at : ℕ) (command : Command) (answer : Result T Fault) (q : QueueHistory) → (after_answer q at command answer).uid ≡ q.uid
after_answer-uid at command answer q = after_answer-keeps (λ q. q.uid) (λ q at. refl) (λ q event. refl) (λ q. refl) at command answer q

-- so does a queue with its whole journal
pub whole_after-uid : {T : Type 0} (at : ℕ) (command : Command) (answer : Result T Fault) (q : QueueHistory) → (whole_after q at command answer).uid ≡ q.uid
whole_after-uid at command answer q = by_full (is_journal_full answer)
  where
    by_full : (b : Bool) → let r : QueueHistory = cond b (reached q at command) (after_answer (without_limit q) at command answer) in r.uid ≡ q.uid
    by_full true = reached-keeps (λ q. q.uid) (λ q at. refl) (λ q event. refl) (λ q. refl) (leaves_clock command) q at
    by_full false = after_answer-uid at command answer (without_limit q)

at_uid-unclosed : (b : Bool) (q next : QueueHistory) → (is_closed q.lines ≡ false → is_closed next.lines ≡ false) → is_closed q.lines ≡ false → is_closed (cond b next q).lines ≡ false
at_uid-unclosed true q next h k = h k
at_uid-unclosed false q next h k = k

IsRegistry-changed : (w : House) (uid : ℕ) (f : QueueHistory → QueueHistory) → ((q : QueueHistory) → (f q).uid ≡ q.uid) → ((q : QueueHistory) → (f q).name ≡ q.name)
    → ((q : QueueHistory) → (f q).limits ≡ q.limits) → ((q : QueueHistory) → is_closed q.lines ≡ false → is_closed (f q).lines ≡ false) → IsRegistry w → IsRegistry (with_queue_changed w uid f)
IsRegistry-changed w uid f own name limits unclosed h =
    IsRegistry-map (λ q. cond (nat_eq q.uid uid) (f q) q) w
    (λ q. at_uid-keeps (λ q. q.uid) (nat_eq q.uid uid) q (f q) (own q)) (λ q. at_uid-keeps (λ q. q.name) (nat_eq q.uid uid) q (f q) (name q))
    (λ q. at_uid-keeps (λ q. q.limits) (nat_eq q.uid uid) q (f q) (limits q)) (λ q. at_uid-unclosed (nat_eq q.uid uid) q (f q) (unclosed q)) h

pub IsRegistry-after_step : {T : Type 0} (w : House) (uid at : ℕ) (command : Command) (answer : Result T Fault) → closes_queue command ≡ false → IsRegistry w
    → IsRegistry (with_queue_changed w uid (λ q. after_answer q at command answer))
IsRegistry-after_step w uid at command answer stays h =
    IsRegistry-changed w uid (λ q. after_answer q at command answer) (after_answer-uid at command answer)
    (after_answer-keeps (λ q. q.name) (λ q at. refl) (λ q event. refl) (λ q. refl) at command answer) (after_answer-keeps (λ q. q.limits) (λ q at. refl) (λ q event. refl) (λ q. refl) at command answer)
    (λ q. unclosed-after_answer at command answer q stays) h

pub IsRegistry-at_moment : (w : House) (at : ℕ) → IsRegistry w → IsRegistry (house_at_moment w at)
IsRegistry-at_moment w at h = IsRegistry-map (λ q. at_moment q at) w (λ q. refl) (λ q. refl) (λ q. refl) (λ q k. k) h

-- ---- the keys that are kept beside the queues

pub IsKept-empty : (limits : QueueLimits) (k : KeyLists) → k.uids ≡ [] → k.names ≡ [] → IsKept (empty_house limits) k
IsKept-empty limits k uids names = record { registry = IsRegistry-empty limits; uids = uids; names = names }

-- the same keys
pub IsKept-same : (w : House) (k l : KeyLists) → l.uids ≡ k.uids → l.names ≡ k.names → IsKept w k → IsKept w l
IsKept-same w k l uids names h = record { registry = h.registry; uids = uids ∙ h.uids; names = names ∙ h.names }

pub IsKept-with_queue : (w : House) (q : QueueHistory) (k l : KeyLists) → IsKept w k → IsRegistry (with_queue w q) → l.uids ≡ k.uids ++ q.uid ∷ [] → l.names ≡ k.names ++ q.name ∷ []
    → IsKept (with_queue w q) l
IsKept-with_queue w q k l h registry uids names = record {
  registry = registry;
  uids = uids ∙ ap (λ (us : List ℕ). us ++ q.uid ∷ []) h.uids ∙ sym (map-append (λ (x : QueueHistory). x.uid) w.queues (q ∷ []));
  names = names ∙ ap (λ (ns : List (List ℕ)). ns ++ q.name ∷ []) h.names ∙ sym (map-append (λ (x : QueueHistory). x.name) w.queues (q ∷ []));
}

module _ (w : House) (k : KeyLists) (h : IsKept w k) where
  IsKept-map : (f : QueueHistory → QueueHistory) → ((q : QueueHistory) → (f q).uid ≡ q.uid) → ((q : QueueHistory) → (f q).name ≡ q.name) → IsRegistry (record w { queues = map f w.queues })
      → IsKept (record w { queues = map f w.queues }) k
  IsKept-map f uid name registry = record {
    registry = registry;
    uids = h.uids ∙ sym (map-key nat_eq (λ (q : QueueHistory). q.uid) f uid w.queues);
    names = h.names ∙ sym (map-key bytes_eq (λ (q : QueueHistory). q.name) f name w.queues);
  }

  pub IsKept-after_step : {T : Type 0} (uid at : ℕ) (command : Command) (answer : Result T Fault) → closes_queue command ≡ false
      → IsKept (with_queue_changed w uid (λ q. after_answer q at command answer)) k
  IsKept-after_step uid at command answer stays =
      IsKept-map (λ q. cond (nat_eq q.uid uid) (after_answer q at command answer) q)
      (λ q. at_uid-keeps (λ q. q.uid) (nat_eq q.uid uid) q (after_answer q at command answer) (after_answer-uid at command answer q))
      (λ q. at_uid-keeps (λ q. q.name) (nat_eq q.uid uid) q (after_answer q at command answer) (after_answer-keeps (λ q. q.name) (λ q at. refl) (λ q event. refl) (λ q. refl) at command answer q))
      (IsRegistry-after_step w uid at command answer stays h.registry)

  pub IsKept-at_moment : (at : ℕ) → IsKept (house_at_moment w at) k
  IsKept-at_moment at = IsKept-map (λ q. at_moment q at) (λ q. refl) (λ q. refl) (IsRegistry-at_moment w at h.registry)

  pub IsKept-moved : (uid at : ℕ) → IsKept (with_queue_changed w uid (λ q. at_moment q at)) k
  IsKept-moved uid at =
      IsKept-map (λ q. cond (nat_eq q.uid uid) (at_moment q at) q) (λ q. at_uid-keeps (λ q. q.uid) (nat_eq q.uid uid) q (at_moment q at) refl)
      (λ q. at_uid-keeps (λ q. q.name) (nat_eq q.uid uid) q (at_moment q at) refl) (IsRegistry-changed w uid (λ q. at_moment q at) (λ q. refl) (λ q. refl) (λ q. refl) (λ q k. k) h.registry)

-- ---- the queue of a uid changed, where it stands

abbrev uid_of : QueueHistory → ℕ
uid_of q = q.uid

-- some queue, read only past the end of a list
pub some_queue : QueueHistory
some_queue = next_queue (empty_house default_limits) 0 [] default_settings []

pub present-absent : (w : House) (uid place : ℕ) → position (λ q. nat_eq q.uid uid) w.queues ≡ Some place → queue_of_uid w uid ≡ None → ⊥
present-absent w uid place h none =
    let here : find (λ q. nat_eq q.uid uid) w.queues ≡ Some (get_or w.queues place some_queue) = find-position uid_of uid w.queues place some_queue h in
    cc

pub command-absent_answer : (w : House) (uid at : ℕ) (command : Command) → position (λ q. nat_eq q.uid uid) w.queues ≡ None → queue_answer w uid at command ≡ Err QueueDoesNotExist
command-absent_answer w uid at command h = rw (find-no_position uid_of uid w.queues h) refl

-- a queue that is not there
pub changed-none : (w : House) (uid : ℕ) (f : QueueHistory → QueueHistory) → queue_of_uid w uid ≡ None → with_queue_changed w uid f ≡ w
changed-none w uid f none = ap (λ (queues : List QueueHistory). record w { queues = queues }) (map-absent uid_of uid f w.queues none)

pub without-none : (w : House) (uid : ℕ) → queue_of_uid w uid ≡ None → without_queue w uid ≡ w
without-none w uid none = ap (λ (queues : List QueueHistory). record w { queues = queues }) (filter-absent uid_of uid w.queues none)

pub changed-absent : (w : House) (uid : ℕ) (f : QueueHistory → QueueHistory) → position (λ q. nat_eq q.uid uid) w.queues ≡ None → with_queue_changed w uid f ≡ w
changed-absent w uid f h = changed-none w uid f (find-no_position uid_of uid w.queues h)

module _ (w : House) (own uid : ℕ) where
  uid-found : (q : QueueHistory) → queue_of_uid w uid ≡ Some q → q.uid ≡ uid
  uid-found q here = eqb-true q.uid uid (find-passes (λ x. nat_eq x.uid uid) w.queues q here)

  changed-found : (f : QueueHistory → QueueHistory) (b : Bool) (o : Option QueueHistory) → queue_of_uid w uid ≡ o → nat_eq own uid ≡ b
      → option_map (λ q. cond (nat_eq q.uid own) (f q) q) o ≡ cond b (option_map f o) o
  changed-found f true None here e = refl
  changed-found f false None here e = refl
  changed-found f true (Some q) here e = rw (ap (λ (u : ℕ). nat_eq u own) (uid-found q here) ∙ nat_eq_equiv.symm uid own ∙ e) refl
  changed-found f false (Some q) here e = rw (ap (λ (u : ℕ). nat_eq u own) (uid-found q here) ∙ nat_eq_equiv.symm uid own ∙ e) refl

  -- the queue of a uid, where that of the same or of another uid is changed
  pub changed-queue : (f : QueueHistory → QueueHistory) (b : Bool) → ((q : QueueHistory) → (f q).uid ≡ q.uid) → nat_eq own uid ≡ b
      → queue_of_uid (with_queue_changed w own f) uid ≡ cond b (option_map f (queue_of_uid w uid)) (queue_of_uid w uid)
  changed-queue f b keeps e =
      find-map (λ x. nat_eq x.uid uid) (λ q. cond (nat_eq q.uid own) (f q) q)
      (λ x. ap (λ (u : ℕ). nat_eq u uid) (at_uid-keeps (λ q. q.uid) (nat_eq x.uid own) x (f x) (keeps x))) w.queues
      ∙ changed-found f b (queue_of_uid w uid) refl e

-- ---- where queues stand, and what names find, after a command

module _ (w : House) (own : ℕ) (f : QueueHistory → QueueHistory) (same_uid : (q : QueueHistory) → (f q).uid ≡ q.uid) where
  abbrev changed : QueueHistory → QueueHistory
  changed q = cond (nat_eq q.uid own) (f q) q

  changed-uid : (q : QueueHistory) → (changed q).uid ≡ q.uid
  changed-uid q = at_uid-keeps uid_of (nat_eq q.uid own) q (f q) (same_uid q)

  place-changed : (uid : ℕ) → position (λ q. nat_eq q.uid uid) (map changed w.queues) ≡ position (λ q. nat_eq q.uid uid) w.queues
  place-changed uid =
      sym (placed-by uid_of (λ u. nat_eq u uid) (map uid_of w.queues) (map changed w.queues) (sym (map-key nat_eq uid_of changed changed-uid w.queues)))
      ∙ placed-by uid_of (λ u. nat_eq u uid) (map uid_of w.queues) w.queues refl

  uid-changed : (o : Option QueueHistory) → option_map uid_of (option_map changed o) ≡ option_map uid_of o
  uid-changed None = refl
  uid-changed (Some q) = ap Some (changed-uid q)

  found-changed : ((q : QueueHistory) → (f q).name ≡ q.name) → (name : List ℕ) → found_uid (with_queue_changed w own f) name ≡ found_uid w name
  found-changed same_name name =
      ap (option_map uid_of)
      (find-map (λ q. bytes_eq q.name name) changed (λ q. ap (λ (n : List ℕ). bytes_eq n name) (at_uid-keeps (λ q. q.name) (nat_eq q.uid own) q (f q) (same_name q))) w.queues)
      ∙ uid-changed (queue_named w name)

module _ {T : Type 0} (w new : House) (at : ℕ) (command : Command) (answer : Result T Fault) where
  pub stays-after_command : (found : QueuePlace) → new ≡ house_after_command w found.uid at command answer → StandsAt w found → StandsAt new found
  stays-after_command found is here =
      ap (λ (w : House). position (λ q. nat_eq q.uid found.uid) w.queues) is
      ∙ place-changed w found.uid (λ q. after_answer q at command answer) (after_answer-uid at command answer) found.uid ∙ here

  pub found-after_command : (uid : ℕ) → new ≡ house_after_command w uid at command answer → (name : List ℕ) → found_uid new name ≡ found_uid w name
  found-after_command uid is name =
      ap (λ (w : House). found_uid w name) is
      ∙ found-changed w uid (λ q. after_answer q at command answer) (after_answer-uid at command answer)
      (after_answer-keeps (λ q. q.name) (λ q at. refl) (λ q event. refl) (λ q. refl) at command answer) name

-- ---- a queue deleted

pub delete-absent_state : (w : House) (uid : ℕ) → position (λ q. nat_eq q.uid uid) w.queues ≡ None → without_queue w uid ≡ w
delete-absent_state w uid h = without-none w uid (find-no_position uid_of uid w.queues h)

pub IsRegistry-without : (w : House) (uid : ℕ) → IsRegistry w → IsRegistry (without_queue w uid)
IsRegistry-without w uid h =
    let stays : QueueHistory → Bool = λ q. not (nat_eq q.uid uid) in
    record {
      count = let all = h.count in omega (arith, length-filter_both stays (λ q. not (stays q)) (λ q. refl) w.queues);
      names = IsDistinct-filter bytes_eq (λ (q : QueueHistory). q.name) stays w.queues h.names;
      uids = IsDistinct-filter nat_eq (λ (q : QueueHistory). q.uid) stays w.queues h.uids;
      used = All-filter stays (λ q. q.uid < w.next_uid) w.queues h.used;
      first = All-filter stays (λ q. 1 ≤ q.uid) w.queues h.first;
      begun = h.begun;
      last = h.last;
      limits = All-filter stays (λ q. q.limits ≡ w.limits) w.queues h.limits;
      unclosed = All-filter stays (λ q. is_closed q.lines ≡ false) w.queues h.unclosed;
    }

-- a queue whose clock alone has moved
pub IsRegistry-moved : (w : House) (uid at : ℕ) → IsRegistry w → IsRegistry (with_queue_changed w uid (λ q. at_moment q at))
IsRegistry-moved w uid at h = IsRegistry-changed w uid (λ q. at_moment q at) (λ q. refl) (λ q. refl) (λ q. refl) (λ q k. k) h

-- ---- names after a create

bytes_eq-false : (xs ys : List ℕ) (b : Bool) → Decides b (xs ≡ ys) → (xs ≡ ys → ⊥) → b ≡ false
bytes_eq-false xs ys true d h = absurd (h (d.0 refl))
bytes_eq-false xs ys false d h = refl

found-new : (w : House) (q : QueueHistory) → queue_named w q.name ≡ None → found_uid (with_queue w q) q.name ≡ Some q.uid
found-new w q none =
    rw (find-append (λ x. bytes_eq x.name q.name) w.queues (q ∷ []), none, (bytes_eq-Decides q.name q.name).1 refl) refl

same-or : (o : Option QueueHistory) → option_map (λ q. q.uid) (option_or o None) ≡ option_map (λ q. q.uid) o
same-or None = refl
same-or (Some q) = refl

found-other : (w : House) (q : QueueHistory) (other : List ℕ) → other ≢ q.name → found_uid (with_queue w q) other ≡ found_uid w other
found-other w q other differs =
    rw (find-append (λ x. bytes_eq x.name other) w.queues (q ∷ []), bytes_eq-false q.name other (bytes_eq q.name other) (bytes_eq-Decides q.name other) (λ e. differs (sym e)))
    (same-or (find (λ x. bytes_eq x.name other) w.queues))

pub found-opened : (old new : House) (at : ℕ) (name : List ℕ) (settings : QueueSettings) (rules : List Rule) (r : Result ℕ Fault) → queue_named old name ≡ None → Meets r (Ok old.next_uid)
    → OnOk r (new ≡ with_queue old (next_queue old at name settings rules)) → IfOk r (λ uid. found_uid new name ≡ Some uid)
found-opened old new at name settings rules (Ok uid) none meets ok =
    let e : uid ≡ old.next_uid = cc in
    rw (ok, e) (found-new old (next_queue old at name settings rules) none)
found-opened old new at name settings rules (Err fault) none meets ok = tt

pub others-opened : (old new : House) (at : ℕ) (name : List ℕ) (settings : QueueSettings) (rules : List Rule) (r : Result ℕ Fault)
    → OnOk r (new ≡ with_queue old (next_queue old at name settings rules)) → OnErr r (new ≡ old) → (other : List ℕ) → other ≢ name → found_uid new other ≡ found_uid old other
others-opened old new at name settings rules (Ok uid) ok err other differs = rw ok (found-other old (next_queue old at name settings rules) other differs)
others-opened old new at name settings rules (Err fault) ok err other differs = rw err refl

-- ---- every queue changed, one after another

pub item-next : (f : QueueHistory → QueueHistory) (qs now : List QueueHistory) (i : ℕ) (item : QueueHistory) → now ≡ map f (take i qs) ++ drop i qs → i < length qs
    → item ≡ get_or now i item → item ≡ get_or qs i item
item-next f qs now i item is l read =
    let done = map f (take i qs) in
    let count : length done ≡ i = length-map (take i qs) f ∙ length-take-le i qs (omega arith) in
    let split : now ≡ done ++ get_or qs i item ∷ drop (i + 1) qs = is ∙ ap (λ (rest : List QueueHistory). done ++ rest) (drop_more qs i item l) in
    read ∙ ap (λ (all : List QueueHistory). get_or all i item) split ∙ get_or_at done (get_or qs i item) (drop (i + 1) qs) item i count

pub map-next : (f : QueueHistory → QueueHistory) (qs now : List QueueHistory) (i : ℕ) (item new : QueueHistory) → now ≡ map f (take i qs) ++ drop i qs → i < length qs
    → item ≡ get_or now i item → new ≡ f item → set now i new ≡ map f (take (i + 1) qs) ++ drop (i + 1) qs
map-next f qs now i item new is l read changed =
    let done = map f (take i qs) in
    let count : length done ≡ i = length-map (take i qs) f ∙ length-take-le i qs (omega arith) in
    let split : now ≡ done ++ get_or qs i item ∷ drop (i + 1) qs = is ∙ ap (λ (rest : List QueueHistory). done ++ rest) (drop_more qs i item l) in
    let same : item ≡ get_or qs i item = item-next f qs now i item is l read in
    ap (λ (all : List QueueHistory). set all i new) split ∙ set_at done (get_or qs i item) (drop (i + 1) qs) new i count
    ∙ ap (λ (q : QueueHistory). done ++ q ∷ drop (i + 1) qs) (changed ∙ ap f same)
    ∙ sym (append_assoc done (f (get_or qs i item) ∷ []) (drop (i + 1) qs))
    ∙ ap (λ (all : List QueueHistory). all ++ drop (i + 1) qs) (sym (map_more f qs i item l))
