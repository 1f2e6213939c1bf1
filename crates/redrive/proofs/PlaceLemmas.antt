-- The queue of a uid at its place in the list: what is done there is done to the queue of the uid.
use Rattle.std.proofs.Common.{◌≡◌, ℕ, ◌+◌, ◌<◌, ◌≤◌, true, false, List, length, get_or, set, map, Option, Some, None, Result, Ok, Err, refl, sym, ap, ◌∙◌}
use Rattle.std.specs.Prelude.{nat_eq, remove, slice_get, option_and_then, IfSome, OnOk, OnErr, IfErr}
use Rattle.std.specs.List.{position}
use Rattle.std.specs.Option.{option_map}
use Rattle.std.specs.Str.{bytes_eq}
use Rattle.std.proofs.lemmas.Bool.{eq-eqb}
use Rattle.std.proofs.lemmas.List.{set-get_or}
use Rattle.std.proofs.lemmas.List.Elements.{All-get_or}
use Rattle.std.proofs.lemmas.List.Quantifiers.{position-Some}
use Rattle.std.proofs.lemmas.Option.{slice_get-get_or, same_Some, none-some}
use Rattle.message.specs.declared.fault.Fault.{Fault}
use Rattle.message.specs.declared.fault.Fault.TheVariants.{OutOfMemory}
use Rattle.message.specs.Fault.{Meets}
use Rattle.queue_core.specs.declared.command.Command.{Command}
use Rattle.queue_core.specs.declared.reply.Reply.{Reply}
use Rattle.queue_core.specs.Messages.{is_closed}
use Rattle.queue_core.specs.Queue.{QueueHistory, at_moment, outcome_at, takes_memory, IsExactWithRoom, after_answer}
use Rattle.queue_core.specs.Cost.{most_ticks}
use Rattle.redrive.specs.Cost.{change_ticks}
use Rattle.redrive.specs.House.{House, queue_named, queue_of_uid, found_uid, queue_answer, takes_memory_in, with_queue_changed, house_after_command, closed_queue, take_answer, without_queue, house_after_delete, IsRegistry}
use Rattle.redrive.specs.Keys.{KeyLists}
use Rattle.redrive.specs.private.ByPlace.{with_place_changed, without_place, closes_queue, IsKept}
use Rattle.redrive.proofs.KeyedLemmas.{find-unique, find-position, find-no_position, position-own, found-there, map-present, map-remove, remove-present}
use Rattle.redrive.proofs.RegistryLemmas.{some_queue, IsRegistry-without, IsKept-after_step, IsKept-moved}

abbrev uid_of : QueueHistory → ℕ
uid_of q = q.uid

abbrev name_of : QueueHistory → List ℕ
name_of q = q.name

-- its place in the list that is shown is its place in the list that is kept
pub place-shown : {w x : House} {o : Option ℕ} {place : ℕ} (uid : ℕ) → w ≡ x → o ≡ position (λ q. nat_eq q.uid uid) x.queues → o ≡ Some place → position (λ q. nat_eq q.uid uid) w.queues ≡ Some place
place-shown uid same found is = ap (λ (w : House). position (λ q. nat_eq q.uid uid) w.queues) same ∙ sym found ∙ is

module _ (w : House) (uid place : ℕ) (here : position (λ q. nat_eq q.uid uid) w.queues ≡ Some place) where
  -- the queue that stands there
  abbrev there : QueueHistory
  there = get_or w.queues place some_queue

  pub within : place < length w.queues
  within = (position-Some (λ q. nat_eq q.uid uid) w.queues place some_queue here).0

  own : nat_eq there.uid uid ≡ true
  own = (position-Some (λ q. nat_eq q.uid uid) w.queues place some_queue here).1

  stands : slice_get w.queues place ≡ Some there
  stands = slice_get-get_or w.queues place some_queue within

  found : queue_of_uid w uid ≡ Some there
  found = find-position uid_of uid w.queues place some_queue here

  -- it is the one that is read there
  pub read-at : (q : QueueHistory) → q ≡ get_or w.queues place q → queue_of_uid w uid ≡ Some q
  read-at q read = find-position uid_of uid w.queues place q here ∙ ap Some (sym read)

  pub unclosed-at : IsRegistry w → IfSome (slice_get w.queues place) (λ q. is_closed q.lines ≡ false)
  unclosed-at r = rw stands (All-get_or (λ q. is_closed q.lines ≡ false) w.queues place some_queue within r.unclosed)

  pub changed-at : (f : QueueHistory → QueueHistory) → IsRegistry w → with_place_changed w place f ≡ with_queue_changed w uid f
  changed-at f r =
      rw stands (ap (λ (queues : List QueueHistory). record w { queues = queues }) (map-present uid_of uid f w.queues place some_queue r.uids within own))

  alike-at : (f g : QueueHistory → QueueHistory) → IsRegistry w → f there ≡ g there → with_queue_changed w uid f ≡ with_queue_changed w uid g
  alike-at f g r same = sym (changed-at f r) ∙ rw stands (ap (λ (q : QueueHistory). record w { queues = set w.queues place q }) same) ∙ changed-at g r

  pub without-at : IsRegistry w → without_place w place ≡ without_queue w uid
  without-at r =
      ap (λ (queues : List QueueHistory). record w { queues = remove queues place }) (sym (set-get_or w.queues place some_queue))
      ∙ ap (λ (queues : List QueueHistory). record w { queues = queues }) (remove-present uid_of uid w.queues place some_queue there r.uids within own)

  pub ticks-at : (change : QueueHistory → QueueHistory) (ticks ticks' : ℕ) → IfSome (slice_get w.queues place) (λ q. ticks' ≤ ticks + most_ticks q (change q)) → ticks' ≤ ticks + change_ticks w uid change
  ticks-at change ticks ticks' h = rw found (rw stands at h)

  -- ---- a command

  pub answer-at : (at : ℕ) (command : Command) (r : Result Reply Fault) → IfSome (slice_get w.queues place) (λ q. Meets r (outcome_at q at command).reply)
      → Meets r (queue_answer w uid at command)
  answer-at at command r meets = rw found (rw stands at meets)

  pub exact-at : (at : ℕ) (command : Command) (r : Result Reply Fault)
      → IfSome (slice_get w.queues place) (λ q. takes_memory (outcome_at q at command) ≡ false → r ≡ (outcome_at q at command).reply)
      → takes_memory_in w uid at command ≡ false → r ≡ queue_answer w uid at command
  exact-at at command r exact none = rw found ((rw stands at exact) (rw found at none))

  pub room-at : (at : ℕ) (command : Command) (r : Result Reply Fault) → IfSome (slice_get w.queues place) (λ q. IsExactWithRoom q (outcome_at q at command) r)
      → IfSome (queue_of_uid w uid) (λ q. IsExactWithRoom q (outcome_at q at command) r)
  room-at at command r room = rw found (rw stands at room)

  pub step-at : {T : Type 0} (at : ℕ) (command : Command) (r : Result T Fault) (new : House) → IsRegistry w
      → new ≡ with_place_changed w place (λ q. after_answer q at command r) → new ≡ house_after_command w uid at command r
  step-at at command r new kept is = is ∙ changed-at (λ q. after_answer q at command r) kept

  pub IsKept-step_at : {T : Type 0} (k : KeyLists) (at : ℕ) (command : Command) (r : Result T Fault) (new : House) → IsKept w k → closes_queue command ≡ false
      → new ≡ with_place_changed w place (λ q. after_answer q at command r) → IsKept new k
  IsKept-step_at k at command r new kept stays is =
      rw (is ∙ changed-at (λ q. after_answer q at command r) kept.registry) (IsKept-after_step w k kept uid at command r stays)

  -- ---- a deletion

  pub take-at : (at : ℕ) (r : Result QueueHistory Fault) → IfSome (slice_get w.queues place) (λ q. Meets r (Ok (closed_queue q at))) → Meets r (take_answer w uid at)
  take-at at r meets = rw found (rw stands at meets)

  pub left-at : {T : Type 0} (r : Result T Fault) (new : House) → IsRegistry w → OnOk r (new ≡ without_place w place) → OnOk r (new ≡ without_queue w uid)
  left-at (Ok q) new kept ok = ok ∙ without-at kept
  left-at (Err fault) new kept ok = tt

  pub delete-at : {T : Type 0} (at : ℕ) (r : Result T Fault) (new : House) → IsRegistry w → OnOk r (new ≡ without_place w place)
      → OnErr r (new ≡ with_place_changed w place (λ q. at_moment q at)) → IfErr r (λ fault. fault ≡ OutOfMemory) → new ≡ house_after_delete w uid at r
  delete-at at (Ok q) new kept ok err errors = ok ∙ without-at kept
  delete-at at (Err fault) new kept ok err errors = rw errors (err ∙ changed-at (λ q. at_moment q at) kept)

  -- the keys of the queue at the place are taken out with it
  pub IsKept-taken : (k l : KeyLists) (new : House) → IsKept w k → new ≡ without_place w place → l.uids ≡ remove k.uids place → l.names ≡ remove k.names place → IsKept new l
  IsKept-taken k l new kept is uids names = record {
    registry = rw (is ∙ without-at kept.registry) (IsRegistry-without w uid kept.registry);
    uids = uids ∙ ap (λ (us : List ℕ). remove us place) kept.uids ∙ sym (map-remove uid_of w.queues place) ∙ ap (λ (w : House). map uid_of w.queues) (sym is);
    names = names ∙ ap (λ (ns : List (List ℕ)). remove ns place) kept.names ∙ sym (map-remove name_of w.queues place) ∙ ap (λ (w : House). map name_of w.queues) (sym is);
  }

  pub IsKept-moved_at : (k : KeyLists) (at : ℕ) (new : House) → IsKept w k → new ≡ with_place_changed w place (λ q. at_moment q at) → IsKept new k
  IsKept-moved_at k at new kept is = rw (is ∙ changed-at (λ q. at_moment q at) kept.registry) (IsKept-moved w k kept uid at)

-- two changes that are alike for the queue of a uid
pub changed-alike : (w : House) (uid : ℕ) (q : QueueHistory) → queue_of_uid w uid ≡ Some q → (f g : QueueHistory → QueueHistory) → IsRegistry w → f q ≡ g q
    → with_queue_changed w uid f ≡ with_queue_changed w uid g
changed-alike w uid q here f g r same = by_place (position (λ q. nat_eq q.uid uid) w.queues) refl where
  by_place : (o : Option ℕ) → position (λ q. nat_eq q.uid uid) w.queues ≡ o → with_queue_changed w uid f ≡ with_queue_changed w uid g
  by_place None e = absurd (none-some q (sym (find-no_position uid_of uid w.queues e) ∙ here))
  by_place (Some place) e =
      let is : there w uid place e ≡ q = same_Some (there w uid place e) q (sym (found w uid place e) ∙ here) in
      alike-at w uid place e f g r (ap f is ∙ same ∙ sym (ap g is))

-- the queue of a uid that was found by a name is the queue of the name
pub named-found : (w : House) (name : List ℕ) (uid : ℕ) (q : QueueHistory) → IsRegistry w → Some uid ≡ found_uid w name → queue_of_uid w uid ≡ Some q → Some q ≡ queue_named w name
named-found w name uid q r found there = by_name (queue_named w name) refl found where
  by_name : (o : Option QueueHistory) → queue_named w name ≡ o → Some uid ≡ option_map uid_of o → Some q ≡ o
  by_name None e is = absurd (none-some uid (sym is))
  by_name (Some p) e is =
      let own : queue_of_uid w p.uid ≡ Some p = find-unique nat_eq uid_of (λ (q : QueueHistory). bytes_eq q.name name) w.queues p r.uids (eq-eqb p.uid p.uid refl) e in
      sym there ∙ ap (queue_of_uid w) (same_Some uid p.uid is) ∙ own

-- ---- the queue of a name, where it stands

module _ (w : House) (name : List ℕ) (place : ℕ) (here : position (λ q. bytes_eq q.name name) w.queues ≡ Some place) where
  pub named-within : place < length w.queues
  named-within = (position-Some (λ q. bytes_eq q.name name) w.queues place some_queue here).0

  pub named-read : (q : QueueHistory) → q ≡ get_or w.queues place q → queue_named w name ≡ Some q
  named-read q read =
      sym (found-there (λ q. bytes_eq q.name name) w.queues) ∙ ap (option_and_then (λ i. slice_get w.queues i)) here ∙ slice_get-get_or w.queues place q named-within ∙ ap Some (sym read)

  -- its uid is found at its place
  pub named-stands : (q : QueueHistory) → IsRegistry w → q ≡ get_or w.queues place q → position (λ x. nat_eq x.uid q.uid) w.queues ≡ Some place
  named-stands q r read = position-own uid_of q.uid w.queues place q r.uids named-within (eq-eqb (uid_of (get_or w.queues place q)) q.uid (ap uid_of (sym read)))
