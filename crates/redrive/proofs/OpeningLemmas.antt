-- The configured queues opened one after another.
use Rattle.std.proofs.Common.{◌≡◌, ℕ, ◌+◌, ◌<◌, ◌≤◌, ◌^◌, ◌≢◌, Bool, true, false, cond, nat_eq, ◌||◌, List, [], ◌∷◌, ◌++◌, length, get_or, take, drop, map, None, refl, sym, ap, subst, ◌∙◌, arith, append_assoc}
use Rattle.std.specs.Prelude.{nat_le, fold, filter}
use Rattle.std.specs.List.{find, IsDistinct, AllByRecursion}
use Rattle.std.specs.Str.{bytes_eq}
use Rattle.std.proofs.lemmas.Bool.Decides.{nat_tests}
use Rattle.std.proofs.lemmas.List.{append-nil, map-append, take_more, length-append, length-take-le, drop_more, take-append-drop}
use Rattle.std.proofs.lemmas.List.Elements.{filter_more}
use Rattle.std.proofs.lemmas.List.Sums.{fold_push}
use Rattle.queue_config.specs.Config.{AreConfigured, rules_of}
use Rattle.queue_config.specs.declared.config.ConfiguredAlarm.{ConfiguredAlarm}
use Rattle.queue_config.specs.Limits.{QueueLimits}
use Rattle.queue_config.specs.declared.config.ConfiguredQueue.{ConfiguredQueue}
use Rattle.queue_core.specs.Queue.{QueueHistory}
use Rattle.redrive.specs.House.{House, empty_house, new_house, next_queue, with_queue, queue_named, has_no_place}
use Rattle.redrive.proofs.ListingLemmas.{map-push}

-- ---- names that are apart

module _ {X K : Type 0} (e : K → K → Bool) (key : X → K) where
  at_end : (P : K → Type 0) (ks : List K) (k : K) (rest : List K) → AllByRecursion P (ks ++ k ∷ rest) → P k
  at_end P [] k rest h = h.0
  at_end P (x ∷ ks) k rest h = at_end P ks k rest h.1

  apart : (ks : List K) (k : K) (rest : List K) → IsDistinct e (ks ++ k ∷ rest) → AllByRecursion (λ y. e y k ≡ false) ks
  unfolding IsDistinct
  apart [] k rest h = tt
  apart (x ∷ ks) k rest h = (at_end (λ y. e x y ≡ false) ks k rest h.0, apart ks k rest h.1)

  find-apart : (xs : List X) (k : K) → AllByRecursion (λ y. e y k ≡ false) (map key xs) → find (λ x. e (key x) k) xs ≡ None
  find-apart [] k h = refl
  find-apart (x ∷ xs) k h = rw (h.0) (find-apart xs k h.1)

-- ---- the house of some queues

module _ (at : ℕ) (alarms : List ConfiguredAlarm) where
  opened : House → List ConfiguredQueue → House
  opened w qs = fold (λ w q. with_queue w (next_queue w at q.name q.settings (rules_of alarms w.next_uid))) w qs

  names-opened : (w : House) (qs : List ConfiguredQueue) → map (λ q. q.name) (opened w qs).queues ≡ map (λ q. q.name) w.queues ++ map (λ q. q.name) qs
  unfolding opened
  names-opened w [] = sym (append-nil (map (λ (q : QueueHistory). q.name) w.queues))
  names-opened w (q ∷ qs) =
      names-opened (with_queue w (next_queue w at q.name q.settings (rules_of alarms w.next_uid))) qs
      ∙ ap (λ (names : List (List ℕ)). names ++ map (λ (q : ConfiguredQueue). q.name) qs) (map-push (λ (q : QueueHistory). q.name) w.queues (next_queue w at q.name q.settings (rules_of alarms w.next_uid)))
      ∙ append_assoc (map (λ (q : QueueHistory). q.name) w.queues) (q.name ∷ []) (map (λ (q : ConfiguredQueue). q.name) qs)

  length-opened : (w : House) (qs : List ConfiguredQueue) → length (opened w qs).queues ≡ length w.queues + length qs
  unfolding opened
  length-opened w [] = omega arith
  length-opened w (q ∷ qs) =
      omega (arith, length-opened (with_queue w (next_queue w at q.name q.settings (rules_of alarms w.next_uid))) qs, length-append w.queues (next_queue w at q.name q.settings (rules_of alarms w.next_uid) ∷ []))

  next-opened : (w : House) (qs : List ConfiguredQueue) → (opened w qs).next_uid ≡ w.next_uid + length qs
  unfolding opened
  next-opened w [] = omega arith
  next-opened w (q ∷ qs) = omega (arith, next-opened (with_queue w (next_queue w at q.name q.settings (rules_of alarms w.next_uid))) qs)

-- one queue more
pub opened-more : (limits : QueueLimits) (alarms : List ConfiguredAlarm) (at : ℕ) (qs : List ConfiguredQueue) (i : ℕ) (q : ConfiguredQueue) (w : House)
    → w ≡ new_house (record { limits = limits; queues = take i qs; alarms = alarms }) at → i < length qs → q ≡ get_or qs i q
    → with_queue w (next_queue w at q.name q.settings (rules_of alarms w.next_uid)) ≡ new_house (record { limits = limits; queues = take (i + 1) qs; alarms = alarms }) at
opened-more limits alarms at qs i q w is inside here =
    ap (λ (w : House). with_queue w (next_queue w at q.name q.settings (rules_of alarms w.next_uid))) is
    ∙ sym (ap (λ (xs : List ConfiguredQueue). new_house (record { limits = limits; queues = xs; alarms = alarms }) at) (take_more qs i q inside ∙ ap (λ (x : ConfiguredQueue). take i qs ++ x ∷ []) (sym here))
    ∙ fold_push (λ (w : House) (q : ConfiguredQueue). with_queue w (next_queue w at q.name q.settings (rules_of alarms w.next_uid))) (empty_house limits) (take i qs) q)

-- the name of the next queue is new
pub next_name-new : (house : House) (limits : QueueLimits) (alarms : List ConfiguredAlarm) (at : ℕ) (qs : List ConfiguredQueue) (i : ℕ) (q : ConfiguredQueue)
    → house ≡ new_house (record { limits = limits; queues = take i qs; alarms = alarms }) at → i < length qs → q ≡ get_or qs i q → AreConfigured qs → queue_named house q.name ≡ None
unfolding opened
next_name-new house limits alarms at qs i q is l here h =
    let split : qs ≡ take i qs ++ q ∷ drop (i + 1) qs = sym (take-append-drop i qs) ∙ ap (λ (rest : List ConfiguredQueue). take i qs ++ rest) (drop_more qs i q l ∙ ap (λ x. x ∷ drop (i + 1) qs) (sym here)) in
    let names : map (λ (q : ConfiguredQueue). q.name) qs ≡ map (λ (q : ConfiguredQueue). q.name) (take i qs) ++ q.name ∷ map (λ (q : ConfiguredQueue). q.name) (drop (i + 1) qs) =
    ap (map (λ (q : ConfiguredQueue). q.name)) split ∙ map-append (λ (q : ConfiguredQueue). q.name) (take i qs) (q ∷ drop (i + 1) qs) in
    let differ : AllByRecursion (λ y. bytes_eq y q.name ≡ false) (map (λ (q : ConfiguredQueue). q.name) (take i qs)) =
    apart bytes_eq (λ (q : ConfiguredQueue). q.name) (map (λ (q : ConfiguredQueue). q.name) (take i qs)) q.name (map (λ (q : ConfiguredQueue). q.name) (drop (i + 1) qs)) (subst (λ (ns : List (List ℕ)). IsDistinct bytes_eq ns) names h.names) in
    let there : map (λ (q : QueueHistory). q.name) house.queues ≡ map (λ (q : ConfiguredQueue). q.name) (take i qs) =
    ap (λ (w : House). map (λ (q : QueueHistory). q.name) w.queues) is ∙ names-opened at alarms (empty_house limits) (take i qs) in
    find-apart bytes_eq (λ (q : QueueHistory). q.name) house.queues q.name (subst (λ (ns : List (List ℕ)). AllByRecursion (λ y. bytes_eq y q.name ≡ false) ns) (sym there) differ)

few : (n m : ℕ) → n < 1000 → m ≤ 1000 → (nat_le 1000 n || nat_le (2 ^ 62) m) ≡ false
few n m h k = grind (arith, nat_tests)

-- and there is a place for it
pub next_name-place : (house : House) (limits : QueueLimits) (alarms : List ConfiguredAlarm) (at : ℕ) (qs : List ConfiguredQueue) (i : ℕ)
    → house ≡ new_house (record { limits = limits; queues = take i qs; alarms = alarms }) at → i < length qs → AreConfigured qs → has_no_place house ≡ false
unfolding opened
next_name-place house limits alarms at qs i is l h =
    let count = h.count in
    let some : length (take i qs) ≡ i = length-take-le i qs (omega arith) in
    let here : length house.queues ≡ 0 + length (take i qs) = ap (λ (w : House). length w.queues) is ∙ length-opened at alarms (empty_house limits) (take i qs) in
    let next : house.next_uid ≡ 1 + length (take i qs) = ap (λ (w : House). w.next_uid) is ∙ next-opened at alarms (empty_house limits) (take i qs) in
    few (length house.queues) house.next_uid (omega arith) (omega arith)
