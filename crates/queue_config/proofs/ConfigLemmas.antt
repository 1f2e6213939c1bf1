-- Names that are judged to differ are distinct, and dead-letter queues that are found are queues of the configuration.
use Rattle.std.proofs.Common.{◌≡◌, ℕ, ◌+◌, ◌≤◌, Bool, true, false, not, cond, List, [], ◌∷◌, ◌++◌, map, length, Option, Some, None, option_map, unwrap_or, Result, Ok, Err, ok_or, refl, ap, sym, subst, ◌∙◌, arith}
use Rattle.std.specs.Prelude.{nat_lt}
use Rattle.std.specs.List.{All, IsDistinct, AllByRecursion, position, position_or_len}
use Rattle.std.specs.Option.{ForSome}
use Rattle.std.specs.Result.{result_unwrap_or}
use Rattle.std.specs.Str.{bytes_eq}
use Rattle.std.proofs.lemmas.Bool.{or_parts}
use Rattle.std.proofs.lemmas.Bool.Decides.{nat_tests}
use Rattle.std.proofs.lemmas.List.{length-map, map_push, append-nil, append_assoc}
use Rattle.std.proofs.lemmas.List.Elements.{All-nil, All-push}
use Rattle.std.proofs.lemmas.List.Recursion.{same_from_clauses}
use Rattle.queue_config.specs.Config.{AreConfigured, HasTarget, configured_uid, names_of, most_queues}
use Rattle.queue_config.specs.private.Config.{IsConfiguration}
use Rattle.queue_config.specs.ConfigKeys.{◌>>=◌, with_each}
use Rattle.queue_config.specs.ConfigText.{has_name, have_equal_names, target_among, configured_queue, configured_queues}
use Rattle.queue_config.specs.Settings.{default_settings, requested_target, policy_with, settings_with}
use Rattle.queue_config.specs.declared.config.ConfiguredQueue.{ConfiguredQueue}
use Rattle.queue_config.specs.declared.config_fault.ConfigFault.{ConfigFault}
use Rattle.queue_config.specs.declared.requested_queues.RequestedQueue.{RequestedQueue}
use Rattle.queue_config.specs.declared.policy.RedrivePolicy.{RedrivePolicy}
use Rattle.queue_config.specs.declared.policy.RequestedPolicy.{RequestedPolicy}

-- ---- names

has_name-none : (name : List ℕ) (qs : List RequestedQueue) → has_name name qs ≡ false → AllByRecursion (λ y. bytes_eq name y ≡ false) (map (λ q. q.name) qs)
has_name-none name [] h = tt
has_name-none name (q ∷ qs) h =
    let p = or_parts (bytes_eq name q.name) (has_name name qs) h in
    (p.0, has_name-none name qs p.1)

names-distinct : (qs : List RequestedQueue) → have_equal_names qs ≡ false → IsDistinct bytes_eq (map (λ q. q.name) qs)
unfolding IsDistinct
names-distinct [] h = tt
names-distinct (q ∷ qs) h =
    let p = or_parts (has_name q.name qs) (have_equal_names qs) h in
    (has_name-none q.name qs p.0, names-distinct qs p.1)

-- ---- the uid of a name

position_or_len-map : {X Y : Type 0} (p : Y → Bool) (f : X → Y) (xs : List X) → position_or_len p (map f xs) ≡ position_or_len (λ x. p (f x)) xs
position_or_len-map p f xs =
    same_from_clauses (λ ys. position_or_len p (map f ys)) (λ ys. position_or_len (λ x. p (f x)) ys) (λ x n. cond (not (p (f x))) (1 + n) 0) refl (λ x ys. refl) (λ x ys. refl) xs

pub position-map : {X Y : Type 0} (p : Y → Bool) (f : X → Y) (xs : List X) → position p (map f xs) ≡ position (λ x. p (f x)) xs
position-map p f xs = rw (position_or_len-map p f xs, length-map xs f) refl

-- ---- steps that succeed

pub within : (most n : ℕ) → nat_lt most n ≡ false → n ≤ most
within most n h = grind (arith, nat_tests)

pub bind_ok : {A B : Type 0} (r : Result A ConfigFault) (next : A → Result B ConfigFault) (y : B) → (r >>= next) ≡ Ok y → (x : A) × (r ≡ Ok x) × (next x ≡ Ok y)
bind_ok (Ok x) next y h = (x, refl, h)
bind_ok (Err fault) next y h = absurd cc

guard_ok : {A : Type 0} (b : Bool) (fault : ConfigFault) (r : Result A ConfigFault) (y : A) → (cond b (Err fault) r) ≡ Ok y → (b ≡ false) × (r ≡ Ok y)
guard_ok true fault r y h = absurd cc
guard_ok false fault r y h = (refl, h)

pub found_ok : {A : Type 0} (o : Option A) (fault : ConfigFault) (y : A) → ok_or o fault ≡ Ok y → o ≡ Some y
found_ok (Some x) fault y h = cc
found_ok None fault y h = absurd cc

-- ---- dead-letter queues

target-found : (names : List (List ℕ)) (own : List ℕ) (asked : Option (Option RequestedPolicy)) (target : ℕ)
    → target_among names own (option_map (λ asked. option_map (λ policy. policy.name) asked) asked) ≡ Ok target
    → ForSome (policy_with None asked target) (λ policy. HasTarget names own policy)
target-found names own None target h policy e = absurd cc
target-found names own (Some None) target h policy e = absurd cc
target-found names own (Some (Some asked)) target h policy e =
    let parts = guard_ok (bytes_eq asked.name own) _ _ target h in
    let made : RedrivePolicy = record { target = target; name = asked.name; max_receive_count = asked.max_receive_count } in
    let same : made ≡ policy = ap (λ (o : Option RedrivePolicy). unwrap_or o made) e in
    subst (λ (p : RedrivePolicy). HasTarget names own p) same (record { target = found_ok (configured_uid asked.name names) _ target parts.1; other = parts.0 })

-- the policy of a queue names another of the queues with these names
abbrev HasOther : List (List ℕ) → ConfiguredQueue → Type 0
HasOther names queue = ForSome queue.settings.redrive_policy (λ policy. HasTarget names queue.name policy)

queue-other : (names : List (List ℕ)) (q : RequestedQueue) (queue : ConfiguredQueue) → configured_queue names q ≡ Ok queue → (queue.name ≡ q.name) × HasOther names queue
queue-other names q queue h =
    let step = bind_ok (target_among names q.name (requested_target q.wish)) _ queue h in
    let made : ConfiguredQueue = record { name = q.name; settings = settings_with default_settings q.wish step.0 } in
    let same : made ≡ queue = ap (λ (r : Result ConfiguredQueue ConfigFault). result_unwrap_or r made) step.2 in
    subst (λ (x : ConfiguredQueue). (x.name ≡ q.name) × HasOther names x) same (refl, target-found names q.name q.wish.redrive_policy step.0 step.1)

-- what the walk makes of the rest, after these queues
queues-others : (names : List (List ℕ)) (front : List ConfiguredQueue) (rest : List RequestedQueue) (queues : List ConfiguredQueue) → with_each (λ (q : RequestedQueue). configured_queue names q) front rest ≡ Ok queues
    → All (HasOther names) front → (names_of queues ≡ names_of front ++ map (λ q. q.name) rest) × All (HasOther names) queues
queues-others names front [] queues h others =
    let same : front ≡ queues = ap (λ (r : Result (List ConfiguredQueue) ConfigFault). result_unwrap_or r front) h in
    subst (λ (x : List ConfiguredQueue). (names_of x ≡ names_of front ++ []) × All (HasOther names) x) same (sym (append-nil (names_of front)), others)
queues-others names front (q ∷ rest) queues h others =
    let step = bind_ok (configured_queue names q) _ queues h in
    let next = queue-other names q step.0 step.1 in
    let more = queues-others names (front ++ step.0 ∷ []) rest queues step.2 (All-push (HasOther names) front step.0 others next.1) in
    let pushed : names_of (front ++ step.0 ∷ []) ≡ names_of front ++ q.name ∷ [] =
    map_push (λ (x : ConfiguredQueue). x.name) front step.0 ∙ ap (λ (name : List ℕ). names_of front ++ name ∷ []) next.0 in
    (more.0 ∙ ap (λ (ns : List (List ℕ)). ns ++ map (λ (x : RequestedQueue). x.name) rest) pushed ∙ append_assoc (names_of front) (q.name ∷ []) (map (λ (x : RequestedQueue). x.name) rest), more.1)

-- ---- the whole

pub are_configured : (requested : List RequestedQueue) (queues : List ConfiguredQueue) → length requested ≤ most_queues → have_equal_names requested ≡ false
    → configured_queues requested ≡ Ok queues → (names_of queues ≡ map (λ q. q.name) requested) × AreConfigured queues
are_configured requested queues few differ h =
    let found = queues-others (map (λ (q : RequestedQueue). q.name) requested) [] requested queues h (All-nil _) in
    let many : length queues ≡ length requested =
    sym (length-map queues (λ (q : ConfiguredQueue). q.name)) ∙ ap length found.0 ∙ length-map requested (λ (q : RequestedQueue). q.name) in (
      found.0,
      record {
        names = subst (λ (ns : List (List ℕ)). IsDistinct bytes_eq ns) (sym found.0) (names-distinct requested differ);
        count = subst (λ (n : ℕ). n ≤ most_queues) (sym many) few;
        targets = subst (λ (ns : List (List ℕ)). All (HasOther ns) queues) (sym found.0) found.1;
      },
    )

pub no_queues_are_configured : IsConfiguration [] []
unfolding IsDistinct
no_queues_are_configured = record {
  queues = record { names = tt; count = omega arith; targets = All-nil _ };
  alarms = record { queues = All-nil _; names = λ uid. tt; few = λ uid. omega arith };
}
