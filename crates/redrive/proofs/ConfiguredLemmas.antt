-- The configured queues are found under the uids that the configuration gives them.
use Rattle.std.proofs.Common.{◌≡◌, ℕ, ◌+◌, Bool, true, false, cond, List, [], ◌∷◌, Option, Some, None, Decides, refl, sym, ap, ◌∙◌, arith}
use Rattle.std.specs.Prelude.{fold}
use Rattle.std.specs.Option.{option_map, option_or}
use Rattle.std.specs.List.{find, position_from}
use Rattle.std.specs.Str.{bytes_eq}
use Rattle.std.proofs.lemmas.Bool.{false≢true}
use Rattle.std.proofs.lemmas.Iterator.Adapters.{position_from-zero}
use Rattle.std.proofs.lemmas.List.Folds.{find-append}
use Rattle.std.proofs.lemmas.Slice.Eq.{bytes_eq-Decides}
use Rattle.queue_config.specs.Config.{Configuration, configured_uid, names_of, rules_of}
use Rattle.queue_config.specs.declared.config.ConfiguredAlarm.{ConfiguredAlarm}
use Rattle.queue_config.specs.declared.config.ConfiguredQueue.{ConfiguredQueue}
use Rattle.queue_core.specs.Queue.{QueueHistory}
use Rattle.redrive.specs.House.{House, empty_house, new_house, next_queue, with_queue, found_uid}

same_either_way : (xs ys : List ℕ) → bytes_eq xs ys ≡ bytes_eq ys xs
same_either_way xs ys = by_tests (bytes_eq xs ys) (bytes_eq ys xs) (bytes_eq-Decides xs ys) (bytes_eq-Decides ys xs) where
  by_tests : (b c : Bool) → Decides b (xs ≡ ys) → Decides c (ys ≡ xs) → b ≡ c
  by_tests true true d e = refl
  by_tests true false d e = absurd (false≢true (e.1 (sym (d.0 refl))))
  by_tests false true d e = absurd (false≢true (d.1 (sym (e.0 refl))))
  by_tests false false d e = refl

-- found among those before, or the one behind them, or later
found_step : (before : Option QueueHistory) (here : Bool) (q : QueueHistory) (i : ℕ) (later : Option ℕ) → q.uid ≡ i + 1
    → option_or (option_map (λ q. q.uid) (option_or before (cond here (Some q) None))) (option_map (λ place. place + 1) later)
    ≡ option_or (option_map (λ q. q.uid) before) (option_map (λ place. place + 1) (cond here (Some i) later))
found_step (Some other) here q i later is = refl
found_step None true q i later is = ap (λ (n : ℕ). Some n) is
found_step None false q i later is = refl

module _ (at : ℕ) (alarms : List ConfiguredAlarm) (name : List ℕ) where
  abbrev opened : House → List ConfiguredQueue → House
  opened w qs = fold (λ w q. with_queue w (next_queue w at q.name q.settings (rules_of alarms w.next_uid))) w qs

  found_in : (qs : List ConfiguredQueue) (w : House) (i : ℕ) → w.next_uid ≡ i + 1
      → found_uid (opened w qs) name ≡ option_or (found_uid w name) (option_map (λ place. place + 1) (position_from (λ other. bytes_eq name other) i (names_of qs)))
  found_in [] w i is = sym (or_none (found_uid w name)) where
    or_none : (o : Option ℕ) → option_or o None ≡ o
    or_none None = refl
    or_none (Some n) = refl
  found_in (q ∷ qs) w i is =
      let next : QueueHistory = next_queue w at q.name q.settings (rules_of alarms w.next_uid) in
      let found : List QueueHistory → Option QueueHistory = λ xs. find (λ x. bytes_eq x.name name) xs in
      let later : Option ℕ = position_from (λ other. bytes_eq name other) (i + 1) (names_of qs) in
      let more : found (with_queue w next).queues ≡ option_or (found w.queues) (cond (bytes_eq name q.name) (Some next) None) =
      find-append (λ (x : QueueHistory). bytes_eq x.name name) w.queues (next ∷ []) ∙ ap (λ (b : Bool). option_or (found w.queues) (cond b (Some next) None)) (same_either_way q.name name) in
      found_in qs (with_queue w next) (i + 1) (omega arith)
      ∙ ap (λ (o : Option QueueHistory). option_or (option_map (λ q. q.uid) o) (option_map (λ place. place + 1) later)) more
      ∙ found_step (found w.queues) (bytes_eq name q.name) next i later is

pub found-configured : (config : Configuration) (at : ℕ) (name : List ℕ) → found_uid (new_house config at) name ≡ configured_uid name (names_of config.queues)
found-configured config at name =
    found_in at config.alarms name config.queues (empty_house config.limits) 0 (omega arith)
    ∙ ap (λ (o : Option ℕ). option_map (λ place. place + 1) o) (sym (position_from-zero (λ (other : List ℕ). bytes_eq name other) (names_of config.queues)))
