-- What a step of the registry leaves of one queue: what concerns other queues leaves it as it was.
use Rattle.std.proofs.Common.{◌≡◌, ℕ, Bool, true, false, cond, [], ◌∷◌, Option, Some, None, Ok, refl, sym, subst, eqb-true}
use Rattle.std.specs.Prelude.{nat_eq}
use Rattle.std.specs.Option.{option_map, option_or}
use Rattle.std.proofs.lemmas.Bool.{eqb-false}
use Rattle.std.proofs.lemmas.List.Folds.{find-append}
use Rattle.message.specs.Fault.{is_out_of_memory}
use Rattle.queue_core.specs.Queue.{QueueHistory, at_moment, after_answer}
use Rattle.redrive.specs.declared.steps.HouseStep.{HouseStep}
use Rattle.redrive.specs.House.{House, queue_of_uid, with_queue, next_queue, without_queue, with_queue_changed, IsRegistry}
use Rattle.redrive.specs.HouseSteps.{HouseAnswer, HouseChange, Nothing, Performs, Opens, Closes, Passes, act_of, house_changed, house_after, queue_changed, queue_after}
use Rattle.redrive.proofs.KeyedLemmas.{find-map, find-unused, find-without, find-without_other}
use Rattle.redrive.proofs.RegistryLemmas.{after_answer-uid, changed-queue}

abbrev uid_of : QueueHistory → ℕ
uid_of q = q.uid

or-none : {X : Type 0} (o : Option X) → option_or o None ≡ o
or-none None = refl
or-none (Some x) = refl

-- a queue more, under a uid that no queue has
pub opened-queue : (w : House) (uid : ℕ) (q : QueueHistory) (own : Bool) → nat_eq q.uid uid ≡ own → queue_of_uid w q.uid ≡ None
    → queue_of_uid (with_queue w q) uid ≡ cond own (Some q) (queue_of_uid w uid)
opened-queue w uid q true e none =
    let unused : queue_of_uid w uid ≡ None = subst (λ (u : ℕ). queue_of_uid w u ≡ None) (eqb-true q.uid uid e) none in
    rw (find-append (λ x. nat_eq x.uid uid) w.queues (q ∷ []), unused, e) refl
opened-queue w uid q false e none = rw (find-append (λ x. nat_eq x.uid uid) w.queues (q ∷ []), e) (or-none (queue_of_uid w uid))

module _ (w : House) (uid at : ℕ) where
  opened-by : (q : QueueHistory) (failed : Bool) → queue_of_uid w q.uid ≡ None
      → queue_of_uid (cond failed w (with_queue w q)) uid ≡ cond failed (queue_of_uid w uid) (cond (nat_eq q.uid uid) (Some q) (queue_of_uid w uid))
  opened-by q true none = refl
  opened-by q false none = opened-queue w uid q (nat_eq q.uid uid) refl none

  closed-by : (own : ℕ) (failed b : Bool) → nat_eq own uid ≡ b
      → queue_of_uid (cond failed (with_queue_changed w own (λ q. at_moment q at)) (without_queue w own)) uid
      ≡ cond b (cond failed (option_map (λ q. at_moment q at) (queue_of_uid w uid)) None) (queue_of_uid w uid)
  closed-by own true b e = changed-queue w own uid (λ q. at_moment q at) b (λ q. refl) e
  closed-by own false true e = subst (λ (u : ℕ). queue_of_uid (without_queue w own) u ≡ None) (eqb-true own uid e) (find-without uid_of own w.queues)
  closed-by own false false e = find-without_other uid_of own uid (λ same. eqb-false own uid e (sym same)) w.queues

  -- it sees its own opening, the commands that are for it, its deletion, and time
  pub queue_changed-house : (change : HouseChange) (answer : HouseAnswer) → queue_of_uid w w.next_uid ≡ None
      → queue_of_uid (house_changed w at change answer) uid ≡ queue_changed w uid (queue_of_uid w uid) at change answer
  queue_changed-house Nothing answer none = refl
  queue_changed-house (Performs own command) answer none =
      changed-queue w own uid (λ q. after_answer q at command answer) (nat_eq own uid) (after_answer-uid at command answer) refl
  queue_changed-house (Opens name settings) answer none = opened-by (next_queue w at name settings []) (is_out_of_memory answer) none
  queue_changed-house (Closes own) answer none = closed-by own (is_out_of_memory answer) (nat_eq own uid) refl
  queue_changed-house Passes answer none = find-map (λ x. nat_eq x.uid uid) (λ q. at_moment q at) (λ x. refl) w.queues

pub queue_after-house : (w : House) (uid : ℕ) (step : HouseStep) (answer : HouseAnswer) → IsRegistry w
    → queue_of_uid (house_after w step answer) uid ≡ queue_after w uid (queue_of_uid w uid) step answer
queue_after-house w uid step answer h =
    queue_changed-house w uid (act_of w step).at (act_of w step).change answer (find-unused uid_of w.next_uid w.queues h.used)
