-- What the calls of the registry do is what the acts of its steps say.
use Rattle.std.proofs.Common.{◌≡◌, ℕ, ◌+◌, ◌≤◌, Bool, true, false, cond, nat_eq, List, Option, Some, None, Result, Ok, Err, refl, sym, ap, subst, ◌∙◌, arith}
use Rattle.std.specs.Prelude.{MatchBool, ⊤, is_some}
use Rattle.std.specs.Option.{option_map_or}
use Rattle.std.specs.Str.{bytes_eq}
use Rattle.std.proofs.lemmas.Bool.{eq-eqb}
use Rattle.std.proofs.lemmas.Option.{option_and_then_some}
use Rattle.message.specs.declared.fault.Fault.{Fault}
use Rattle.message.specs.declared.fault.Fault.TheVariants.{QueueDoesNotExist}
use Rattle.message.specs.Fault.{Meets, is_out_of_memory}
use Rattle.queue_config.specs.Settings.{RequestedAttributes, default_settings, settings_with}
use Rattle.queue_core.specs.declared.command.Command.{Command}
use Rattle.queue_core.specs.declared.command.Command.TheVariants.{Settle}
use Rattle.queue_core.specs.declared.parcel.Parcel.{Parcel}
use Rattle.queue_core.specs.declared.reply.Reply.{Reply}
use Rattle.queue_core.specs.declared.reply.Reply.TheVariants.{Settled}
use Rattle.queue_core.specs.Queue.{QueueHistory, first_parcel_of}
use Rattle.redrive.specs.declared.moved.Moved.{Moved}
use Rattle.redrive.specs.declared.moved.Moved.TheVariants as moved
use Rattle.redrive.specs.declared.steps.HouseReply.{HouseReply}
use Rattle.redrive.specs.declared.steps.HouseReply.TheVariants.{Created, Deleted, Performed, HandedOver, Confirmed}
use Rattle.redrive.specs.declared.steps.HouseStep.TheVariants as steps
use Rattle.redrive.specs.House.{House, with_queue, new_queue, queue_named, queue_of_uid, has_queue, target_uid, opens_queue, created_answer, create_answer, house_after_create, step_refusal, queue_answer, step_answer, takes_memory_in, takes_memory_at, house_after_command, house_after_step, taken_alone, take_answer, house_after_delete, first_parcel_in, delivery_of, moved_of, as_moved, delivered_answer, arrive_answer, hand_over_takes_memory, house_after_hand_over, is_accepted, accepted_number, confirm_takes_memory, house_after_confirm, IsRegistry}
use Rattle.redrive.specs.private.Halves as halves
use Rattle.redrive.specs.Cost.{command_ticks, step_ticks, deletion_ticks, hand_over_ticks, confirm_ticks, ticks_of_change}
use Rattle.redrive.specs.private.Cost.{IsDone}
use Rattle.redrive.specs.HouseSteps.{HouseAnswer, as_house_reply, Nothing, Opens, performs, perform_act, hand_over_act, confirm_act, act_of, found_for, answer_of_act, house_changed}
use Rattle.redrive.proofs.KeyedLemmas.{find-unique, find-unused}

either : (b : Bool) (P : Type 0) → P → MatchBool b ⊤ P
either true P p = tt
either false P p = p

-- an answer meets what it is
pub meets-itself : {T : Type 0} (r : Result T Fault) → Meets r r
meets-itself r = either (is_out_of_memory r) (r ≡ r) refl

pub no_queue : (o : Option QueueHistory) → is_some o ≡ false → o ≡ None
no_queue None h = refl
no_queue (Some q) h = absurd cc

-- ---- a call's answer, as the answer to a step

module _ {T : Type 0} (form : T → HouseReply) where
  abbrev as_form : Result T Fault → HouseAnswer
  as_form r = as_house_reply form r

  form-memory : (r : Result T Fault) → is_out_of_memory (as_form r) ≡ is_out_of_memory r
  form-memory (Ok x) = refl
  form-memory (Err fault) = refl

  err-meets : (failed : Bool) (fault : Fault) (wanted : Result T Fault) → MatchBool failed ⊤ (◌≡◌ {A = Result T Fault} (Err fault) wanted) → MatchBool failed ⊤ (◌≡◌ {A = HouseAnswer} (Err fault) (as_form wanted))
  err-meets true fault wanted h = tt
  err-meets false fault wanted h = ap as_form h

  form-meets : (r wanted : Result T Fault) → Meets r wanted → Meets (as_form r) (as_form wanted)
  form-meets (Ok x) wanted h = ap as_form h
  form-meets (Err fault) wanted h = err-meets (is_out_of_memory {T = T} (Err fault)) fault wanted h

  -- a queue that has nothing to do
  idle-answer : (x : T) (there : Bool) → as_form (cond there (Ok x) (Err QueueDoesNotExist)) ≡ cond there (Ok (form x)) (Err QueueDoesNotExist)
  idle-answer x true = refl
  idle-answer x false = refl

-- ---- commands

module _ (w new : House) (at uid : ℕ) (command : Command) (form : Reply → HouseReply) (r : Result Reply Fault) (before after : ℕ) where
  asked-done : Meets r (queue_answer w uid at command) → (takes_memory_in w uid at command ≡ false → r ≡ queue_answer w uid at command) → new ≡ house_after_command w uid at command r
      → after ≤ before + command_ticks w uid at command r → IsDone w (performs at uid command form) (as_house_reply form r) new before after
  asked-done meets exact left cost = record {
    meets = form-meets form r (queue_answer w uid at command) meets;
    exact = λ none. ap (as_form form) (exact none);
    left = rw (form-memory form r) left;
    cost = rw (form-memory form r) cost;
  }

module _ (w new : House) (at uid : ℕ) (command : Command) (r : Result Reply Fault) (before after : ℕ) where
  performed-by : (refused : Option Fault) → Meets r (option_map_or (λ fault. Err fault) refused (queue_answer w uid at command))
      → (option_map_or (λ fault. false) refused (takes_memory_in w uid at command) ≡ false → r ≡ option_map_or (λ fault. Err fault) refused (queue_answer w uid at command))
      → new ≡ option_map_or (λ fault. w) refused (house_after_command w uid at command r) → after ≤ before + option_map_or (λ fault. 0) refused (command_ticks w uid at command r)
      → IsDone w (perform_act at uid command refused) (as_house_reply Performed r) new before after
  performed-by None meets exact left cost = asked-done w new at uid command Performed r before after meets exact left cost
  performed-by (Some fault) meets exact left cost = record {
    meets = form-meets Performed r (Err fault) meets;
    exact = λ none. ap (as_form Performed) (exact refl);
    left = left;
    cost = cost;
  }

  pub performed-done : Meets r (step_answer w uid at command) → (takes_memory_at w uid at command ≡ false → r ≡ step_answer w uid at command) → new ≡ house_after_step w uid at command r
      → after ≤ before + step_ticks w uid at command r → IsDone w (act_of w (steps.Perform at uid command)) (as_house_reply Performed r) new before after
  performed-done meets exact left cost = performed-by (step_refusal w uid command) meets exact left cost

-- ---- the halves of a move

module _ (w new : House) (at source : ℕ) (before after : ℕ) where
  source-there : (p : Parcel) → first_parcel_in w source ≡ Some p → has_queue w source ≡ true
  source-there p h = option_and_then_some (λ q. first_parcel_of q) (queue_of_uid w source) p h (λ q here k. ap is_some here)

  pub accepted-there : (n : ℕ) → accepted_number w source ≡ Some n → has_queue w source ≡ true
  accepted-there n h = option_and_then_some (λ p. cond (is_accepted w p) (Some p.origin.number) None) (first_parcel_in w source) n h (λ p first k. source-there p first)

  confirmed-by : (r : Result Reply Fault) (number : Option ℕ) → ((n : ℕ) → number ≡ Some n → has_queue w source ≡ true)
      → Meets r (cond (has_queue w source) (option_map_or (λ n. queue_answer w source at (Settle n)) number (Ok (Settled false))) (Err QueueDoesNotExist))
      → (option_map_or (λ n. takes_memory_in w source at (Settle n)) number false ≡ false
      → r ≡ cond (has_queue w source) (option_map_or (λ n. queue_answer w source at (Settle n)) number (Ok (Settled false))) (Err QueueDoesNotExist))
      → new ≡ option_map_or (λ n. house_after_command w source at (Settle n) r) number w → after ≤ before + option_map_or (λ n. command_ticks w source at (Settle n) r) number 0
      → IsDone w (confirm_act at source number) (as_house_reply Confirmed r) new before after
  confirmed-by r None there meets exact left cost = record {
    meets = subst (λ (a : HouseAnswer). Meets (as_form Confirmed r) a) (idle-answer Confirmed (Settled false) (has_queue w source))
        (form-meets Confirmed r (cond (has_queue w source) (Ok (Settled false)) (Err QueueDoesNotExist)) meets);
    exact = λ none. ap (as_form Confirmed) (exact refl) ∙ idle-answer Confirmed (Settled false) (has_queue w source);
    left = left;
    cost = cost;
  }
  confirmed-by r (Some n) there meets exact left cost =
      asked-done w new at source (Settle n) Confirmed r before after
      (subst (λ (b : Bool). Meets r (cond b (queue_answer w source at (Settle n)) (Err QueueDoesNotExist))) (there n refl) meets)
      (λ none. exact none ∙ ap (λ (b : Bool). cond b (queue_answer w source at (Settle n)) (Err QueueDoesNotExist)) (there n refl)) left cost

  pub confirmed-done : (r : Result Reply Fault) → Meets r (halves.confirmed w source at) → (confirm_takes_memory w source at ≡ false → r ≡ halves.confirmed w source at)
      → new ≡ house_after_confirm w source at r → after ≤ before + confirm_ticks w source at r → IsDone w (act_of w (steps.Confirm at source)) (as_house_reply Confirmed r) new before after
  confirmed-done r meets exact left cost = confirmed-by r (accepted_number w source) accepted-there meets exact left cost

  moved-form : (r : Result Reply Fault) → as_house_reply HandedOver (as_moved r) ≡ as_house_reply (λ reply. HandedOver (moved_of reply)) r
  moved-form (Ok reply) = refl
  moved-form (Err fault) = refl

  abbrev wanted : Option Parcel → Result Moved Fault
  wanted o = cond (has_queue w source) (option_map_or (λ p. delivered_answer w at (delivery_of w source p)) o (Ok moved.None)) (Err QueueDoesNotExist)

  handed-answer : (o : Option Parcel) → ((p : Parcel) → o ≡ Some p → has_queue w source ≡ true) → as_house_reply HandedOver (wanted o) ≡ answer_of_act w (hand_over_act w at source o)
  handed-answer None there = idle-answer HandedOver moved.None (has_queue w source)
  handed-answer (Some p) there =
      ap (λ (b : Bool). as_house_reply HandedOver (cond b (delivered_answer w at (delivery_of w source p)) (Err QueueDoesNotExist))) (there p refl)
      ∙ moved-form (queue_answer w (delivery_of w source p).uid at (delivery_of w source p).command)

  handed-takes : (o : Option Parcel) → option_map_or (λ p. takes_memory_in w (delivery_of w source p).uid at (delivery_of w source p).command) o false ≡ (hand_over_act w at source o).takes_memory (found_for w (hand_over_act w at source o))
  handed-takes None = refl
  handed-takes (Some p) = refl

  handed-left : (r : Result Moved Fault) (o : Option Parcel)
      → new ≡ option_map_or (λ p. house_after_command w (delivery_of w source p).uid at (delivery_of w source p).command r) o w
      → new ≡ house_changed w (hand_over_act w at source o).at (hand_over_act w at source o).change (as_house_reply HandedOver r)
  handed-left r None left = left
  handed-left r (Some p) left = rw (form-memory HandedOver r) left

  handed-cost : (r : Result Moved Fault) (o : Option Parcel)
      → after ≤ before + option_map_or (λ p. command_ticks w (delivery_of w source p).uid at (delivery_of w source p).command r) o 0
      → after ≤ before + ticks_of_change w (hand_over_act w at source o).at (hand_over_act w at source o).change (as_house_reply HandedOver r)
  handed-cost r None cost = cost
  handed-cost r (Some p) cost = rw (form-memory HandedOver r) cost

  pub handed-done : (r : Result Moved Fault) → Meets r (arrive_answer w source at) → (hand_over_takes_memory w source at ≡ false → r ≡ arrive_answer w source at)
      → new ≡ house_after_hand_over w source at r → after ≤ before + hand_over_ticks w source at r
      → IsDone w (act_of w (steps.HandOver at source)) (as_house_reply HandedOver r) new before after
  handed-done r meets exact left cost =
      let o : Option Parcel = first_parcel_in w source in
      record {
        meets = subst (λ (a : HouseAnswer). Meets (as_form HandedOver r) a) (handed-answer o source-there) (form-meets HandedOver r (wanted o) meets);
        exact = λ none. ap (as_form HandedOver) (exact (handed-takes o ∙ none)) ∙ handed-answer o source-there;
        left = handed-left r o left;
        cost = handed-cost r o cost;
      }

-- ---- creating and deleting

module _ (w : House) (name : List ℕ) (h : IsRegistry w) where
  -- the queue that a create is for has the name
  named-uid : (o : Option QueueHistory) → queue_named w name ≡ o → queue_of_uid w (option_map_or (λ q. q.uid) o w.next_uid) ≡ o
  named-uid None e = find-unused (λ (q : QueueHistory). q.uid) w.next_uid w.queues h.used
  named-uid (Some q) e = find-unique nat_eq (λ (q : QueueHistory). q.uid) (λ x. bytes_eq x.name name) w.queues q h.uids (eq-eqb q.uid q.uid refl) e

  module _ (new : House) (at : ℕ) (wish : RequestedAttributes) (r : Result ℕ Fault) (before after : ℕ) where
    created-as : as_house_reply Created (create_answer w name wish) ≡ answer_of_act w (act_of w (steps.Create at name wish))
    created-as = sym (ap (λ (o : Option QueueHistory). as_house_reply Created (created_answer w name wish o)) (named-uid (queue_named w name) refl))

    created-left : (opens : Bool) (r : Result ℕ Fault) → cond (is_out_of_memory r) w (cond opens (with_queue w (new_queue w at name wish)) w)
        ≡ house_changed w at (cond opens (Opens name (settings_with default_settings wish (target_uid w wish))) Nothing) (as_house_reply Created r)
    created-left true (Ok uid) = refl
    created-left true (Err fault) = refl
    created-left false r = same-either (is_out_of_memory r) where
      same-either : (b : Bool) → cond b w w ≡ w
      same-either true = refl
      same-either false = refl

    created-cost : (opens : Bool) → after ≡ before
        → after ≤ before + ticks_of_change w at (cond opens (Opens name (settings_with default_settings wish (target_uid w wish))) Nothing) (as_house_reply Created r)
    created-cost true calm = omega arith
    created-cost false calm = omega arith

    pub created-done : Meets r (create_answer w name wish) → (opens_queue w name wish ≡ false → r ≡ create_answer w name wish) → new ≡ house_after_create w at name wish r → after ≡ before
        → IsDone w (act_of w (steps.Create at name wish)) (as_house_reply Created r) new before after
    created-done meets known left calm = record {
      meets = subst (λ (a : HouseAnswer). Meets (as_form Created r) a) created-as (form-meets Created r (create_answer w name wish) meets);
      exact = λ none. ap (as_form Created) (known none) ∙ created-as;
      left = left ∙ created-left (opens_queue w name wish) r;
      cost = created-cost (opens_queue w name wish) calm;
    }

pub deleted-done : (w new : House) (at uid : ℕ) (r : Result QueueHistory Fault) (before after : ℕ) → Meets r (take_answer w uid at) → (queue_of_uid w uid ≡ None → r ≡ Err QueueDoesNotExist)
    → new ≡ house_after_delete w uid at r → after ≤ before + deletion_ticks w uid at r → IsDone w (act_of w (steps.Delete at uid)) (as_house_reply Deleted r) new before after
deleted-done w new at uid r before after meets absent left cost = record {
  meets = form-meets Deleted r (take_answer w uid at) meets;
  exact = λ none.
      let gone : queue_of_uid w uid ≡ None = no_queue (queue_of_uid w uid) none in
      ap (as_form Deleted) (absent gone ∙ sym (ap (λ (o : Option QueueHistory). taken_alone o at) gone));
  left = rw (form-memory Deleted r) left;
  cost = rw (form-memory Deleted r) cost;
}
