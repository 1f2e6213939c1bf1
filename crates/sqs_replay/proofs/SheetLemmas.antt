-- Rows one minute on, and what a look leaves of a queue.
use Rattle.std.proofs.Common.{◌≡◌, ℕ, Bool, true, false, ◌&&◌, Option, Some, None, Result, Ok, Err, refl, sym, ap, ◌∙◌}
use Rattle.std.specs.Option.{ForSome}
use Rattle.std.proofs.lemmas.Cmp.{nat_eq_equiv}
use Rattle.message.specs.declared.fault.Fault.{Fault}
use Rattle.message.specs.declared.fault.Fault.TheVariants.{QueueDoesNotExist}
use Rattle.queue_core.specs.declared.command.Command.TheVariants.{Look}
use Rattle.queue_core.specs.declared.reply.Reply.{Reply}
use Rattle.queue_core.specs.declared.reply.Reply.TheVariants.{Looked}
use Rattle.queue_core.specs.Queue.{QueueHistory, is_at_limit, first_refusal, unless_some, at_moment, rebased_where, outcome_in, with_optional_event, after_answer, look_of}
use Rattle.redrive.specs.House.{House, queue_of_uid, step_answer, house_after_step, with_queue_changed}
use Rattle.redrive.proofs.RegistryLemmas.{changed-queue}
use Rattle.sqs_replay.specs.Served.{command_served}

-- ---- a look

-- no checkpoint comes before it
unwanted : (limit : Bool) (refusal : Option Fault) → unless_some refusal (false && limit) ≡ false
unwanted limit None = refl
unwanted limit (Some fault) = refl

left-alone : (x : QueueHistory) (at : ℕ) (reply : Reply) → after_answer {T = Reply} x at Look (Ok reply) ≡ at_moment x at
left-alone x at reply =
    let r : QueueHistory = at_moment x at in
    ap (λ (b : Bool). with_optional_event (rebased_where b r) (outcome_in (rebased_where b r) Look).event) (unwanted (is_at_limit r) (first_refusal r))

module _ (w : House) (uid at : ℕ) where
  look-absent : queue_of_uid w uid ≡ None → (reply : Reply) → ◌≡◌ {A = Result Reply Fault} (Ok reply) (step_answer w uid at Look) → ⊥
  look-absent here reply is =
      let none : step_answer w uid at Look ≡ Err QueueDoesNotExist = rw here refl in
      cc

  module _ (q : QueueHistory) (here : queue_of_uid w uid ≡ Some q) where
    look-answer : step_answer w uid at Look ≡ Ok (Looked (look_of (at_moment q at)))
    look-answer =
        let r : QueueHistory = at_moment q at in
        rw here (ap (λ (b : Bool). (outcome_in (rebased_where b r) Look).reply) (unwanted (is_at_limit r) (first_refusal r)))

    look-house : house_after_step {T = Reply} w uid at Look (Ok (Looked (look_of (at_moment q at)))) ≡ with_queue_changed w uid (λ x. at_moment x at)
    look-house = rw here (λ i. with_queue_changed w uid (λ x. left-alone x at (Looked (look_of (at_moment q at))) i))

    -- a look moves the queue's clock
    pub look-left : (command_served w uid at Look).house ≡ with_queue_changed w uid (λ x. at_moment x at)
    look-left = ap (λ (a : Result Reply Fault). house_after_step w uid at Look a) look-answer ∙ look-house

    -- and leaves the queue there
    pub look-queue : queue_of_uid (command_served w uid at Look).house uid ≡ Some (at_moment q at)
    look-queue =
        ap (λ (v : House). queue_of_uid v uid) look-left
        ∙ changed-queue w uid uid (λ x. at_moment x at) true (λ x. refl) (nat_eq_equiv.refl uid)
        ∙ rw here refl

    looked-there : (reply : Reply) → ◌≡◌ {A = Result Reply Fault} (Ok reply) (step_answer w uid at Look)
        → ForSome (queue_of_uid (command_served w uid at Look).house uid) (λ x. reply ≡ Looked (look_of x))
    looked-there reply is x there =
        let told : ◌≡◌ {A = Result Reply Fault} (Ok reply) (Ok (Looked (look_of (at_moment q at)))) = is ∙ look-answer in
        let same : ◌≡◌ {A = Option QueueHistory} (Some (at_moment q at)) (Some x) = sym look-queue ∙ there in
        cc

  looked-at : (o : Option QueueHistory) → queue_of_uid w uid ≡ o → (reply : Reply) → ◌≡◌ {A = Result Reply Fault} (Ok reply) (step_answer w uid at Look)
      → ForSome (queue_of_uid (command_served w uid at Look).house uid) (λ x. reply ≡ Looked (look_of x))
  looked-at None here reply is = absurd (look-absent here reply is)
  looked-at (Some q) here reply is = looked-there q here reply is

  -- what answers a look is told of the queue as the look leaves it
  pub looked : (reply : Reply) (new : House) → ◌≡◌ {A = Result Reply Fault} (Ok reply) (step_answer w uid at Look) → new ≡ house_after_step {T = Reply} w uid at Look (Ok reply)
      → ForSome (queue_of_uid new uid) (λ x. reply ≡ Looked (look_of x))
  looked reply new is left = rw (left ∙ ap (λ (a : Result Reply Fault). house_after_step w uid at Look a) is) (looked-at (queue_of_uid w uid) refl reply is)
