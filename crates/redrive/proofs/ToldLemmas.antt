-- What looks and receives tell is what the queue's own journal gives.
use Rattle.std.proofs.Common.{◌≡◌, ℕ, Bool, true, false, cond, List, Option, Some, None, Result, Ok, Err, refl, subst}
use Rattle.std.specs.Prelude.{nat_le, IfSome}
use Rattle.message.specs.declared.fault.Fault.{Fault}
use Rattle.message.specs.declared.fault.Fault.TheVariants.{OverLimit}
use Rattle.message.specs.Fault.{Meets}
use Rattle.queue_config.specs.Settings.{QueueSettings, default_settings, settings_with}
use Rattle.queue_core.specs.declared.command.Command.{Command}
use Rattle.queue_core.specs.declared.command.Command.TheVariants as commands
use Rattle.queue_core.specs.declared.parcel.Parcel.{Parcel}
use Rattle.queue_core.specs.declared.reply.Reply.{Reply}
use Rattle.queue_core.specs.declared.reply.Reply.TheVariants as replies
use Rattle.queue_core.specs.Queue.{QueueHistory, Outcome, at_moment, rebased_where, outcome_at, first_refusal, unless_refused, refusal, in_flight_count, offered_candidates, offers_of, look_of}
use Rattle.redrive.specs.declared.steps.HouseReply.TheVariants.{Performed}
use Rattle.redrive.specs.declared.steps.HouseStep.{HouseStep}
use Rattle.redrive.specs.declared.steps.HouseStep.TheVariants as steps
use Rattle.redrive.specs.House.{House, queue_of_uid, has_queue, AddressedCommand, delivery_of, target_uid, opens_queue, step_refusal, reply_alone, first_parcel_in, accepted_number}
use Rattle.redrive.specs.HouseSteps.{HouseAnswer, as_house_reply, Nothing, Opens, Act, perform_act, hand_over_act, confirm_act, answer_of_act, answer_of_step, IsTold, IsToldIn, IsToldBy}

offered : (q : QueueHistory) (maximum : ℕ) (timeout : Option ℕ) (refused : Option Fault) (full : Bool) (reply : Reply) (o : Outcome) → o.reply ≡ Ok (replies.Received (offers_of q (offered_candidates q maximum)))
    → (unless_refused refused (cond full (refusal OverLimit) o)).reply ≡ Ok reply → IsTold q (commands.Receive maximum timeout) reply
offered q maximum timeout (Some fault) full reply o is h = absurd cc
offered q maximum timeout None true reply o is h = absurd cc
offered q maximum timeout None false reply o is h =
    let same : replies.Received (offers_of q (offered_candidates q maximum)) ≡ reply = cc in
    subst (λ (reply : Reply). IsTold q (commands.Receive maximum timeout) reply) same refl

-- the queue that a command comes to, with a checkpoint for its journal where one came first
abbrev acting : QueueHistory → ℕ → Command → QueueHistory
acting q at command = rebased_where (outcome_at q at command).rebases (at_moment q at)

told : (q : QueueHistory) (at : ℕ) (command : Command) (reply : Reply) → (outcome_at q at command).reply ≡ Ok reply → IsTold (acting q at command) command reply
told q at (commands.Send content delay) reply h = tt
told q at (commands.Receive maximum timeout) reply h =
    let now : QueueHistory = acting q at (commands.Receive maximum timeout) in
    offered now maximum timeout (first_refusal now) (nat_le now.limits.in_flight (in_flight_count now)) reply _ refl h
told q at (commands.Change handle timeout) reply h = tt
told q at (commands.Delete handle) reply h = tt
told q at commands.Purge reply h = tt
told q at (commands.Set wish target) reply h = tt
told q at (commands.Arrive parcel) reply h = tt
told q at (commands.Settle number) reply h = tt
told q at (commands.Orphan target) reply h = tt
told q at commands.FirstParcel reply h = tt
told q at commands.Close reply h = tt
told q at commands.Look reply h =
    let same : replies.Looked (look_of (acting q at commands.Look)) ≡ reply = cc in
    subst (λ (reply : Reply). IsTold (acting q at commands.Look) commands.Look reply) same refl

performed-only : (r : Result Reply Fault) (reply : Reply) → Ok (Performed reply) ≡ as_house_reply Performed r → r ≡ Ok reply
performed-only (Ok x) reply h = cc
performed-only (Err fault) reply h = absurd cc

told_by : (o : Option QueueHistory) (at : ℕ) (command : Command) (reply : Reply) → reply_alone o at command ≡ Ok reply → IfSome o (λ q. IsTold (acting q at command) command reply)
told_by None at command reply h = tt
told_by (Some q) at command reply h = told q at command reply h

module _ (w : House) (at uid : ℕ) where
  abbrev IsToldAct : HouseAnswer → Act → Type 0
  IsToldAct answer act = IsToldIn w act.at act.change answer

  performed_told : (command : Command) (o : Option Fault) (answer : HouseAnswer) → Meets answer (answer_of_act w (perform_act at uid command o))
      → IsToldAct answer (perform_act at uid command o)
  performed_told command (Some fault) answer meets = tt
  performed_told command None (Ok (Performed reply)) meets =
      told_by (queue_of_uid w uid) at command reply (performed-only (reply_alone (queue_of_uid w uid) at command) reply meets)
  performed_told command None answer meets = tt

  -- a confirmation tells no counts
  settled_told : (n : ℕ) (reply : Reply) (o : Option QueueHistory) → IfSome o (λ q. IsTold (acting q at (commands.Settle n)) (commands.Settle n) reply)
  settled_told n reply None = tt
  settled_told n reply (Some q) = tt

  confirmed_told : (o : Option ℕ) (answer : HouseAnswer) → IsToldAct answer (confirm_act at uid o)
  confirmed_told None answer = tt
  confirmed_told (Some n) (Ok (Performed reply)) = settled_told n reply (queue_of_uid w uid)
  confirmed_told (Some n) answer = tt

  -- nor does a hand-over
  handed_told : (o : Option Parcel) (answer : HouseAnswer) → IsToldAct answer (hand_over_act w at uid o)
  handed_told None answer = tt
  handed_told (Some p) (Ok (Performed reply)) = delivered_told (has_queue w p.target) p reply (queue_of_uid w (delivery_of w uid p).uid)
    where
      delivered_told : (there : Bool) (p : Parcel) (reply : Reply) (o : Option QueueHistory)
          → let d : AddressedCommand = cond there (record { uid = p.target; command = commands.Arrive p }) (record { uid = uid; command = commands.Orphan p.target }) in
          IfSome o (λ q. IsTold (acting q at d.command) d.command reply)
      delivered_told there p reply None = tt
      delivered_told true p reply (Some q) = tt
      delivered_told false p reply (Some q) = tt
  handed_told (Some p) answer = tt

  created_told : (opens : Bool) (name : List ℕ) (settings : QueueSettings) (answer : HouseAnswer) → IsToldIn w at (cond opens (Opens name settings) Nothing) answer
  created_told true name settings answer = tt
  created_told false name settings answer = tt

pub IsToldBy-house : (w : House) (step : HouseStep) (answer : HouseAnswer) → Meets answer (answer_of_step w step) → IsToldBy w step answer
IsToldBy-house w (steps.Create at name wish) answer meets = created_told w at 0 (opens_queue w name wish) name (settings_with default_settings wish (target_uid w wish)) answer
IsToldBy-house w (steps.Delete at uid) answer meets = tt
IsToldBy-house w (steps.Perform at uid command) answer meets = performed_told w at uid command (step_refusal w uid command) answer meets
IsToldBy-house w (steps.HandOver at source) answer meets = handed_told w at source (first_parcel_in w source) answer
IsToldBy-house w (steps.Confirm at source) answer meets = confirmed_told w at source (accepted_number w source) answer
IsToldBy-house w (steps.Advance at) answer meets = tt
