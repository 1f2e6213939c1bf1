-- What a command does in the journal as it stands, and where a checkpoint comes first.
use Rattle.std.proofs.Common.{◌≡◌, ℕ, Bool, true, false, cond, ◌&&◌, Option, Some, None, Result, Ok, Err, refl, ap, subst, ◌∙◌, sym}
use Rattle.std.specs.Prelude.{nat_lt, nat_le}
use Rattle.message.specs.declared.fault.Fault.{Fault}
use Rattle.message.specs.Fault.{Meets, is_out_of_memory}
use Rattle.message.specs.Content.{ContentText, content_size}
use Rattle.journal.specs.declared.entry.Event.{Event}
use Rattle.queue_core.specs.declared.command.Command.{Command}
use Rattle.queue_core.specs.declared.command.Command.TheVariants as commands
use Rattle.queue_core.specs.declared.reply.Reply.{Reply}
use Rattle.queue_core.specs.declared.reply.Reply.TheVariants as replies
use Rattle.queue_core.specs.Messages.{is_closed, settings_of, has_accepted}
use Rattle.queue_core.specs.Queue.{QueueHistory, Outcome, first_refusal, unless_refused, refused_or, in_flight_count, change_refusal, is_valid_handle, is_pending, is_at_limit, unless_some, wants_open, rebases, rebased_where, look_of, outcome_in, outcome_of, at_moment, outcome_at, reached, with_optional_event, after_answer, as_reply, IsExact, IsExactWithRoom}
use Rattle.queue_core.specs.Legal.{IsCausedIn}

abbrev IsPlain : Outcome → Type 0
IsPlain o = o.rebases ≡ false

plain-room : (r : Option Fault) (o : Outcome) → IsPlain o → IsPlain (unless_refused r o)
plain-room None o h = h
plain-room (Some fault) o h = refl

plain-either : (b : Bool) (x y : Outcome) → IsPlain x → IsPlain y → IsPlain (cond b x y)
plain-either true x y h k = h
plain-either false x y h k = k

plain-refused : (r : Option Fault) (o : Outcome) → IsPlain o → IsPlain (refused_or r o)
plain-refused None o h = h
plain-refused (Some fault) o h = refl

-- no outcome in the journal as it stands makes a checkpoint
module _ (q : QueueHistory) where
  pub plain : (command : Command) → IsPlain (outcome_in q command)
  plain (commands.Send content delay) =
      plain-room (first_refusal q) _ (plain-either (nat_lt (settings_of q.lines).maximum_message_size (content_size content)) _ _ refl refl)
  plain (commands.Receive maximum timeout) = plain-room (first_refusal q) _ (plain-either (nat_le q.limits.in_flight (in_flight_count q)) _ _ refl refl)
  plain (commands.Change handle timeout) = plain-room (first_refusal q) _ (plain-refused (change_refusal q handle timeout) _ refl)
  plain (commands.Delete handle) = plain-room (first_refusal q) _ (plain-either (is_valid_handle q handle) _ _ refl refl)
  plain commands.Purge = plain-room (first_refusal q) _ refl
  plain (commands.Set wish target) = plain-room (first_refusal q) _ refl
  plain (commands.Arrive parcel) = plain-room (first_refusal q) _ (plain-either (has_accepted q.lines parcel.origin.uid parcel.origin.number) _ _ refl refl)
  plain (commands.Settle number) = plain-room (first_refusal q) _ (plain-either (is_pending q number) _ _ refl refl)
  plain (commands.Orphan target) = plain-room (first_refusal q) _ refl
  plain commands.Close = plain-either (is_closed q.lines) _ _ refl refl
  plain commands.Look = refl
  plain commands.FirstParcel = refl

  -- where none comes first, the outcome is the one in the journal as it stands
  pub in_place : (command : Command) → rebases q command ≡ false → outcome_of q command ≡ outcome_in q command
  in_place command h =
      (λ i. record (outcome_in (rebased_where (h i) q) command) { rebases = h i })
      ∙ (λ i. record (outcome_in q command) { rebases = sym (plain command) i })

  -- and so is what adds an entry in its place
  pub added_in : (event : Event ContentText) (caused : IsCausedIn q event) → (outcome_in q caused.command).event ≡ Some event
  added_in event caused = ap (λ (o : Outcome). o.event) (sym (in_place caused.command caused.in_place)) ∙ caused.added

pub unlimited : (wants limit : Bool) (refusal : Option Fault) → limit ≡ false → unless_some refusal (wants && limit) ≡ false
unlimited true limit None h = h
unlimited false limit None h = refl
unlimited wants limit (Some fault) h = refl

pub unwanted : (limit : Bool) (refusal : Option Fault) → unless_some refusal (false && limit) ≡ false
unwanted limit None = refl
unwanted limit (Some fault) = refl

-- below the limit no checkpoint comes, and none comes before the queue is closed
pub placed : (q : QueueHistory) (command : Command) → is_at_limit q ≡ false → rebases q command ≡ false
placed q command below = unlimited (wants_open command) (is_at_limit q) (first_refusal q) below

pub close_place : (q : QueueHistory) → rebases q commands.Close ≡ false
close_place q = unwanted (is_at_limit q) (first_refusal q)

-- nor before a look
pub looked : (q : QueueHistory) (at : ℕ) → ◌≡◌ {A = Result Reply Fault} (Ok (replies.Looked (look_of (at_moment q at)))) (outcome_at q at commands.Look).reply
looked q at = sym (ap (λ (o : Outcome). o.reply) (in_place (at_moment q at) commands.Look (unwanted (is_at_limit (at_moment q at)) (first_refusal (at_moment q at)))))

-- ---- an answer as a reply

pub replied_memory : {T : Type 0} (f : T → Reply) (r : Result T Fault) → is_out_of_memory (as_reply f r) ≡ is_out_of_memory r
replied_memory f (Ok x) = refl
replied_memory f (Err fault) = refl

pub replied_after : {T : Type 0} (f : T → Reply) (q : QueueHistory) (at : ℕ) (command : Command) (r : Result T Fault) → after_answer q at command (as_reply f r) ≡ after_answer q at command r
replied_after f q at command r =
    ap (λ (b : Bool). cond b (reached q at command) (with_optional_event (rebased_where (outcome_at q at command).rebases (reached q at command)) (outcome_at q at command).event)) (replied_memory f r)

-- what a call answered is what its command is answered
module _ {T : Type 0} (f : T → Reply) (q : QueueHistory) (at : ℕ) (command : Command) {named : Command} (r : Result T Fault) (result : Result Reply Fault) (is : command ≡ named) (same : result ≡ as_reply f r) where
  pub performed_answer : Meets (as_reply f r) (outcome_at q at named).reply → Meets result (outcome_at q at command).reply
  performed_answer h =
      subst (λ (k : Command). Meets result (outcome_at q at k).reply) (sym is) (subst (λ (a : Result Reply Fault). Meets a (outcome_at q at named).reply) (sym same) h)

  pub performed_exact : IsExact (outcome_at q at named) (as_reply f r) → IsExact (outcome_at q at command) result
  performed_exact h = subst (λ (k : Command). IsExact (outcome_at q at k) result) (sym is) (subst (λ (a : Result Reply Fault). IsExact (outcome_at q at named) a) (sym same) h)

  pub performed_room : IsExactWithRoom q (outcome_at q at named) (as_reply f r) → IsExactWithRoom q (outcome_at q at command) result
  performed_room h =
      subst (λ (k : Command). IsExactWithRoom q (outcome_at q at k) result) (sym is) (subst (λ (a : Result Reply Fault). IsExactWithRoom q (outcome_at q at named) a) (sym same) h)

  pub performed_state : (new : QueueHistory) → new ≡ after_answer q at named r → new ≡ after_answer q at command result
  performed_state new h = h ∙ sym (replied_after f q at named r) ∙ (λ i. after_answer q at (sym is i) (sym same i))
