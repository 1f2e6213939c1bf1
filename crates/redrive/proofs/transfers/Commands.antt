-- Which entries the commands for one queue add.
use Rattle.std.proofs.Common.{◌≡◌, ℕ, Bool, true, false, cond, List, [], ◌∷◌, Option, Some, None, Result, refl, sym, ap, subst, inl, inr, ◌∙◌}
use Rattle.std.specs.Prelude.{⊤, ◌⊎◌, option_map, option_and_then, slice_get, IfSome}
use Rattle.std.specs.List.{Contains}
use Rattle.std.proofs.lemmas.List.Elements.{Contains-append_left, Contains-push}
use Rattle.std.proofs.lemmas.Option.{none-some, same_Some}
use Rattle.message.specs.declared.fault.Fault.{Fault}
use Rattle.message.specs.Content.{ContentText}
use Rattle.message.specs.Fault.{is_out_of_memory}
use Rattle.journal.specs.declared.entry.Event.{Event}
use Rattle.journal.specs.declared.entry.Event.TheVariants.{Opened, Arrived, Received, Set, Settled, Orphaned, Closed, Base}
use Rattle.queue_core.specs.declared.command.Command.{Command}
use Rattle.queue_core.specs.declared.command.Command.TheVariants as commands
use Rattle.queue_core.specs.declared.facts.Message.{Message}
use Rattle.queue_core.specs.declared.facts.Transfer.{Transfer}
use Rattle.queue_core.specs.declared.parcel.Parcel.{Parcel}
use Rattle.queue_core.specs.Messages.{course_of, pending_transfers, content_of, has_accepted, message_id}
use Rattle.queue_core.specs.States.{message_numbered}
use Rattle.queue_core.specs.Queue.{QueueHistory, at_moment, first_refusal, leaving_candidates, numbers_of, arrive_outcome, is_pending, settle_outcome, orphan_outcome, rebased_where, outcome_in, leaves_clock, reached, outcome_at, with_optional_event, after_answer, parcel_of, transferred_parcel, first_parcel_of}
use Rattle.queue_core.specs.Whole.{without_limit, is_journal_full, whole_after}
use Rattle.queue_core.proofs.WholeLemmas.{whole_step}
use Rattle.redrive.specs.House.{is_internal}
use Rattle.queue_core.proofs.CauseLemmas.{IsSoOfAdded, added-unless_refused, added-cond, added, about-received}
use Rattle.queue_core.proofs.PushLemmas.{numbered-number}
use Rattle.queue_core.proofs.PendingLemmas.{present_numbered}
use Rattle.redrive.proofs.transfers.Journals.{Line, Lines, more}
use Rattle.redrive.proofs.transfers.Views.{ArePresent}

-- ---- messages that a receive comes to are present

pub leaving-present : (q : QueueHistory) (maximum : ℕ) (timeout : Option ℕ) → ArePresent q.lines (numbers_of (leaving_candidates q maximum))
leaving-present q maximum timeout n h =
    let m = present_numbered q.lines q.clock n ((about-received q maximum timeout).departing n h) in
    ap (option_map (λ m. (course_of q.lines m).status)) m.1 ∙ ap Some m.2

-- ---- the entries of commands

-- what an entry says that a command of a request adds
abbrev pub IsOwn : Lines → Event ContentText → Type 0
IsOwn lines (Opened uid settings) = ⊥
IsOwn lines (Arrived origin content) = ⊥
IsOwn lines (Received timeout offered leaving target) = ArePresent lines leaving
IsOwn lines (Settled number) = ⊥
IsOwn lines (Orphaned target) = ⊥
IsOwn lines Closed = ⊥
IsOwn lines (Base base) = ⊥
IsOwn lines event = ⊤

pub if_some-at : (P : Event ContentText → Type 0) (o : Option (Event ContentText)) (event : Event ContentText) → IfSome o P → o ≡ Some event → P event
if_some-at P o event h e = subst (λ (o : Option (Event ContentText)). IfSome o P) e h

own-each : (q : QueueHistory) (command : Command) → is_internal command ≡ false → IsSoOfAdded q (IsOwn q.lines) command
own-each q (commands.Receive maximum timeout) h = leaving-present q maximum timeout
own-each q (commands.Change handle timeout) h = λ unrefused. tt
own-each q (commands.Delete handle) h = (tt, tt)
own-each q (commands.Arrive parcel) h = absurd cc
own-each q (commands.Settle number) h = absurd cc
own-each q (commands.Orphan target) h = absurd cc
own-each q commands.Close h = absurd cc
own-each q command h = tt

own : (q : QueueHistory) (command : Command) → is_internal command ≡ false → IfSome (outcome_in q command).event (IsOwn q.lines)
own q command h = added (IsOwn q.lines) q (λ fault. tt) command (own-each q command h)

-- a parcel that is accepted was not before
pub record IsAcceptance (lines : Lines) (p : Parcel) (event : Event ContentText) : Type 0 where
  pub first : has_accepted lines p.origin.uid p.origin.number ≡ false
  pub is : event ≡ Arrived p.origin p.content

arrived : (q : QueueHistory) (p : Parcel) → IfSome (outcome_in q (commands.Arrive p)).event (IsAcceptance q.lines p)
arrived q p =
    added-unless_refused (IsAcceptance q.lines p) (first_refusal q) (arrive_outcome q p)
    (added-cond (IsAcceptance q.lines p) (has_accepted q.lines p.origin.uid p.origin.number) _ _ (λ again. tt) (λ first. record { first = first; is = refl }))

settled : (q : QueueHistory) (number : ℕ) → IfSome (outcome_in q (commands.Settle number)).event (λ event. event ≡ Settled number)
settled q number =
    added-unless_refused (λ event. event ≡ Settled number) (first_refusal q) (settle_outcome q number)
    (added-cond (λ event. event ≡ Settled number) (is_pending q number) _ _ (λ pending. refl) (λ none. tt))

orphaned : (q : QueueHistory) (target : ℕ) → IfSome (outcome_in q (commands.Orphan target)).event (λ event. event ≡ Orphaned target)
orphaned q target = added-unless_refused (λ event. event ≡ Orphaned target) (first_refusal q) (orphan_outcome q target) refl

-- ---- what a command leaves of its queue

cond_same : {X : Type 0} (f : QueueHistory → X) (b : Bool) (q r : QueueHistory) → f r ≡ f q → f (cond b q r) ≡ f q
cond_same f true q r h = refl
cond_same f false q r h = h

pub reached-lines : (q : QueueHistory) (at : ℕ) (command : Command) → (reached q at command).lines ≡ q.lines
reached-lines q at command = cond_same (λ q. q.lines) (leaves_clock command) q (at_moment q at) refl

-- the journal as it was, or with the command's entry
pub record IsAdded (event : Option (Event ContentText)) (before after : Lines) : Type 0 where
  pub line : Line
  pub added : event ≡ Some line.event
  pub is : after ≡ more before line

pub added-optional : (q : QueueHistory) (event : Option (Event ContentText)) → ((with_optional_event q event).lines ≡ q.lines) ⊎ IsAdded event q.lines (with_optional_event q event).lines
added-optional q None = inl refl
added-optional q (Some event) = inr (record { line = record { at = q.clock; event = event }; added = refl; is = refl })

-- the queue that a command comes to where its journal has no limit, and what it adds there
abbrev pub come_to : QueueHistory → ℕ → Command → QueueHistory
come_to q at command = reached (without_limit q) at command

abbrev pub whole_event : QueueHistory → ℕ → Command → Option (Event ContentText)
whole_event q at command = (outcome_in (come_to q at command) command).event

added-either : (full failed : Bool) (p q : QueueHistory) (event : Option (Event ContentText)) → p.lines ≡ q.lines
    → let r : QueueHistory = cond full p (cond failed q (with_optional_event q event)) in (r.lines ≡ q.lines) ⊎ IsAdded event q.lines r.lines
added-either true failed p q event same = inl same
added-either false true p q event same = inl refl
added-either false false p q event same = added-optional q event

come-lines : (q : QueueHistory) (at : ℕ) (command : Command) → (come_to q at command).lines ≡ q.lines
come-lines q at command = reached-lines (without_limit q) at command

pub whole_after-lines : {T : Type 0} (q : QueueHistory) (at : ℕ) (command : Command) (answer : Result T Fault)
    → ((whole_after q at command answer).lines ≡ q.lines) ⊎ IsAdded (whole_event q at command) q.lines (whole_after q at command answer).lines
whole_after-lines q at command answer =
    let whole : Lines = (whole_after q at command answer).lines in
    subst (λ (ls : Lines). (whole ≡ ls) ⊎ IsAdded (whole_event q at command) ls whole) (come-lines q at command)
    (subst (λ (r : QueueHistory). (r.lines ≡ (come_to q at command).lines) ⊎ IsAdded (whole_event q at command) (come_to q at command).lines r.lines) (sym (whole_step q at command answer))
    (added-either (is_journal_full answer) (is_out_of_memory answer) (reached q at command) (come_to q at command) (whole_event q at command) (reached-lines q at command ∙ sym (come-lines q at command))))

module _ (q : QueueHistory) (at : ℕ) (event : Event ContentText) where
  pub own-at : (command : Command) → is_internal command ≡ false → whole_event q at command ≡ Some event → IsOwn q.lines event
  own-at command h e =
      subst (λ (ls : Lines). IsOwn ls event) (come-lines q at command)
      (if_some-at (IsOwn (come_to q at command).lines) (whole_event q at command) event (own (come_to q at command) command h) e)

  pub arrived-at : (p : Parcel) → whole_event q at (commands.Arrive p) ≡ Some event → IsAcceptance q.lines p event
  arrived-at p e = if_some-at (IsAcceptance q.lines p) (whole_event q at (commands.Arrive p)) event (arrived (at_moment (without_limit q) at) p) e

  pub settled-at : (number : ℕ) → whole_event q at (commands.Settle number) ≡ Some event → event ≡ Settled number
  settled-at number e = if_some-at (λ event. event ≡ Settled number) (whole_event q at (commands.Settle number)) event (settled (at_moment (without_limit q) at) number) e

  pub orphaned-at : (target : ℕ) → whole_event q at (commands.Orphan target) ≡ Some event → event ≡ Orphaned target
  orphaned-at target e = if_some-at (λ event. event ≡ Orphaned target) (whole_event q at (commands.Orphan target)) event (orphaned (at_moment (without_limit q) at) target) e

-- a command under a limit: the journal that it comes to, or a checkpoint in its place, as it was or with the command's entry
abbrev pub acting : QueueHistory → ℕ → Command → QueueHistory
acting q at command = rebased_where (outcome_at q at command).rebases (reached q at command)

under_limit-either : (failed : Bool) (p q : QueueHistory) (event : Option (Event ContentText))
    → let r : QueueHistory = cond failed p (with_optional_event q event) in (r.lines ≡ p.lines) ⊎ ((r.lines ≡ q.lines) ⊎ IsAdded event q.lines r.lines)
under_limit-either true p q event = inl refl
under_limit-either false p q event = inr (added-optional q event)

pub after_answer-lines : {T : Type 0} (q : QueueHistory) (at : ℕ) (command : Command) (answer : Result T Fault)
    → ((after_answer q at command answer).lines ≡ q.lines)
    ⊎ (((after_answer q at command answer).lines ≡ (acting q at command).lines) ⊎ IsAdded (outcome_at q at command).event (acting q at command).lines (after_answer q at command answer).lines)
after_answer-lines q at command answer =
    let after : Lines = (after_answer q at command answer).lines in
    subst (λ (ls : Lines). (after ≡ ls) ⊎ ((after ≡ (acting q at command).lines) ⊎ IsAdded (outcome_at q at command).event (acting q at command).lines after)) (reached-lines q at command)
    (under_limit-either (is_out_of_memory answer) (reached q at command) (acting q at command) (outcome_at q at command).event)

-- ---- the first parcel of a queue

-- a first transfer is one of those that are pending
pub some_first : (lines : Lines) (t : Transfer) → slice_get (pending_transfers lines) 0 ≡ Some t → Contains (pending_transfers lines) t
some_first lines t first = at_first (pending_transfers lines) first where
  at_first : (ts : List Transfer) → slice_get ts 0 ≡ Some t → Contains ts t
  at_first [] h = absurd (none-some t h)
  at_first (x ∷ xs) h = subst (λ (y : Transfer). Contains (x ∷ xs) y) (same_Some x t h) (Contains-append_left (x ∷ []) xs x (Contains-push [] x))

-- it is that of the first pending transfer
pub record IsHandedBy (q : QueueHistory) (p : Parcel) : Type 0 where
  pub first : slice_get (pending_transfers q.lines) 0 ≡ Some (record { number = p.origin.number; target = p.target })
  pub message : Message
  pub numbered : message_numbered q.lines p.origin.number ≡ Some message
  pub named : message_id q.uid message ≡ p.origin.id
  pub uid : p.origin.uid ≡ q.uid

module _ (q : QueueHistory) (p : Parcel) where
  handed-content : (t : Transfer) (m : Message) (o : Option ContentText) → slice_get (pending_transfers q.lines) 0 ≡ Some t → message_numbered q.lines t.number ≡ Some m
      → option_map (λ content. parcel_of q t m content) o ≡ Some p → IsHandedBy q p
  handed-content t m None first is h = absurd (none-some p h)
  handed-content t m (Some content) first is h =
      let same : parcel_of q t m content ≡ p = same_Some (parcel_of q t m content) p h in
      let number : m.number ≡ t.number = numbered-number q.lines t.number m is in
      subst (IsHandedBy q) same
      (record {
        first = subst (λ (n : ℕ). slice_get (pending_transfers q.lines) 0 ≡ Some (record { number = n; target = t.target })) (sym number) first;
        message = m;
        numbered = subst (λ (n : ℕ). message_numbered q.lines n ≡ Some m) (sym number) is;
        named = refl;
        uid = refl;
      })

  handed-message : (t : Transfer) (o : Option Message) → slice_get (pending_transfers q.lines) 0 ≡ Some t → message_numbered q.lines t.number ≡ o
      → option_and_then (λ m. option_map (λ content. parcel_of q t m content) (content_of q.lines m)) o ≡ Some p → IsHandedBy q p
  handed-message t None first is h = absurd (none-some p h)
  handed-message t (Some m) first is h = handed-content t m (content_of q.lines m) first is h

  handed-transfer : (o : Option Transfer) → slice_get (pending_transfers q.lines) 0 ≡ o → option_and_then (λ t. transferred_parcel q t) o ≡ Some p → IsHandedBy q p
  handed-transfer None first h = absurd (none-some p h)
  handed-transfer (Some t) first h = handed-message t (message_numbered q.lines t.number) first refl h

  pub handed : first_parcel_of q ≡ Some p → IsHandedBy q p
  handed h = handed-transfer (slice_get (pending_transfers q.lines) 0) refl h
