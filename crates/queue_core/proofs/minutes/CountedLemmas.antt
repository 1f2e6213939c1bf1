-- What a call adds to the flows of a minute, and what a refusal adds to the journal.
use Rattle.std.proofs.Common.{◌≡◌, ◌≢◌, ℕ, ◌+◌, min, Bool, true, false, cond, eqb, Option, Some, None, Result, Ok, Err, refl, ap, subst, ◌∙◌, arith}
use Rattle.std.specs.Prelude.{nat_lt, nat_le}
use Rattle.std.proofs.lemmas.Bool.Decides.{nat_tests}
use Rattle.message.specs.declared.fault.Fault.{Fault}
use Rattle.message.specs.declared.fault.Fault.TheVariants.{QueueDoesNotExist, InvalidParameterValue, ReceiptHandleIsInvalid, MessageNotInflight, OverLimit, JournalFull}
use Rattle.message.specs.Content.{ContentText, content_size}
use Rattle.journal.specs.declared.entry.Event.{Event}
use Rattle.journal.specs.declared.entry.Event.TheVariants.{Changed, Refused}
use Rattle.metric_window.specs.declared.flows.Flows.{Flows}
use Rattle.metric_window.specs.Flows.{flows_of, added, greatest, capped, minute_of, entries_in, flows_total, minute_flows}
use Rattle.metric_window.proofs.FlowLemmas.{same_flows}
use Rattle.metric_window.proofs.MinuteLemmas.{minute_flows-push}
use Rattle.queue_core.specs.declared.command.Command.{Command}
use Rattle.queue_core.specs.declared.command.Command.TheVariants as commands
use Rattle.queue_core.specs.declared.reply.Reply.{Reply}
use Rattle.queue_core.specs.Messages.{settings_of, is_closed, has_accepted}
use Rattle.queue_core.specs.Metrics.{current_flows, with_one_more_refused}
use Rattle.queue_core.specs.Queue.{QueueHistory, Outcome, refusal, is_full, unless_refused, first_refusal, refused_or, done, in_flight_count, is_valid_handle, holds_in_flight, passes_twelve_hours, is_pending, rebased_where, rebases, outcome_in, outcome_of, with_optional_event}
use Rattle.queue_core.specs.Lasting.{refusal_event}
use Rattle.queue_core.proofs.checkpoints.GoneLemmas.{flows_based}

-- ---- flows

min-none : (most x : ℕ) → min (min x most + 0) most ≡ min x most
min-none most x = omega arith

-- a refusal more
refusal-added : (fault : Fault) (f : Flows) → capped (added (capped f) (flows_of content_size (Refused fault))) ≡ with_one_more_refused (capped f)
refusal-added fault f =
    same_flows (capped (added (capped f) (flows_of content_size (Refused fault)))) (with_one_more_refused (capped f))
    (min-none greatest f.sent) (min-none greatest f.sent_size) (min-none greatest f.received) (min-none greatest f.empty_receives) (min-none greatest f.deleted)
    refl (min-none greatest f.dead_letters_arrived)

module _ (q : QueueHistory) where
  here : eqb (minute_of q.clock) (minute_of q.clock) ≡ true
  here = grind (arith, nat_tests)

  refusal-counted : (event : Option (Event ContentText)) (fault : Fault) → event ≡ Some (Refused fault)
      → current_flows content_size (with_optional_event q event).lines q.clock ≡ with_one_more_refused (current_flows content_size q.lines q.clock)
  refusal-counted event fault is =
      ap (λ (o : Option (Event ContentText)). current_flows content_size (with_optional_event q o).lines q.clock) is
      ∙ minute_flows-push content_size q.lines (record { at = q.clock; event = Refused fault }) (minute_of q.clock)
      ∙ rw here (refusal-added fault (flows_total content_size (entries_in (minute_of q.clock) q.lines)))

  other : (event : Option (Event ContentText)) (minute : ℕ) → minute ≢ minute_of q.clock
      → minute_flows content_size (with_optional_event q event).lines minute ≡ minute_flows content_size q.lines minute
  other None minute h = refl
  other (Some event) minute h =
      let no : eqb (minute_of q.clock) minute ≡ false = grind (arith, nat_tests) in
      minute_flows-push content_size q.lines (record { at = q.clock; event = event }) minute ∙ rw no refl

module _ (q : QueueHistory) (command : Command) where
  -- the queue that the command acts in
  abbrev there : QueueHistory
  there = rebased_where (rebases q command) q

  flows-there : (b : Bool) → current_flows content_size (rebased_where b q).lines q.clock ≡ current_flows content_size q.lines q.clock
  flows-there true = flows_based q.uid q.lines q.clock
  flows-there false = refl

  clock-there : (b : Bool) → (rebased_where b q).clock ≡ q.clock
  clock-there true = refl
  clock-there false = refl

  abbrev adds : Option (Event ContentText)
  adds = (outcome_of q command).event

  pub counted : (fault : Fault) → adds ≡ Some (Refused fault)
      → current_flows content_size (with_optional_event there adds).lines q.clock ≡ with_one_more_refused (current_flows content_size q.lines q.clock)
  counted fault is =
      subst (λ (at : ℕ). current_flows content_size (with_optional_event there adds).lines at ≡ with_one_more_refused (current_flows content_size there.lines at)) (clock-there (rebases q command))
      (refusal-counted there adds fault is)
      ∙ ap with_one_more_refused (flows-there (rebases q command))

  pub uncounted : adds ≡ None → current_flows content_size (with_optional_event there adds).lines q.clock ≡ current_flows content_size q.lines q.clock
  uncounted is = ap (λ (o : Option (Event ContentText)). current_flows content_size (with_optional_event there o).lines q.clock) is ∙ flows-there (rebases q command)

  pub other_minutes : (minute : ℕ) → (outcome_of q command).rebases ≡ false → minute ≢ minute_of q.clock
      → minute_flows content_size (with_optional_event q adds).lines minute ≡ minute_flows content_size q.lines minute
  other_minutes minute never h = other q adds minute h

-- ---- what is recorded

-- a refused outcome adds what its refusal does
abbrev IsRecorded : Outcome → Type 0
IsRecorded o = (fault : Fault) → o.reply ≡ Err fault → o.event ≡ refusal_event fault

by_fault : (first fault : Fault) (event : Option (Event ContentText)) → event ≡ refusal_event first → ◌≡◌ {A = Result Reply Fault} (Err first) (Err fault) → event ≡ refusal_event fault
by_fault first fault event is h = let same : first ≡ fault = cc in is ∙ ap refusal_event same

recorded-room : (closed full : Bool) (o : Outcome) → IsRecorded o → IsRecorded (unless_refused (cond closed (Some QueueDoesNotExist) (cond full (Some JournalFull) None)) o)
recorded-room true full o rest fault h = by_fault QueueDoesNotExist fault None refl h
recorded-room false true o rest fault h = by_fault JournalFull fault None refl h
recorded-room false false o rest fault h = rest fault h

recorded-answered : (event : Option (Event ContentText)) (reply : Reply) → IsRecorded (record { event = event; reply = Ok reply; rebases = false })
recorded-answered event reply fault h = absurd cc

recorded-either : (b : Bool) (one other : Outcome) → IsRecorded one → IsRecorded other → IsRecorded (cond b one other)
recorded-either true one other h k = h
recorded-either false one other h k = k

recorded-refusal : (first : Fault) → Some (Refused first) ≡ refusal_event first → IsRecorded (refusal first)
recorded-refusal first is fault h = by_fault first fault (Some (Refused first)) is h

recorded-change : (valid holds passes : Bool) (event : Event ContentText)
    → IsRecorded (refused_or (cond valid (cond holds (cond passes (Some InvalidParameterValue) None) (Some MessageNotInflight)) (Some ReceiptHandleIsInvalid)) (done event))
recorded-change true true true event = recorded-refusal InvalidParameterValue refl
recorded-change true true false event = recorded-answered (Some event) _
recorded-change true false passes event = recorded-refusal MessageNotInflight refl
recorded-change false holds passes event = recorded-refusal ReceiptHandleIsInvalid refl

module _ (q : QueueHistory) where
  room : (o : Outcome) → IsRecorded o → IsRecorded (unless_refused (first_refusal q) o)
  room o h = recorded-room (is_closed q.lines) (is_full q) o h

  pub recorded_in : (command : Command) → IsRecorded (outcome_in q command)
  recorded_in (commands.Send content delay) =
      room _ (recorded-either (nat_lt (settings_of q.lines).maximum_message_size (content_size content)) _ _ (recorded-refusal InvalidParameterValue refl) (recorded-answered _ _))
  recorded_in (commands.Receive maximum timeout) =
      room _ (recorded-either (nat_le q.limits.in_flight (in_flight_count q)) _ _ (recorded-refusal OverLimit refl) (recorded-answered _ _))
  recorded_in (commands.Change handle timeout) =
      room _ (recorded-change (is_valid_handle q handle) (holds_in_flight q handle) (passes_twelve_hours q handle.number timeout) (Changed handle.number timeout))
  recorded_in (commands.Delete handle) =
      room _ (recorded-either (is_valid_handle q handle) _ _ (recorded-answered _ _) (recorded-refusal ReceiptHandleIsInvalid refl))
  recorded_in commands.Purge = room _ (recorded-answered _ _)
  recorded_in (commands.Set wish target) = room _ (recorded-answered _ _)
  recorded_in (commands.Arrive parcel) =
      room _ (recorded-either (has_accepted q.lines parcel.origin.uid parcel.origin.number) _ _ (recorded-answered _ _) (recorded-answered _ _))
  recorded_in (commands.Settle number) = room _ (recorded-either (is_pending q number) _ _ (recorded-answered _ _) (recorded-answered _ _))
  recorded_in (commands.Orphan target) = room _ (recorded-answered _ _)
  recorded_in commands.FirstParcel = recorded-answered _ _
  recorded_in commands.Close = recorded-either (is_closed q.lines) _ _ (λ fault h. by_fault QueueDoesNotExist fault None refl h) (recorded-answered _ _)
  recorded_in commands.Look = recorded-answered _ _

pub recorded : (q : QueueHistory) (command : Command) → IsRecorded (outcome_of q command)
recorded q command = recorded_in (rebased_where (rebases q command) q) command
