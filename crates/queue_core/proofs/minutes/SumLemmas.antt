-- What the entries of a whole journal are counted as is small: no sum comes near the greatest number of a row.
use Rattle.std.proofs.Common.{◌≡◌, ℕ, suc, ◌+◌, ◌*◌, ◌^◌, ◌≤◌, min, Bool, true, false, cond, eqb, List, [], ◌∷◌, ◌++◌, map, length, Option, Some, sym, ap, subst, ◌∙◌, arith}
use Rattle.std.specs.Prelude.{IfSome, filter, nat_lt, unwrap_or}
use Rattle.std.specs.List.{AllByRecursion}
use Rattle.std.proofs.lemmas.List.{length-map}
use Rattle.std.proofs.lemmas.Bool.Decides.{nat_tests}
use Rattle.message.specs.declared.fault.Fault.{Fault}
use Rattle.message.specs.declared.fault.Fault.TheVariants.{InvalidParameterValue}
use Rattle.message.specs.Content.{ContentText, content_size}
use Rattle.queue_config.specs.Limits.{max_lines_row}
use Rattle.queue_config.specs.Settings.{settings_with, default_settings}
use Rattle.journal.specs.declared.entry.Entry.{Entry}
use Rattle.journal.specs.declared.entry.Event.{Event}
use Rattle.journal.specs.declared.entry.Event.TheVariants.{Opened, Sent, Arrived, Received, Changed, Deleted, DeletedAgain, Purged, Set, Settled, Orphaned, Refused, Closed, Base}
use Rattle.metric_window.specs.declared.flows.Flows.{Flows}
use Rattle.metric_window.specs.Flows.{no_flows, flows_of, added, total, capped, greatest, minute_of, entries_in, minute_flows, flows_total}
use Rattle.metric_window.specs.Window.{longest_window, window_end}
use Rattle.metric_window.proofs.FlowLemmas.{same_flows}
use Rattle.queue_core.specs.declared.command.Command.{Command}
use Rattle.queue_core.specs.declared.command.Command.TheVariants as commands
use Rattle.queue_core.specs.Messages.{settings_of, settings_after, created_time}
use Rattle.queue_core.specs.Metrics.{current_flows, window_rows}
use Rattle.queue_core.specs.Queue.{QueueHistory, refusal, first_refusal, send_outcome, offered_candidates, received_event, numbers_of, rebased_where, outcome_in, outcome_of, with_optional_event}
use Rattle.queue_core.specs.Legal.{IsAllowedIn, IsCausedIn, AreCaused, BeginsAndFollows, IsWhole}
use Rattle.queue_core.proofs.OfferLemmas.{offered_at_most}
use Rattle.queue_core.proofs.PushLemmas.{settings_from-push}
use Rattle.queue_core.proofs.CauseLemmas as cause
use Rattle.queue_core.proofs.commands.InPlaceLemmas.{added_in}
use Rattle.queue_core.proofs.minutes.CountedLemmas.{counted}
use Rattle.queue_core.proofs.MetricLemmas.{flows_add}

abbrev largest : ℕ
largest = 2 ^ 20

-- each number is at most so many times the largest size of a content
record AreAtMost (count : ℕ) (f : Flows) : Type 0 where
  sent : f.sent ≤ count * largest
  sent_size : f.sent_size ≤ count * largest
  received : f.received ≤ count * largest
  empty_receives : f.empty_receives ≤ count * largest
  deleted : f.deleted ≤ count * largest
  refused : f.refused ≤ count * largest
  dead_letters_arrived : f.dead_letters_arrived ≤ count * largest

-- ---- one event

-- it is counted as little, and a content behind it is as small
record IsSmall (q : QueueHistory) (event : Event ContentText) : Type 0 where
  flows : AreAtMost 1 (flows_of content_size event)
  size : (settings_after (settings_of q.lines) event).maximum_message_size ≤ largest

flows-receive : (offers : ℕ) (b : Bool) → offers ≤ 10 → AreAtMost 1 (record no_flows { received = offers; empty_receives = cond b 1 0 })
flows-receive offers true h = record { sent = omega arith; sent_size = omega arith; received = omega arith; empty_receives = omega arith; deleted = omega arith; refused = omega arith; dead_letters_arrived = omega arith }
flows-receive offers false h = record { sent = omega arith; sent_size = omega arith; received = omega arith; empty_receives = omega arith; deleted = omega arith; refused = omega arith; dead_letters_arrived = omega arith }

flows-sent : (delay : ℕ) (content : ContentText) → content_size content ≤ largest → AreAtMost 1 (flows_of content_size (Sent delay content))
flows-sent delay content h = record { sent = omega arith; sent_size = omega arith; received = omega arith; empty_receives = omega arith; deleted = omega arith; refused = omega arith; dead_letters_arrived = omega arith }

-- every other event
abbrev IsOther : Event ContentText → Type 0
IsOther (Sent delay content) = ⊥
IsOther (Received timeout offered leaving target) = ⊥
IsOther (Base base) = ⊥
IsOther event = Unit {0}

flows-other : (event : Event ContentText) → IsOther event → AreAtMost 1 (flows_of content_size event)
flows-other (Sent delay content) h = absurd h
flows-other (Received timeout offered leaving target) h = absurd h
flows-other (Base base) h = absurd h
flows-other event h = record { sent = omega arith; sent_size = omega arith; received = omega arith; empty_receives = omega arith; deleted = omega arith; refused = omega arith; dead_letters_arrived = omega arith }

module _ (q : QueueHistory) (within : (settings_of q.lines).maximum_message_size ≤ largest) where
  small_refusal : (fault : Fault) → IsSmall q (Refused fault)
  small_refusal fault = record { flows = flows-other (Refused fault) tt; size = within }

  small_received : (maximum : ℕ) (timeout : Option ℕ) → maximum ≤ 10 → IsSmall q (received_event q maximum timeout)
  small_received maximum timeout h =
      let most = offered_at_most q maximum in
      let same = length-map (offered_candidates q maximum) (λ c. c.message.number) in
      let few : length (numbers_of (offered_candidates q maximum)) ≤ 10 = omega arith in
      record { flows = flows-receive (length (numbers_of (offered_candidates q maximum))) (eqb (length (numbers_of (offered_candidates q maximum))) 0) few; size = within }

  fits_size : (content : ContentText) → nat_lt (settings_of q.lines).maximum_message_size (content_size content) ≡ false → content_size content ≤ largest
  fits_size content fits = let h : content_size content ≤ (settings_of q.lines).maximum_message_size = at _ _ fits in omega arith where
    at : (m n : ℕ) → nat_lt m n ≡ false → n ≤ m
    at m n h = grind (arith, nat_tests)

  small_sent : (content : ContentText) (delay : Option ℕ) → IfSome (outcome_in q (commands.Send content delay)).event (IsSmall q)
  small_sent content delay =
      cause.added-unless_refused (IsSmall q) (first_refusal q) (send_outcome q content delay)
      (cause.added-cond (IsSmall q) (nat_lt (settings_of q.lines).maximum_message_size (content_size content)) (refusal InvalidParameterValue) _ (λ large. small_refusal InvalidParameterValue)
      (λ fits. record { flows = flows-sent (unwrap_or delay (settings_of q.lines).delay_seconds) content (fits_size content fits); size = within }))

  small_other : (event : Event ContentText) → IsOther event → (settings_after (settings_of q.lines) event).maximum_message_size ≤ largest → IsSmall q event
  small_other event other size = record { flows = flows-other event other; size = size }

  by_added : (command : Command) → cause.IsSoOfAdded q (IsSmall q) command → IfSome (outcome_in q command).event (IsSmall q)
  by_added command h = cause.added (IsSmall q) q small_refusal command h

  small_outcome : (command : Command) → IsAllowedIn q command → IfSome (outcome_in q command).event (IsSmall q)
  small_outcome (commands.Send content delay) h = small_sent content delay
  small_outcome (commands.Receive maximum timeout) h = by_added (commands.Receive maximum timeout) (small_received maximum timeout h.0.1)
  small_outcome (commands.Change handle timeout) h = by_added (commands.Change handle timeout) (λ unrefused. small_other (Changed handle.number timeout) tt within)
  small_outcome (commands.Delete handle) h = by_added (commands.Delete handle) (small_other (Deleted handle.number) tt within, small_other DeletedAgain tt within)
  small_outcome commands.Purge h = by_added commands.Purge (small_other Purged tt within)
  small_outcome (commands.Set wish target) h =
      by_added (commands.Set wish target) (small_other (Set (settings_with (settings_of q.lines) wish target)) tt h.numbers.maximum_message_size.most)
  small_outcome (commands.Arrive parcel) h = by_added (commands.Arrive parcel) (λ first. small_other (Arrived parcel.origin parcel.content) tt within)
  small_outcome (commands.Settle number) h = by_added (commands.Settle number) (λ pending. small_other (Settled number) tt within)
  small_outcome (commands.Orphan target) h = by_added (commands.Orphan target) (small_other (Orphaned target) tt within)
  small_outcome commands.Close h = by_added commands.Close (small_other Closed tt within)
  small_outcome commands.Look h = tt
  small_outcome commands.FirstParcel h = tt

  small_caused : (event : Event ContentText) → IsCausedIn q event → IsSmall q event
  small_caused event caused = subst (λ (o : Option (Event ContentText)). IfSome o (IsSmall q)) (added_in q event caused) (small_outcome caused.command caused.allowed)

-- ---- every entry of a legal journal

abbrev AreSmall : List (Entry ContentText) → Type 0
AreSmall es = AllByRecursion (λ e. AreAtMost 1 (flows_of content_size e.event)) es

small_all : (q : QueueHistory) (before es : List (Entry ContentText)) → (settings_of before).maximum_message_size ≤ largest → AreCaused q before es → AreSmall es
small_all q before [] h c = tt
small_all q before (e ∷ es) h c =
    let small = small_caused (record q { clock = e.at; lines = before }) h e.event c.0 in
    (small.flows, small_all q (before ++ e ∷ []) es (subst (λ s. s.maximum_message_size ≤ largest) (sym (settings_from-push default_settings before e)) small.size) c.1)

small_lines : (q : QueueHistory) (lines : List (Entry ContentText)) → BeginsAndFollows q lines → AreSmall lines
small_lines q [] h = absurd h
small_lines q (e ∷ es) h =
    let first = h.0 in
    let opened : e.event ≡ Opened q.uid first.settings = first.opened in (
      rw opened (flows-other (Opened q.uid first.settings) tt),
      small_all q (e ∷ []) es (rw opened first.allowed.numbers.maximum_message_size.most) h.1,
    )

-- ---- their sums

at_most-cond : (b : Bool) (count : ℕ) (e : Entry ContentText) (kept : List (Entry ContentText)) → AreAtMost 1 (flows_of content_size e.event) → AreAtMost count (flows_total content_size kept)
    → AreAtMost (suc count) (flows_total content_size (cond b (e ∷ kept) kept))
at_most-cond true count e kept h k = record {
  sent = (let a = h.sent in let b = k.sent in omega arith);
  sent_size = (let a = h.sent_size in let b = k.sent_size in omega arith);
  received = (let a = h.received in let b = k.received in omega arith);
  empty_receives = (let a = h.empty_receives in let b = k.empty_receives in omega arith);
  deleted = (let a = h.deleted in let b = k.deleted in omega arith);
  refused = (let a = h.refused in let b = k.refused in omega arith);
  dead_letters_arrived = (let a = h.dead_letters_arrived in let b = k.dead_letters_arrived in omega arith);
}
at_most-cond false count e kept h k = record {
  sent = (let b = k.sent in omega arith);
  sent_size = (let b = k.sent_size in omega arith);
  received = (let b = k.received in omega arith);
  empty_receives = (let b = k.empty_receives in omega arith);
  deleted = (let b = k.deleted in omega arith);
  refused = (let b = k.refused in omega arith);
  dead_letters_arrived = (let b = k.dead_letters_arrived in omega arith);
}

nothing : AreAtMost 0 no_flows
nothing = record { sent = omega arith; sent_size = omega arith; received = omega arith; empty_receives = omega arith; deleted = omega arith; refused = omega arith; dead_letters_arrived = omega arith }

-- those that pass a test are counted as no more than all may be
at_most-kept : (p : Entry ContentText → Bool) (es : List (Entry ContentText)) → AreSmall es → AreAtMost (length es) (flows_total content_size (filter p es))
at_most-kept p [] h = nothing
at_most-kept p (e ∷ es) h = at_most-cond (p e) (length es) e (filter p es) h.0 (at_most-kept p es h.1)

at_most-all : (es : List (Entry ContentText)) → AreSmall es → AreAtMost (length es) (flows_total content_size es)
at_most-all [] h = nothing
at_most-all (e ∷ es) h = at_most-cond true (length es) e es h.0 (at_most-all es h.1)

-- so short a journal
abbrev IsShort : ℕ → Type 0
IsShort count = count ≤ max_lines_row.most + 1

uncut_number : (n count : ℕ) → IsShort count → n ≤ count * largest → min n greatest ≡ n
uncut_number n count short h = omega arith

uncut : (count : ℕ) (f : Flows) → IsShort count → AreAtMost count f → capped f ≡ f
uncut count f short h =
    same_flows (capped f) f (uncut_number f.sent count short h.sent) (uncut_number f.sent_size count short h.sent_size) (uncut_number f.received count short h.received)
    (uncut_number f.empty_receives count short h.empty_receives) (uncut_number f.deleted count short h.deleted) (uncut_number f.refused count short h.refused)
    (uncut_number f.dead_letters_arrived count short h.dead_letters_arrived)

-- numbers that are small where they are cut were not cut
whole_number : (n m count : ℕ) → IsShort count → m ≤ count * largest → min n greatest ≡ m → n ≡ m
whole_number n m count short h e = omega arith

whole : (count : ℕ) (f g : Flows) → IsShort count → AreAtMost count g → capped f ≡ g → f ≡ g
whole count f g short h e =
    same_flows f g (whole_number f.sent g.sent count short h.sent (ap (λ x. x.sent) e)) (whole_number f.sent_size g.sent_size count short h.sent_size (ap (λ x. x.sent_size) e))
    (whole_number f.received g.received count short h.received (ap (λ x. x.received) e)) (whole_number f.empty_receives g.empty_receives count short h.empty_receives (ap (λ x. x.empty_receives) e))
    (whole_number f.deleted g.deleted count short h.deleted (ap (λ x. x.deleted) e)) (whole_number f.refused g.refused count short h.refused (ap (λ x. x.refused) e))
    (whole_number f.dead_letters_arrived g.dead_letters_arrived count short h.dead_letters_arrived (ap (λ x. x.dead_letters_arrived) e))

next_number : (n m count : ℕ) → IsShort count → m ≤ count * largest → n ≡ m → min (n + 1) greatest ≡ n + 1
next_number n m count short h e = omega arith

module _ (q : QueueHistory) (legal : IsWhole q) (short : IsShort (length q.lines)) where
  small : AreSmall q.lines
  small = small_lines q q.lines legal.caused

  minute_at_most : (minute : ℕ) → AreAtMost (length q.lines) (flows_total content_size (entries_in minute q.lines))
  minute_at_most minute = at_most-kept (λ e. eqb (minute_of e.at) minute) q.lines small

  pub minute_uncut : (minute : ℕ) → minute_flows content_size q.lines minute ≡ flows_total content_size (entries_in minute q.lines)
  minute_uncut minute = uncut (length q.lines) (flows_total content_size (entries_in minute q.lines)) short (minute_at_most minute)

  pub sum_uncut : window_end q.clock ≤ minute_of (created_time q.lines) + longest_window
      → added (total (map (λ r. r.flows) (window_rows content_size q.lines q.clock))) (current_flows content_size q.lines q.clock) ≡ flows_total content_size q.lines
  sum_uncut kept =
      let all = at_most-all q.lines small in
      whole (length q.lines) (added (total (map (λ r. r.flows) (window_rows content_size q.lines q.clock))) (current_flows content_size q.lines q.clock)) (flows_total content_size q.lines)
      short all (flows_add q legal kept ∙ uncut (length q.lines) (flows_total content_size q.lines) short all)

  pub refusal_counts : (command : Command) (fault : Fault) → (outcome_of q command).event ≡ Some (Refused fault)
      → (current_flows content_size (with_optional_event (rebased_where (outcome_of q command).rebases q) (outcome_of q command).event).lines q.clock).refused ≡ (current_flows content_size q.lines q.clock).refused + 1
  refusal_counts command fault is =
      let one = ap (λ x. x.refused) (counted q command fault is) in
      let few = (minute_at_most (minute_of q.clock)).refused in
      let same = ap (λ x. x.refused) (minute_uncut (minute_of q.clock)) in
      one ∙ next_number _ _ (length q.lines) short few same
