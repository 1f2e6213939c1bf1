-- What the journal of an open queue comes to is something that a checkpoint can be made from.
use Rattle.std.proofs.Common.{◌≡◌, ℕ, ◌+◌, ◌-◌, ◌*◌, ◌≤◌, ◌<◌, Bool, false, ◌&&◌, ◌||◌, List, length, Option, Some, None, inl, inr, refl, sym, ap, subst, ◌∙◌, arith}
use Rattle.std.specs.Prelude.{◌==◌, min, nat_eq, nat_le, slice_index, option_and_then, map}
use Rattle.std.specs.List.{Contains, AllPairs, range_with_len}
use Rattle.std.proofs.lemmas.Bool.{cases_lt}
use Rattle.std.proofs.lemmas.List.{get_or_past}
use Rattle.std.proofs.lemmas.List.Elements.{All-map, All-weaker, All-contains, All-contains_itself}
use Rattle.std.proofs.lemmas.Option.{none-some, same_Some}
use Rattle.message.specs.Content.{ContentText, content_size}
use Rattle.metric_window.specs.Flows.{greatest, capped, minute_of, entries_in, flows_total}
use Rattle.metric_window.specs.Window.{window_start}
use Rattle.metric_window.specs.declared.row.Row.{Row}
use Rattle.metric_window.proofs.FlowLemmas.{capped-twice}
use Rattle.queue_core.specs.declared.facts.Message.{Message}
use Rattle.queue_core.specs.declared.facts.Status.{Status}
use Rattle.queue_core.specs.declared.facts.Status.TheVariants.{Waiting}
use Rattle.queue_core.specs.declared.facts.Transfer.{Transfer}
use Rattle.queue_core.specs.Messages.{message_count, settings_of, is_closed, is_expired, receive_count, course_of, is_present, is_removed_status, pending_transfers}
use Rattle.queue_core.specs.Metrics.{metric_row}
use Rattle.queue_core.specs.States.{message_numbered}
use Rattle.queue_core.specs.private.Recorded.{runs_out_by}
use Rattle.queue_core.specs.Summary.{KnownMessage, Summary, known_message, known_where, summary_of}
use Rattle.queue_core.proofs.records.FactLemmas.{Line, expired-split, numbered-number, numbered-place, numbered-below}
use Rattle.queue_core.proofs.PushLemmas.{count-upto, content_numbered}
use Rattle.queue_core.proofs.entries.TallyLemmas.{received-count}
use Rattle.queue_core.proofs.OfferLemmas.{Contains-map}
use Rattle.queue_core.proofs.PendingLemmas.{IsPendingOf}
use Rattle.queue_core.proofs.SoundLemmas.{IsSound}
use Rattle.queue_core.proofs.entries.PairLemmas.{AllPairs-map}
use Rattle.queue_core.proofs.checkpoints.StandingStepLemmas.{or-twice, unexpired, kept_there}
use Rattle.queue_core.proofs.minutes.RowLemmas.{metric_row-minute}
use Rattle.queue_core.proofs.records.RecordLemmas.{then_some}
use Rattle.queue_core.proofs.records.SummaryLemmas.{receives_within}
use Rattle.queue_core.proofs.checkpoints.StandingLemmas.{each_is, known_so}

-- ---- a summary that an open queue has

pub record IsOpen (s : Summary) (clock : ℕ) : Type 0 where
  pub unclosed : s.closed ≡ false
  pub early : s.created ≤ clock
  pub number : (n : ℕ) (k : KnownMessage) → s.known n ≡ Some k → k.number ≡ n
  pub within : (n : ℕ) (k : KnownMessage) → s.known n ≡ Some k → n < length s.receives
  pub contained : (n : ℕ) (k : KnownMessage) → s.known n ≡ Some k → (content : ContentText) × (k.content ≡ Some content)
  pub lasts : (n : ℕ) (k : KnownMessage) → s.known n ≡ Some k → k.target ≡ None → k.is_expired ≡ false
  pub noted : (n : ℕ) (k : KnownMessage) → s.known n ≡ Some k → (k.is_expired || nat_le (k.sent + 1000 * s.settings.retention_seconds) clock) ≡ k.is_expired
  pub waits : (n : ℕ) (k : KnownMessage) (target : ℕ) → s.known n ≡ Some k → k.target ≡ Some target → Contains s.leaving n
  pub leaving : (n : ℕ) → Contains s.leaving n → (k : KnownMessage) × (target : ℕ) × (s.known n ≡ Some k) × (k.target ≡ Some target)
  pub once : AllPairs (λ a b. nat_eq a b ≡ false) s.leaving
  pub few : (n : ℕ) → min (slice_index s.receives n) greatest ≡ slice_index s.receives n
  pub row : ℕ → Row
  pub row_minute : (m : ℕ) → (row m).minute ≡ m
  pub rows : s.rows ≡ map row (range_with_len (window_start s.created clock) (minute_of clock - window_start s.created clock))
  pub flows : capped s.flows ≡ s.flows

-- ---- that of a journal

capped-same : (k : ℕ) → k ≤ greatest → min k greatest ≡ k
capped-same k h = omega arith

module _ (lines : List Line) (clock : ℕ) where
  abbrev told : Summary
  told = summary_of lines clock

  -- what is known under a number is of its message, which is there, or waits
  record IsKnown (n : ℕ) (k : KnownMessage) : Type 0 where
    message : Message
    numbered : message_numbered lines n ≡ Some message
    target : Option ℕ
    same : known_message lines clock target message ≡ k
    unremoved : is_removed_status (course_of lines message).status ≡ false
    lasts : target ≡ None → is_expired lines clock message ≡ false
    waits : (own : ℕ) → target ≡ Some own → (course_of lines message).status ≡ Waiting own

  known_is : (n : ℕ) (k : KnownMessage) → told.known n ≡ Some k → IsKnown n k
  known_is n k h =
      let there = then_some (λ m. known_so lines clock m) (message_numbered lines n) k h in
      let m : Message = there.0 in
      elim (each_is lines clock m) [
        | inl x ↦ record {
          message = m;
          numbered = there.1;
          target = None;
          same = same_Some (known_message lines clock None m) k (sym x.1 ∙ there.2);
          unremoved = kept_there (course_of lines m).status (is_expired lines clock m) x.0;
          lasts = λ t. unexpired (is_present lines m) (is_expired lines clock m) x.0;
          waits = λ own t. absurd (none-some own t);
        }
        | inr other ↦ elim other [
          | inl x ↦ record {
            message = m;
            numbered = there.1;
            target = Some x.0;
            same = same_Some (known_message lines clock (Some x.0) m) k (sym x.2 ∙ there.2);
            unremoved = ap is_removed_status x.1;
            lasts = λ t. absurd (none-some x.0 (sym t));
            waits = λ own t. x.1 ∙ ap (λ (i : ℕ). Waiting i) (same_Some x.0 own t);
          }
          | inr x ↦ absurd (none-some k (sym x.2 ∙ there.2))
        ]
      ]

  -- whether its retention is over is known already
  split : (n : ℕ) (m : Message) → message_numbered lines n ≡ Some m → (is_expired lines clock m || runs_out_by (settings_of lines) clock m) ≡ is_expired lines clock m
  split n m numbered =
      let parts = expired-split lines clock m (numbered-place lines n m numbered) in
      ap (λ (b : Bool). b || runs_out_by (settings_of lines) clock m) parts ∙ or-twice _ (runs_out_by (settings_of lines) clock m) ∙ sym parts

  module _ (n : ℕ) (k : KnownMessage) (h : told.known n ≡ Some k) where
    abbrev known : IsKnown n k
    known = known_is n k h

    abbrev m : Message
    m = known.message

    number_so : k.number ≡ n
    number_so = ap (λ (x : KnownMessage). x.number) (sym known.same) ∙ numbered-number lines n m known.numbered

    within_so : n < length told.receives
    within_so = let below = numbered-below lines n m known.numbered in let count = received-count lines clock in omega arith

    contained_so : (content : ContentText) × (k.content ≡ Some content)
    contained_so =
        let content = content_numbered lines n m known.numbered known.unremoved in
        (content.0, ap (λ (x : KnownMessage). x.content) (sym known.same) ∙ content.1)

    target_so : known.target ≡ k.target
    target_so = ap (λ (x : KnownMessage). x.target) known.same

    lasts_so : k.target ≡ None → k.is_expired ≡ false
    lasts_so t = ap (λ (x : KnownMessage). x.is_expired) (sym known.same) ∙ known.lasts (target_so ∙ t)

    noted_so : (k.is_expired || nat_le (k.sent + 1000 * (settings_of lines).retention_seconds) clock) ≡ k.is_expired
    noted_so =
        subst (λ (x : KnownMessage). (x.is_expired || nat_le (x.sent + 1000 * (settings_of lines).retention_seconds) clock) ≡ x.is_expired) known.same
        (split n m known.numbered)

  few_so : (n : ℕ) → min (slice_index told.receives n) greatest ≡ slice_index told.receives n
  few_so n = elim (cases_lt n (message_count lines)) [
    | inl below ↦ subst (λ (c : ℕ). min c greatest ≡ c) (sym (receives_within lines clock n below)) (capped-same (receive_count lines n) (count-upto lines n))
    | inr past ↦
        let none : slice_index told.receives n ≡ 0 = (let count = received-count lines clock in get_or_past told.receives n 0 (omega arith)) in
        subst (λ (c : ℕ). min c greatest ≡ c) (sym none) refl
  ]

  -- the numbers of those that wait are those of the transfers
  abbrev IsOfTransfer : ℕ → Type 0
  IsOfTransfer n = (t : Transfer) × Contains (pending_transfers lines) t × (t.number ≡ n)

  transfer_of : (n : ℕ) → Contains told.leaving n → IsOfTransfer n
  transfer_of n there =
      All-contains IsOfTransfer told.leaving n
      (All-map IsOfTransfer (λ t. t.number) (pending_transfers lines)
      (All-weaker (Contains (pending_transfers lines)) (λ t. IsOfTransfer t.number) (λ t is. (t, is, refl)) (pending_transfers lines) (All-contains_itself (pending_transfers lines))))
      there

  module _ (pending : IsPendingOf lines) where
    waits_so : (n : ℕ) (k : KnownMessage) (target : ℕ) (h : told.known n ≡ Some k) → k.target ≡ Some target → Contains told.leaving n
    waits_so n k target h t =
        let known = known_is n k h in
        let there = pending.pending n target known.message known.numbered (known.waits target (target_so n k h ∙ t)) in
        Contains-map (λ t. t.number) (pending_transfers lines) (record { number = n; target = target }) there

    known_waiting : (n target : ℕ) (m : Message) → message_numbered lines n ≡ Some m → (course_of lines m).status ≡ Waiting target → told.known n ≡ Some (known_message lines clock (Some target) m)
    known_waiting n target m numbered waits =
        ap (option_and_then (λ m. known_where lines clock (course_of lines m).status m)) numbered
        ∙ ap (λ (s : Status). known_where lines clock s m) waits

    leaving_so : (n : ℕ) → Contains told.leaving n → (k : KnownMessage) × (target : ℕ) × (told.known n ≡ Some k) × (k.target ≡ Some target)
    leaving_so n there =
        let t = transfer_of n there in
        let m = pending.waiting t.0 t.1 in (
          known_message lines clock (Some t.0.target) m.0,
          t.0.target,
          known_waiting n t.0.target m.0 (subst (λ (i : ℕ). message_numbered lines i ≡ Some m.0) t.2 m.1) m.2,
          refl,
        )

pub open_summary : (lines : List Line) (clock : ℕ) → IsSound lines clock → is_closed lines ≡ false → IsOpen (summary_of lines clock) clock
open_summary lines clock sound unclosed = record {
  unclosed = unclosed;
  early = sound.early;
  number = λ n k h. number_so lines clock n k h;
  within = λ n k h. within_so lines clock n k h;
  contained = λ n k h. contained_so lines clock n k h;
  lasts = λ n k h t. lasts_so lines clock n k h t;
  noted = λ n k h. noted_so lines clock n k h;
  waits = λ n k target h t. waits_so lines clock sound.pending n k target h t;
  leaving = λ n there. leaving_so lines clock sound.pending n there;
  once = AllPairs-map (λ t. t.number) (λ a b. nat_eq a b ≡ false) (pending_transfers lines) sound.pending.once;
  few = λ n. few_so lines clock n;
  row = λ m. metric_row content_size lines m;
  row_minute = λ m. metric_row-minute content_size lines m;
  rows = refl;
  flows = capped-twice (flows_total content_size (entries_in (minute_of clock) lines));
}
