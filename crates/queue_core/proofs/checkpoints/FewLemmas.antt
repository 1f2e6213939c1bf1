-- No more messages are live or wait than a journal weighs.
use Rattle.std.proofs.Common.{◌≡◌, ℕ, zero, suc, ◌+◌, ◌≤◌, ◌<◌, Bool, true, false, List, [], ◌∷◌, ◌++◌, Option, Some, None, inl, inr, refl, sym, ap, ◌∙◌, arith}
use Rattle.std.specs.Prelude.{count_by}
use Rattle.std.specs.Option.{option_map_or}
use Rattle.std.specs.List.{range_with_len}
use Rattle.std.proofs.lemmas.Bool.{false≢true, lt-ltb, cases_lt}
use Rattle.std.proofs.lemmas.List.Sums.{sum_by-cons}
use Rattle.message.specs.Content.{ContentText}
use Rattle.journal.specs.declared.entry.Event.{Event}
use Rattle.queue_core.specs.Messages.{message_count}
use Rattle.queue_core.specs.States.{kept_count}
use Rattle.queue_core.specs.Queue.{QueueHistory}
use Rattle.queue_core.proofs.CauseLemmas.{IsAbout}
use Rattle.queue_core.specs.private.Slots.{one_if}
use Rattle.queue_core.specs.private.Tally.{births}
use Rattle.queue_core.specs.Summary.{KnownMessage, summary_of}
use Rattle.queue_core.proofs.Scans.{births_few}
use Rattle.queue_core.proofs.records.FactLemmas.{Line, IsSound}
use Rattle.queue_core.proofs.PushLemmas.{count-push}
use Rattle.queue_core.proofs.entries.TallyLemmas.{received-count}
use Rattle.queue_core.proofs.indexed.SlotCountLemmas.{count_more}
use Rattle.queue_core.proofs.checkpoints.StandingLemmas.{passes, kept_told}
use Rattle.queue_core.proofs.checkpoints.StandingStepLemmas.{unknown_later, unknown_behind}

implied : (a b : Bool) → (a ≡ true → b ≡ true) → one_if a ≤ one_if b
implied true b h = let is : one_if b ≡ 1 = ap one_if (h refl) in omega arith
implied false b h = omega arith

-- below a count, fewer numbers pass a test that implies another
count-within : (p q : ℕ → Bool) (first count : ℕ) → ((n : ℕ) → first ≤ n → n < first + count → p n ≡ true → q n ≡ true) → count_by p (range_with_len first count) ≤ count_by q (range_with_len first count)
count-within p q first zero h = omega arith
count-within p q first (suc count) h =
    let here : one_if (p first) ≤ one_if (q first) = implied (p first) (q first) (h first (omega arith) (omega arith)) in
    let rest = count-within p q (first + 1) count (λ n low high. h n (omega arith) (omega arith)) in
    omega (arith, here, rest, sum_by-cons (λ n. one_if (p n)) first (range_with_len (first + 1) count), sum_by-cons (λ n. one_if (q n)) first (range_with_len (first + 1) count))

module _ (known known' : ℕ → Option KnownMessage) (n : ℕ) (gone : known n ≡ None → known' n ≡ None) where
  was_known : passes (λ k. true) known' n ≡ true → passes (λ k. true) known n ≡ true
  was_known h = by_known (known n) refl
    where
      by_known : (o : Option KnownMessage) → known n ≡ o → option_map_or (λ (k : KnownMessage). true) o false ≡ true
      by_known None e = sym (ap (λ (o : Option KnownMessage). option_map_or (λ (k : KnownMessage). true) o false) (gone e)) ∙ h
      by_known (Some k) e = refl

kept_known : (lines : List Line) (clock : ℕ) → kept_count lines clock ≡ count_by (passes (λ k. true) (summary_of lines clock).known) (range_with_len 0 (message_count lines))
kept_known lines clock =
    kept_told lines clock ∙ ap (λ (n : ℕ). count_by (passes (λ k. true) (summary_of lines clock).known) (range_with_len 0 n)) (received-count lines clock)

pub fewer_later : (lines : List Line) (clock later : ℕ) → clock ≤ later → kept_count lines later ≤ kept_count lines clock
fewer_later lines clock later rises =
    let few =
    count-within (passes (λ k. true) (summary_of lines later).known) (passes (λ k. true) (summary_of lines clock).known) 0 (message_count lines)
    (λ n low high. was_known (summary_of lines clock).known (summary_of lines later).known n (λ none. unknown_later lines clock later rises n none)) in
    omega (arith, few, kept_known lines clock, kept_known lines later)

pub few_behind : (q : QueueHistory) (event : Event ContentText) → IsSound q.lines q.clock → IsAbout q event
    → kept_count (q.lines ++ record { at = q.clock; event = event } ∷ []) q.clock ≤ kept_count q.lines q.clock + 1
few_behind q event sound of =
    let e : Line = record { at = q.clock; event = event } in
    let more : List Line = q.lines ++ e ∷ [] in
    let test : ℕ → Bool = passes (λ k. true) (summary_of more q.clock).known in
    let few =
    count-within test (passes (λ k. true) (summary_of q.lines q.clock).known) 0 (message_count q.lines)
    (λ n low high.
    was_known (summary_of q.lines q.clock).known (summary_of more q.clock).known n (λ none. unknown_behind q event sound of n (lt-ltb n (message_count q.lines) (omega arith)) none)) in
    let born = births_few event of.alone in
    let count = count-push q.lines e in
    omega (arith, few, behind test (message_count q.lines) (births event) born, kept_known q.lines q.clock, kept_known more q.clock ∙ ap (λ (n : ℕ). count_by test (range_with_len 0 n)) count)
  where
    at_most_one : (b : Bool) → one_if b ≤ 1
    at_most_one true = omega arith
    at_most_one false = omega arith

    behind : (p : ℕ → Bool) (count more : ℕ) → more ≤ 1 → count_by p (range_with_len 0 (count + more)) ≤ count_by p (range_with_len 0 count) + 1
    behind p count more h = elim (cases_lt more 1) [
      | inl none ↦ (let same : count + more ≡ count = omega arith in let all = ap (λ (n : ℕ). count_by p (range_with_len 0 n)) same in omega (arith, all))
      | inr one ↦ (let same : count + more ≡ count + 1 = omega arith in let all = ap (λ (n : ℕ). count_by p (range_with_len 0 n)) same in omega (arith, all, count_more p count, at_most_one (p count)))
    ]
