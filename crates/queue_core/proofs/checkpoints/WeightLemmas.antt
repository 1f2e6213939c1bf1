-- A checkpoint weighs 1, and 1 more for each message that is live or waits for a dead-letter queue.
use Rattle.std.proofs.Common.{◌≡◌, ℕ, ◌+◌, ◌<◌, Bool, true, false, not, cond, ◌&&◌, List, [], ◌∷◌, ◌++◌, length, Option, Some, None, inl, inr, refl, sym, ap, subst, ◌∙◌, arith}
use Rattle.std.specs.Prelude.{◌==◌, is_some, option_map, option_and_then, filter_map, count_by}
use Rattle.std.specs.Option.{option_map_or}
use Rattle.std.specs.List.{AllByRecursion, Contains, cons_option, range_with_len}
use Rattle.std.proofs.lemmas.Bool.{false≢true, true≢false, eqb-true, or_cases}
use Rattle.std.proofs.lemmas.List.{length-append}
use Rattle.std.proofs.lemmas.List.Elements.{All-contains_itself, recursion_from_All, Contains-append_left, Contains-append_right, Contains-push}
use Rattle.std.proofs.lemmas.List.Sums.{sum_by-cons}
use Rattle.message.specs.Content.{ContentText}
use Rattle.journal.specs.declared.entry.Event.TheVariants.{Base}
use Rattle.journal.specs.declared.base.KeptMessage.{KeptMessage}
use Rattle.journal.specs.Journal.{based}
use Rattle.journal.specs.Weight.{event_weight, weight_of}
use Rattle.queue_core.specs.Messages.{contains_number, is_closed}
use Rattle.queue_core.specs.States.{kept_count}
use Rattle.queue_core.specs.private.Slots.{one_if}
use Rattle.queue_core.specs.Summary.{KnownMessage, Summary, summary_of}
use Rattle.queue_core.specs.Rebase.{kept_with, kept_of, live_at, kept_at, kept_live, kept_waiting, base_of}
use Rattle.queue_core.proofs.records.FactLemmas.{Line, IsSound}
use Rattle.queue_core.proofs.PendingLemmas.{contains-number}
use Rattle.queue_core.proofs.indexed.SlotCountLemmas.{count_agree, count_members}
use Rattle.queue_core.proofs.checkpoints.StandingLemmas.{is_there, passes, kept_told}
use Rattle.queue_core.proofs.checkpoints.OpenLemmas.{IsOpen, open_summary}

abbrev Kept : Type 0
Kept = KeptMessage ContentText

-- ---- lists

cons-length : {X : Type 0} (o : Option X) (ys : List X) → length (cons_option o ys) ≡ one_if (is_some o) + length ys
cons-length None ys = omega arith
cons-length (Some y) ys = omega arith

length-filter_map : (f : ℕ → Option Kept) (ns : List ℕ) → length (filter_map f ns) ≡ count_by (λ n. is_some (f n)) ns
length-filter_map f [] = refl
length-filter_map f (n ∷ ns) =
    let rest = length-filter_map f ns in
    omega (arith, cons-length (f n) (filter_map f ns), sum_by-cons (λ k. one_if (is_some (f k))) n ns, rest)

count-each : (p : ℕ → Bool) (ns : List ℕ) → AllByRecursion (λ n. p n ≡ true) ns → count_by p ns ≡ length ns
count-each p [] h = refl
count-each p (n ∷ ns) h =
    let one : one_if (p n) ≡ 1 = ap one_if h.0 in
    let rest = count-each p ns h.1 in
    omega (arith, sum_by-cons (λ k. one_if (p k)) n ns, one, rest)

all-true : (ns : List ℕ) → AllByRecursion (λ n. true ≡ true) ns
all-true [] = tt
all-true (n ∷ ns) = (refl, all-true ns)

count-both : (p q r : ℕ → Bool) (ns : List ℕ) → ((n : ℕ) → one_if (p n) + one_if (q n) ≡ one_if (r n)) → count_by p ns + count_by q ns ≡ count_by r ns
count-both p q r [] h = refl
count-both p q r (n ∷ ns) h =
    let rest = count-both p q r ns h in
    omega (arith, h n, rest, sum_by-cons (λ k. one_if (p k)) n ns, sum_by-cons (λ k. one_if (q k)) n ns, sum_by-cons (λ k. one_if (r k)) n ns)

contains-from : (n : ℕ) (ns : List ℕ) → contains_number n ns ≡ true → Contains ns n
contains-from n [] h = absurd (false≢true h)
contains-from n (k ∷ ns) h = elim (or_cases (k == n) (contains_number n ns) h) [
  | inl is ↦ subst (Contains (k ∷ ns)) (eqb-true k n is) (Contains-append_left (k ∷ []) ns k (Contains-push [] k))
  | inr later ↦ Contains-append_right (k ∷ []) ns n (contains-from n ns later)
]

-- ---- what is kept of a summary

abbrev waits : KnownMessage → Bool
waits k = is_some k.target

module _ (s : Summary) (clock : ℕ) (is : IsOpen s clock) where
  there_at : (n : ℕ) → is_some (live_at s n) ≡ passes is_there s.known n
  there_at n = by_known (s.known n) refl
    where
      by_target : (k : KnownMessage) → s.known n ≡ Some k → (target : Option ℕ) → is_some (cond (is_some target) None (kept_of k)) ≡ not (is_some target)
      by_target k e (Some target) = refl
      by_target k e None = ap (λ (o : Option ContentText). is_some (option_map (kept_with k) o)) (is.contained n k e).1

      by_known : (o : Option KnownMessage) → s.known n ≡ o → is_some (option_and_then (λ k. cond (is_some k.target) None (kept_of k)) o) ≡ option_map_or is_there o false
      by_known None e = refl
      by_known (Some k) e = by_target k e k.target

  kept_some : (n : ℕ) → Contains s.leaving n → is_some (kept_at s n) ≡ true
  kept_some n there =
      let x = is.leaving n there in
      ap (λ (o : Option KnownMessage). is_some (option_and_then kept_of o)) x.2
      ∙ ap (λ (o : Option ContentText). is_some (option_map (kept_with x.0) o)) (is.contained n x.0 x.2).1

  kept_each : (ns : List ℕ) → AllByRecursion (λ n. Contains s.leaving n) ns → AllByRecursion (λ n. is_some (kept_at s n) ≡ true) ns
  kept_each [] h = tt
  kept_each (n ∷ ns) h = (kept_some n h.0, kept_each ns h.1)

  waiting_length : length (kept_waiting s) ≡ length s.leaving
  waiting_length =
      length-filter_map (kept_at s) s.leaving
      ∙ count-each (λ n. is_some (kept_at s n)) s.leaving (kept_each s.leaving (recursion_from_All (λ n. Contains s.leaving n) s.leaving (All-contains_itself s.leaving)))

  among : (n : ℕ) → (contains_number n s.leaving && true) ≡ passes waits s.known n
  among n = by_member (contains_number n s.leaving) refl
    where
      unwaiting : (target : Option ℕ) (k : KnownMessage) → s.known n ≡ Some k → k.target ≡ target → contains_number n s.leaving ≡ false → false ≡ is_some target
      unwaiting None k e t other = refl
      unwaiting (Some target) k e t other = absurd (true≢false (sym (contains-number n s.leaving (is.waits n k target e t)) ∙ other))

      by_known : (o : Option KnownMessage) → s.known n ≡ o → contains_number n s.leaving ≡ false → false ≡ option_map_or waits o false
      by_known None e other = refl
      by_known (Some k) e other = unwaiting k.target k e refl other

      by_member : (b : Bool) → contains_number n s.leaving ≡ b → (b && true) ≡ passes waits s.known n
      by_member true h =
          let x = is.leaving n (contains-from n s.leaving h) in
          sym (ap (λ (o : Option KnownMessage). option_map_or waits o false) x.2 ∙ ap (λ (o : Option ℕ). is_some o) x.3)
      by_member false h = by_known (s.known n) refl h

  below : (n : ℕ) → contains_number n s.leaving ≡ true → n < length s.receives
  below n h = let x = is.leaving n (contains-from n s.leaving h) in is.within n x.0 x.2

  leaving_length : length s.leaving ≡ count_by (passes waits s.known) (range_with_len 0 (length s.receives))
  leaving_length =
      sym (count-each (λ n. true) s.leaving (all-true s.leaving))
      ∙ sym (count_members (λ n. true) s.leaving (length s.receives) is.once below)
      ∙ count_agree (passes waits s.known) (λ n. contains_number n s.leaving && true) (length s.receives) among

  each_once : (n : ℕ) → one_if (passes is_there s.known n) + one_if (passes waits s.known n) ≡ one_if (passes (λ k. true) s.known n)
  each_once n = by_known (s.known n)
    where
      by_target : (target : Option ℕ) → one_if (not (is_some target)) + one_if (is_some target) ≡ 1
      by_target None = refl
      by_target (Some target) = refl

      by_known : (o : Option KnownMessage) → one_if (option_map_or is_there o false) + one_if (option_map_or waits o false) ≡ one_if (option_map_or (λ k. true) o false)
      by_known None = refl
      by_known (Some k) = by_target k.target

  kept_length : length (kept_live s ++ kept_waiting s) ≡ count_by (passes (λ k. true) s.known) (range_with_len 0 (length s.receives))
  kept_length =
      let all = range_with_len 0 (length s.receives) in
      let live : length (kept_live s) ≡ count_by (passes is_there s.known) all = length-filter_map (live_at s) all ∙ ap (λ (p : ℕ → Bool). count_by p all) (λ i. λ n. there_at n i) in
      length-append (kept_live s) (kept_waiting s)
      ∙ (λ i. live i + (waiting_length ∙ leaving_length) i)
      ∙ count-both (passes is_there s.known) (passes waits s.known) (passes (λ k. true) s.known) all each_once

pub based_weight : (uid : ℕ) (lines : List Line) (clock : ℕ) → IsSound lines clock → is_closed lines ≡ false → weight_of (based clock (base_of uid lines clock)) ≡ 1 + kept_count lines clock
based_weight uid lines clock sound unclosed =
    let s : Summary = summary_of lines clock in
    let kept = kept_length s clock (open_summary lines clock sound unclosed) in
    let none : (n : ℕ) → (1 + n) + 0 ≡ 1 + n = λ n. omega arith in
    sum_by-cons (λ (e : Line). event_weight e.event) (record { at = clock; event = Base (base_of uid lines clock) }) []
    ∙ none (length (kept_live s ++ kept_waiting s))
    ∙ ap (λ (n : ℕ). 1 + n) (kept ∙ sym (kept_told lines clock))
